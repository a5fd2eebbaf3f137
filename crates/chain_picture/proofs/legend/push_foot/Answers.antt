use Rattle.std.proofs.Common.{append_assoc}
use Rattle.std.proofs.lemmas.List.{append-nil}
use Rattle.chain_picture.specs.Pictures.{foot}
use Rattle.chain_picture.proofs.legend.push_foot.Goals as goal

pub returns : goal.returns
unfolding foot
returns c = record { value = rw (c.in_ok-push_keys.ensures.value, c.in_ok-push_word.ensures.value, c.in_ok-push_numbers.ensures.value) (simp (append_assoc, append-nil)) }
