use Rattle.std.proofs.Common.{append_assoc}
use Rattle.std.proofs.lemmas.List.{append-nil}
use Rattle.chain_picture.specs.Pictures.{heads, word_at}
use Rattle.chain_picture.proofs.legend.push_heads.Goals as goal

pub returns : goal.returns
unfolding heads word_at
returns c = record { value = rw (c.in_ok-push_word.ensures.value, c.in_ok-push_until-3.ensures.value, c.in_ok-push_until-2.ensures.value, c.in_ok-push_until.ensures.value, c.in_ok-extend_from_slice-2.ensures.items, c.in_ok-push_size.ensures.value, c.in_ok-extend_from_slice.ensures.items, c.in_ok-push_at.ensures.value) (simp (append_assoc, append-nil)) }
