use Rattle.std.proofs.Common.{append_assoc}
use Rattle.std.proofs.lemmas.List.{append-nil}
use Rattle.chain_picture.specs.Pictures.{label}
use Rattle.chain_picture.proofs.legend.push_label.Goals as goal

pub returns : goal.returns
unfolding label
returns c = record { value = rw (c.in_ok-push_nowhere-2.ensures.value, c.in_ok-push_nowhere.ensures.value, c.in_ok-push_escaped.ensures.value) (simp (append_assoc, append-nil, c.bytes.ensures.value)) }
