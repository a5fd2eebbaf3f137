use Rattle.std.proofs.Common.{append_assoc}
use Rattle.std.proofs.lemmas.List.{append-nil}
use Rattle.chain_picture.proofs.legend.push_at.Goals as goal

pub returns : goal.returns
returns c = record { value = rw (c.in_ok-push_size_of-2.ensures.value, c.in_ok-push_size_of.ensures.value, c.in_ok-extend_from_slice.ensures.items) (simp (append_assoc, append-nil)) }
