use Rattle.std.proofs.Common.{append_assoc}
use Rattle.std.proofs.lemmas.List.{append-nil}
use Rattle.chain_picture.specs.Pictures.{marks_from}
use Rattle.chain_picture.proofs.layers.push_marks.Goals as goal

pub returns : goal.returns
unfolding marks_from
returns c = record { value = rw (c.in_ok-extend_from_slice-3.ensures.items, c.in_ok-push_square.ensures.value, c.in_ok-push_ring.ensures.value, c.in_ok-extend_from_slice-2.ensures.items, c.in_ok-push_colour-2.ensures.value, c.in_ok-push_colour.ensures.value, c.in_ok-extend_from_slice.ensures.items) (simp (append_assoc, append-nil)) }
