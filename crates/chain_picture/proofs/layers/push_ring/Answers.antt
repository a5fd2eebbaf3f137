use Rattle.std.proofs.Common.{append_assoc}
use Rattle.std.proofs.lemmas.List.{append-nil}
use Rattle.chain_picture.specs.Pictures.{ring}
use Rattle.chain_picture.proofs.layers.push_ring.Goals as goal

pub returns : goal.returns
unfolding ring
returns c = record { value = rw (c.in-Some.is, c.in_ok-extend_from_slice-2.ensures.items, c.in_ok-push_attribute.ensures.value, c.in_ok-push_size_of.ensures.value, c.in_ok-push_y_of.ensures.value, c.in_ok-push_x_of.ensures.value, c.in_ok-extend_from_slice.ensures.items) (simp (append_assoc, append-nil)) }
