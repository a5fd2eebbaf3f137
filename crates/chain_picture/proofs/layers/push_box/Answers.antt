use Rattle.chain_picture.specs.Pictures.{boxes}
use Rattle.chain_picture.proofs.Grouped.{box_is}
use Rattle.chain_picture.proofs.layers.push_box.Goals as goal

pub returns : goal.returns
unfolding boxes
returns c = record { value = rw (c.in_ok-extend_from_slice-5.ensures.items, c.in_ok-push_x-2.ensures.value, c.in_ok-extend_from_slice-4.ensures.items, c.in_ok-push_y.ensures.value, c.in_ok-extend_from_slice-3.ensures.items, c.in_ok-push_x.ensures.value, c.in_ok-extend_from_slice-2.ensures.items, c.in_ok-push_point.ensures.value, c.in_ok-extend_from_slice.ensures.items) (box_is _ _ _ _ _) }
