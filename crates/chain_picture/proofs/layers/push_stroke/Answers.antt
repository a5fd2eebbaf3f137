use Rattle.chain_picture.specs.Pictures.{strokes}
use Rattle.chain_picture.proofs.Grouped.{stroke_is}
use Rattle.chain_picture.proofs.layers.push_stroke.Goals as goal

pub returns : goal.returns
unfolding strokes
returns c = record { value = rw (c.in_ok-push_point-2.ensures.value, c.in_ok-extend_from_slice-2.ensures.items, c.in_ok-push_point.ensures.value, c.in_ok-extend_from_slice.ensures.items) (stroke_is _ _ _) }
