use Rattle.chain_picture.specs.Pictures.{cells_from}
use Rattle.chain_picture.specs.Xml.{attribute}
use Rattle.chain_picture.proofs.Grouped.{cells_is}
use Rattle.chain_picture.proofs.layers.push_cells.Goals as goal

pub returns : goal.returns
unfolding cells_from attribute
returns c = record { value = rw (c.in_ok-extend_from_slice-3.ensures.items, c.in_ok-push_boxes.ensures.value, c.in_ok-extend_from_slice-2.ensures.items, c.in_ok-push_colour.ensures.value, c.in_ok-extend_from_slice.ensures.items, c.as_slice.ensures.value) (cells_is _ _ _) }
