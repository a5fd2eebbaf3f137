use Rattle.chain_picture.specs.Pictures.{drawing}
use Rattle.chain_picture.specs.Xml.{attribute}
use Rattle.chain_picture.proofs.Grouped.{drawing_is}
use Rattle.chain_picture.proofs.layers.push_drawing.Goals as goal

pub returns : goal.returns
unfolding drawing attribute
returns c = record { value = rw (c.in_ok-extend_from_slice-7.ensures.items, c.in_ok-push_mark_layer.ensures.value, c.in_ok-extend_from_slice-6.ensures.items, c.in_ok-push_size_of-2.ensures.value, c.in_ok-extend_from_slice-5.ensures.items, c.in_ok-push_link_layer.ensures.value, c.in_ok-extend_from_slice-4.ensures.items, c.in_ok-push_size_of.ensures.value, c.in_ok-extend_from_slice-3.ensures.items, c.in_ok-push_cell_layer.ensures.value, c.in_ok-extend_from_slice-2.ensures.items, c.in_ok-push_transform.ensures.value, c.in_ok-extend_from_slice.ensures.items) (drawing_is _ _ _ _ _ _ _) }
