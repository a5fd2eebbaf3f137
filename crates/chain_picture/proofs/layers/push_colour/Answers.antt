use Rattle.chain_picture.specs.Pictures.{colour}
use Rattle.chain_picture.specs.Xml.{attribute}
use Rattle.chain_picture.proofs.Grouped.{colour_is}
use Rattle.chain_picture.proofs.layers.push_colour.Goals as goal

pub returns : goal.returns
unfolding attribute colour
returns c = record { value = rw (c.in_ok-extend_from_slice-6.ensures.items, c.in_ok-extend_from_slice-5.ensures.items, c.in_ok-extend_from_slice-4.ensures.items, c.in_ok-extend_from_slice-3.ensures.items, c.in_ok-extend_from_slice-2.ensures.items, c.in_ok-extend_from_slice.ensures.items, c.digits_of.ensures.value) (colour_is _ _ _) }
