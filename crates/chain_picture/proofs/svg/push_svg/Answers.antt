use Rattle.chain_picture.specs.Pictures.{svg_by}
use Rattle.chain_picture.specs.Xml.{attribute}
use Rattle.chain_picture.proofs.Grouped.{svg_is}
use Rattle.chain_picture.proofs.svg.push_svg.Goals as goal

pub returns : goal.returns
unfolding svg_by attribute
returns c = record { value = rw (c.in_ok-extend_from_slice-3.ensures.items, c.in_ok-push_legend.ensures.value, c.in_ok-push_drawing.ensures.value, c.in_ok-extend_from_slice-2.ensures.items, c.in_ok-push_view.ensures.value, c.in_ok-extend_from_slice.ensures.items) (svg_is _ _ _ _) }
