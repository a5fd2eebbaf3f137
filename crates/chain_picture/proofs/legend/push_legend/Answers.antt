use Rattle.chain_picture.specs.Pictures.{legend}
use Rattle.chain_picture.specs.Xml.{attribute}
use Rattle.chain_picture.proofs.Grouped.{legend_is}
use Rattle.chain_picture.proofs.legend.push_legend.Goals as goal

pub returns : goal.returns
unfolding legend attribute
returns c = record { value = rw (c.in_ok-extend_from_slice-4.ensures.items, c.in_ok-push_table.ensures.value, c.in_ok-push_scale.ensures.value, c.in_ok-extend_from_slice-3.ensures.items, c.in_ok-push_size-2.ensures.value, c.in_ok-extend_from_slice-2.ensures.items, c.in_ok-push_size.ensures.value, c.in_ok-extend_from_slice.ensures.items, c.from.ensures) (legend_is _ _ _ _ _) }
