use Rattle.chain_picture.specs.Pictures.{scale}
use Rattle.chain_picture.specs.Xml.{attribute}
use Rattle.chain_picture.proofs.Grouped.{scale_is}
use Rattle.chain_picture.proofs.legend.push_scale.Goals as goal

pub returns : goal.returns
unfolding scale attribute
returns c = record { value = rw (c.in_ok-extend_from_slice-4.ensures.items, c.in_ok-push_size-2.ensures.value, c.in_ok-extend_from_slice-3.ensures.items, c.in_ok-push_size.ensures.value, c.in_ok-extend_from_slice-2.ensures.items, c.in_ok-push_size_of.ensures.value, c.in_ok-extend_from_slice.ensures.items, c.from.ensures) (scale_is _ _ _ _) }
