use Rattle.chain_picture.specs.Pictures.{links_from}
use Rattle.chain_picture.specs.Xml.{attribute}
use Rattle.chain_picture.proofs.Grouped.{chain_is}
use Rattle.chain_picture.proofs.layers.push_chain.Goals as goal

pub returns : goal.returns
unfolding links_from attribute
returns c = record { value = rw (c.in_ok-extend_from_slice-5.ensures.items, c.in_ok-push_links.ensures.value, c.in_ok-extend_from_slice-4.ensures.items, c.in_ok-push_strokes.ensures.value, c.in_ok-extend_from_slice-3.ensures.items, c.in_ok-push_size_of.ensures.value, c.in_ok-extend_from_slice-2.ensures.items, c.in_ok-push_colour.ensures.value, c.in_ok-extend_from_slice.ensures.items, c.as_slice.ensures.value, c.as_slice-2.ensures.value) (chain_is _ _ _ _ _) }
