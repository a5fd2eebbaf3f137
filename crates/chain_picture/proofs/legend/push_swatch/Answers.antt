use Rattle.std.proofs.Common.{append_assoc}
use Rattle.std.proofs.lemmas.List.{append-nil}
use Rattle.chain_picture.specs.Pictures.{swatch}
use Rattle.chain_picture.specs.Xml.{attribute}
use Rattle.chain_picture.proofs.legend.push_swatch.Goals as goal

pub returns : goal.returns
unfolding swatch attribute
returns c = record { value = rw (c.in_ok-extend_from_slice-3.ensures.items, c.in_ok-push_colour.ensures.value, c.in_ok-extend_from_slice-2.ensures.items, c.in_ok-push_size_of.ensures.value, c.in_ok-extend_from_slice.ensures.items) (simp (append_assoc, append-nil)) }
