use Rattle.std.proofs.Common.{append_assoc}
use Rattle.std.proofs.lemmas.List.{append-nil}
use Rattle.chain_picture.specs.Pictures.{square}
use Rattle.chain_picture.specs.Xml.{attribute}
use Rattle.chain_picture.proofs.layers.push_square.Goals as goal

pub returns : goal.returns
unfolding square attribute
returns c = record { value = rw (c.in-Some.is, c.in_ok-extend_from_slice-2.ensures.items, c.in_ok-push_square_data.ensures.value, c.in_ok-extend_from_slice.ensures.items) (simp (append_assoc, append-nil)) }
