use Rattle.std.proofs.Common.{append_assoc}
use Rattle.std.proofs.lemmas.List.{append-nil}
use Rattle.chain_picture.specs.Pictures.{dashes}
use Rattle.chain_picture.specs.Xml.{attribute}
use Rattle.chain_picture.proofs.legend.push_dashes.Goals as goal

pub returns : goal.returns
unfolding dashes attribute
returns c = record { value = rw (c.in_ok-push_word.ensures.value, c.in_ok-extend_from_slice-2.ensures.items, c.in_ok-push_size.ensures.value, c.in_ok-extend_from_slice.ensures.items) (simp (append_assoc, append-nil)) }
