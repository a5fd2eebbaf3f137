use Rattle.std.proofs.Common.{append_assoc}
use Rattle.std.proofs.lemmas.List.{append-nil}
use Rattle.chain_picture.specs.Pictures.{word_until, word_at}
use Rattle.chain_picture.specs.Xml.{attribute}
use Rattle.chain_picture.proofs.legend.push_until.Goals as goal

pub returns : goal.returns
unfolding word_until word_at attribute
returns c = record { value = rw (c.in_ok-extend_from_slice-3.ensures.items, c.in_ok-extend_from_slice-2.ensures.items, c.in_ok-extend_from_slice.ensures.items, c.in_ok-push_at.ensures.value) (simp (append_assoc, append-nil)) }
