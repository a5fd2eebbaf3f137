use Rattle.std.proofs.Common.{append_assoc}
use Rattle.std.proofs.lemmas.List.{append-nil}
use Rattle.chain_picture.specs.Pictures.{keys}
use Rattle.chain_picture.specs.Xml.{attribute}
use Rattle.chain_picture.proofs.legend.push_keys.Goals as goal

pub returns : goal.returns
unfolding keys attribute
returns c = record { value = rw (c.in_ok-push_word-3.ensures.value, c.in_ok-push_dashes.ensures.value, c.in_ok-push_word-2.ensures.value, c.in_ok-push_square.ensures.value, c.in_ok-push_word.ensures.value, c.in_ok-extend_from_slice-2.ensures.items, c.in_ok-push_ring.ensures.value, c.in_ok-extend_from_slice.ensures.items) (simp (append_assoc, append-nil, c.from.ensures, c.from-2.ensures, c.from-3.ensures, c.from-4.ensures, c.mark_at.ensures.value, c.mark_at-2.ensures.value)) }
