use Rattle.std.proofs.Common.{append_assoc}
use Rattle.std.proofs.lemmas.List.{append-nil}
use Rattle.chain_picture.specs.Pictures.{link}
use Rattle.chain_picture.proofs.layers.push_link.Goals as goal

pub returns : goal.returns
unfolding link
returns c = record { value = rw (c.in_ok-extend_from_slice-2.ensures.items, c.in_ok-push_y_of-2.ensures.value, c.in_ok-push_x_of-2.ensures.value, c.in_ok-push_y_of.ensures.value, c.in_ok-push_x_of.ensures.value, c.in_ok-extend_from_slice.ensures.items) (simp (append_assoc, append-nil)) }
