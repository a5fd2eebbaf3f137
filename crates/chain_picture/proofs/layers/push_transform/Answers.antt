use Rattle.std.proofs.Common.{append_assoc}
use Rattle.std.proofs.lemmas.List.{append-nil}
use Rattle.chain_picture.specs.Pictures.{transform}
use Rattle.chain_picture.proofs.layers.push_transform.Goals as goal

pub returns : goal.returns
unfolding transform
returns c = record { value = rw (c.in_ok-extend_from_slice-5.ensures.items, c.in_ok-push_y.ensures.value, c.in_ok-extend_from_slice-4.ensures.items, c.in_ok-push_x.ensures.value, c.in_ok-extend_from_slice-3.ensures.items, c.in_ok-push_size-2.ensures.value, c.in_ok-extend_from_slice-2.ensures.items, c.in_ok-push_size.ensures.value, c.in_ok-extend_from_slice.ensures.items) (simp (append_assoc, append-nil)) }
