use Rattle.std.proofs.Common.{append_assoc}
use Rattle.std.proofs.lemmas.List.{append-nil}
use Rattle.chain_picture.specs.Pictures.{square_data}
use Rattle.chain_picture.proofs.layers.push_square_data.Goals as goal

pub returns : goal.returns
unfolding square_data
returns c = record { value = rw (c.in_ok-extend_from_slice-7.ensures.items, c.in_ok-push_size-5.ensures.value, c.in_ok-extend_from_slice-6.ensures.items, c.in_ok-push_size-4.ensures.value, c.in_ok-extend_from_slice-5.ensures.items, c.in_ok-push_size-3.ensures.value, c.in_ok-extend_from_slice-4.ensures.items, c.in_ok-push_size-2.ensures.value, c.in_ok-extend_from_slice-3.ensures.items, c.in_ok-push_size.ensures.value, c.in_ok-extend_from_slice-2.ensures.items, c.in_ok-push_point.ensures.value, c.in_ok-extend_from_slice.ensures.items) (simp (append_assoc, append-nil)) }
