use Rattle.std.proofs.Common.{append_assoc}
use Rattle.std.proofs.lemmas.List.{append-nil}
use Rattle.chain_picture.specs.Pictures.{point}
use Rattle.chain_picture.proofs.layers.push_point.Goals as goal

pub returns : goal.returns
unfolding point
returns c = record { value = rw (c.in_ok-push_y.ensures.value, c.in_ok-extend_from_slice.ensures.items, c.in_ok-push_x.ensures.value) (simp (append_assoc, append-nil)) }
