use Rattle.std.proofs.Common.{◌≡◌, ◌++◌, drop}
use Rattle.chain_picture.specs.Pictures.{boxes}
use Rattle.chain_picture.proofs.layers.push_boxes.Given as goal

abbrev pub invariant-loop-segment : goal.invariant-loop-segment
invariant-loop-segment l = l.text.items ++ boxes (drop l.segment-index l.segments) ≡ l.fn.text.items ++ boxes l.segments
