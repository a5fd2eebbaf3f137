use Rattle.std.proofs.Common.{◌≡◌, ◌++◌, drop}
use Rattle.chain_picture.specs.Pictures.{strokes}
use Rattle.chain_picture.proofs.layers.push_strokes.Given as goal

abbrev pub invariant-loop-segment : goal.invariant-loop-segment
invariant-loop-segment l = l.text.items ++ strokes (drop l.segment-index l.segments) ≡ l.fn.text.items ++ strokes l.segments
