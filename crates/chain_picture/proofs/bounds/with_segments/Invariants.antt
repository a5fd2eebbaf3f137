use Rattle.std.proofs.Common.{◌≡◌, drop}
use Rattle.chain_picture.specs.Sizes.{with_segments}
use Rattle.chain_picture.proofs.bounds.with_segments.Given as goal

abbrev pub invariant-loop-segment : goal.invariant-loop-segment
invariant-loop-segment l = with_segments l.held (drop l.segment-index l.segments) ≡ with_segments l.fn.bounds l.segments
