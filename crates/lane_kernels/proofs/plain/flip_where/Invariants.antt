use Rattle.std.proofs.Common.{◌≡◌, take, drop}
use Rattle.std.specs.Simd.Lanes.{zip2}
use Rattle.lane_kernels.specs.Kernels.{flipped_where}
use Rattle.lane_kernels.proofs.plain.flip_where.Given as goal

abbrev pub invariant-loop-at : goal.invariant-loop-at
invariant-loop-at l = record {
  done : take l.at l.symbols ≡ zip2 flipped_where (take l.at l.fn.symbols) (take l.at l.mask);
  left : drop l.at l.symbols ≡ drop l.at l.fn.symbols;
}
