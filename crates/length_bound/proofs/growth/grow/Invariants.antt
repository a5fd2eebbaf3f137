use Rattle.std.proofs.Common.{◌≡◌, length}
use Rattle.std.specs.Prelude.{IsPermutation}
use Rattle.length_bound.specs.Growth.{AreNearPlaces, Grown}
use Rattle.length_bound.proofs.growth.grow.Given as goal

abbrev pub invariant-loop-k : goal.invariant-loop-k
invariant-loop-k l = record {
  same : IsPermutation l.fn.row l.row;
  places : AreNearPlaces l.row;
  grown : Grown l.n l.row l.near l.k;
  from : length l.from ≡ length l.row;
}
