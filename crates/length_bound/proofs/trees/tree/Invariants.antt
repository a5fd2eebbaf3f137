use Rattle.std.proofs.Common.{◌≡◌, pos, ◌+◌, length}
use Rattle.std.specs.Prelude.{◌≤ℤ◌}
use Rattle.wire_cost.specs.Lengths.{chain_ends}
use Rattle.length_bound.specs.Growth.{AreLight, IsBelowOrders}
use Rattle.length_bound.proofs.trees.tree.Given as goal

abbrev pub invariant-loop-round : goal.invariant-loop-round
invariant-loop-round l = record {
  count : length l.weights ≡ length l.units + 2;
  light : AreLight l.weights;
  some : pos 0 ≤ℤ l.best;
  below : IsBelowOrders (chain_ends l.ends l.chain) l.units l.best;
}
