use Rattle.std.proofs.Common.{ℕ, ◌-◌, ◌<◌, ◌≤◌, length}
use Rattle.wire_cost.specs.Lengths.{chain_ends}
use Rattle.partition_moves.specs.Links.{IsCloserAt}
use Rattle.partition_moves.proofs.lift.closer_place.Given as goal

abbrev pub invariant-loop-k : goal.invariant-loop-k
invariant-loop-k l = record {
  from : l.from ≤ l.k;
  none : (j : ℕ) → l.from ≤ j → j < l.k → j < length l.units → ¬ IsCloserAt (chain_ends l.ends l.chain) l.units l.lift j;
}

abbrev pub decreases-loop-k : goal.decreases-loop-k
decreases-loop-k l = length l.units - l.k
