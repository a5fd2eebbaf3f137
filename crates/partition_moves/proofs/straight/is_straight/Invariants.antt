use Rattle.std.proofs.Common.{ℕ, ◌<◌}
use Rattle.wire_cost.specs.Lengths.{chain_ends}
use Rattle.partition_moves.specs.Straight.{IsStraightAt}
use Rattle.partition_moves.proofs.straight.is_straight.Given as goal

abbrev pub invariant-loop-k : goal.invariant-loop-k
invariant-loop-k l = (j : ℕ) → j < l.k → IsStraightAt (chain_ends l.ends l.chain) l.units l.widest j
