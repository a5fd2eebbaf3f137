use Rattle.std.proofs.Common.{ℕ, ◌<◌, ◌≤◌}
use Rattle.wire_cost.specs.Lengths.{chain_ends}
use Rattle.partition_moves.specs.Covers.{Covers, IsNearBlock}
use Rattle.partition_moves.proofs.blocks.block.block_of.Given as goal

abbrev pub invariant-loop-k : goal.invariant-loop-k
invariant-loop-k l = record {
  near : IsNearBlock l.block;
  covers : (j : ℕ) → l.from ≤ j → j < l.k → Covers (chain_ends l.ends l.chain) l.units l.block j;
}
