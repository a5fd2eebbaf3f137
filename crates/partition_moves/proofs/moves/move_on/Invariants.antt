use Rattle.std.proofs.Common.{◌≡◌, ℕ, ◌+◌, ◌<◌, ◌≤◌, cond, length}
use Rattle.chain_rules.specs.Legality.{IsLegal, chain_at}
use Rattle.wire_cost.specs.Lengths.{chain_ends, plan_length_of}
use Rattle.partition_moves.specs.Covers.{AreBlocks}
use Rattle.partition_moves.specs.Roomy.{IsKept}
use Rattle.partition_moves.proofs.moves.move_on.Given as goal

abbrev pub invariant-units : goal.invariant-units
invariant-units l = record {
  legal : IsLegal l.rules l.plan.plan;
  kept : IsKept l.rules l.plan;
  room : length l.blocks ≡ length l.fn.blocks;
  blocks : AreBlocks (chain_ends l.ends l.d) (chain_at l.plan.plan l.d) l.blocks;
  shorter : plan_length_of l.ends l.plan.plan + 1 ≤ plan_length_of l.ends l.fn.plan.plan;
}

-- the length, and one more where a unit may still go
abbrev pub decreases-units : goal.decreases-units
decreases-units l = plan_length_of l.ends l.plan.plan + cond l.again 1 0
