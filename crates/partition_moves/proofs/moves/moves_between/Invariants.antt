use Rattle.std.proofs.Common.{◌≡◌, ℕ, ◌+◌, ◌<◌, ◌≤◌, cond, false, length}
use Rattle.chain_rules.specs.Legality.{IsLegal, chain_at}
use Rattle.wire_cost.specs.Lengths.{chain_ends, plan_length_of}
use Rattle.partition_moves.specs.Covers.{AreBlocks}
use Rattle.order_search.specs.Trials.{NoMoveTo}
use Rattle.partition_moves.specs.Roomy.{IsKept}
use Rattle.partition_moves.proofs.moves.moves_between.Given as goal

abbrev pub invariant-loop-i : goal.invariant-loop-i
invariant-loop-i l = record {
  legal : IsLegal l.rules l.plan.plan;
  kept : IsKept l.rules l.plan;
  room : length l.blocks ≡ length l.fn.blocks;
  blocks : AreBlocks (chain_ends l.ends l.d) (chain_at l.plan.plan l.d) l.blocks;
  shorter : plan_length_of l.ends l.plan.plan + cond l.again 1 0 ≤ plan_length_of l.ends l.fn.plan.plan;
  same : l.again ≡ false → l.plan.plan ≡ l.fn.plan.plan;
  quiet : l.again ≡ false → (k : ℕ) → k < l.i → NoMoveTo l.rules l.ends l.fn.plan.plan l.c k l.d;
}
