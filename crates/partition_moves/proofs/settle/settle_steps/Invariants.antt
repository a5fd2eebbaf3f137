use Rattle.std.proofs.Common.{◌≡◌, ◌+◌, ◌*◌, ◌<◌, ◌≤◌, cond, false, length}
use Rattle.chain_rules.specs.Legality.{IsLegal}
use Rattle.wire_cost.specs.Lengths.{plan_length_of}
use Rattle.order_search.specs.Steps.{IsSettled}
use Rattle.order_search.specs.declared.effort.Effort.TheVariants.{Full}
use Rattle.partition_moves.specs.Roomy.{IsKept}
use Rattle.partition_moves.proofs.settle.settle_steps.Given as goal

abbrev pub invariant-passes : goal.invariant-passes
invariant-passes l = record {
  legal : IsLegal l.rules l.plan.plan;
  kept : IsKept l.rules l.plan;
  room : length l.rules.units < 32 * length l.blocks;
  no_longer : plan_length_of l.ends l.plan.plan ≤ plan_length_of l.ends l.fn.plan.plan;
  sums : length l.rules.units ≤ l.sums.room;
  settled : l.again ≡ false → IsSettled Full l.rules l.ends l.plan.plan;
}

-- the length, and one more where another pass is to come
abbrev pub decreases-passes : goal.decreases-passes
decreases-passes l = plan_length_of l.ends l.plan.plan + cond l.again 1 0
