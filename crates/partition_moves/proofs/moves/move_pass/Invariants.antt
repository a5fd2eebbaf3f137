use Rattle.std.proofs.Common.{◌≡◌, ℕ, ◌+◌, ◌<◌, ◌≤◌, cond, false, length}
use Rattle.chain_rules.specs.Legality.{IsLegal}
use Rattle.wire_cost.specs.Lengths.{plan_length_of}
use Rattle.partition_moves.specs.Quiet.{NoMoveBetween}
use Rattle.partition_moves.specs.Roomy.{IsKept}
use Rattle.partition_moves.proofs.moves.move_pass.Given as goal

abbrev pub invariant-loop-d : goal.invariant-loop-d
invariant-loop-d l = record {
  legal : IsLegal l.rules l.plan.plan;
  kept : IsKept l.rules l.plan;
  room : length l.blocks ≡ length l.fn.blocks;
  shorter : plan_length_of l.ends l.plan.plan + cond l.again 1 0 ≤ plan_length_of l.ends l.fn.plan.plan;
  same : l.again ≡ false → l.plan.plan ≡ l.fn.plan.plan;
  quiet : l.again ≡ false → (e : ℕ) → e < l.d → (c : ℕ) → c < length l.fn.plan.plan.chains → NoMoveBetween l.rules l.ends l.fn.plan.plan c e;
}
