use Rattle.std.proofs.Common.{◌≡◌, ℕ, ◌<◌, ◌≤◌, length}
use Rattle.chain_rules.specs.Legality.{chain_at}
use Rattle.order_search.proofs.Settling.{IsTurnedUpTo}
use Rattle.order_search.proofs.order.settle_plan.Given as goal

abbrev pub invariant-loop-c : goal.invariant-loop-c
invariant-loop-c l = record {
  turned : IsTurnedUpTo l.rules l.ends l.fn.plan l.plan l.c;
  room : (c : ℕ) → c < length l.fn.plan.chains → length (chain_at l.fn.plan c) ≤ l.sums.room;
  same_room : l.sums.room ≡ l.fn.sums.room;
}
