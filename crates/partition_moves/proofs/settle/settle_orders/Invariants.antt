use Rattle.std.proofs.Common.{◌≡◌}
use Rattle.order_search.proofs.Settling.{IsTurnedUpTo}
use Rattle.partition_moves.proofs.settle.settle_orders.Given as goal

abbrev pub invariant-loop-c : goal.invariant-loop-c
invariant-loop-c l = record {
  turned : IsTurnedUpTo l.rules l.ends l.fn.plan.plan l.plan.plan l.c;
  rooms : l.plan.rooms ≡ l.fn.plan.rooms;
  bits : l.plan.bits ≡ l.fn.plan.bits;
  least : l.plan.least ≡ l.fn.plan.least;
  same_room : l.sums.room ≡ l.fn.sums.room;
}
