use Rattle.std.proofs.Common.{◌≡◌, ◌≤◌, ◌+◌, ◌*◌, ◌^◌, length, take, sum}
use Rattle.std.specs.List.{sum_by}
use Rattle.wire_cost.specs.Lengths.{lengths_from}
use Rattle.wire_cost.proofs.lengths.plan_length.Given as goal

abbrev pub invariant-loop-c : goal.invariant-loop-c
invariant-loop-c l = record {
  value : l.total ≡ sum (take l.c (lengths_from l.ends 0 l.plan.chains));
  small : l.total ≤ 2 ^ 43 * (sum_by (λ us. length us) (take l.c l.plan.chains) + l.c);
}
