use Rattle.std.proofs.Common.{◌≡◌, ◌-◌, ◌≤◌, length, drop, map}
use Rattle.stil_calls.specs.Twice.{rises_beside, rises}
use Rattle.stil_calls.proofs.twice.rises.Given as goal

abbrev pub invariant-loop-at : goal.invariant-loop-at
invariant-loop-at l = record {
  within : l.at ≤ length l.rest;
  same : rises_beside l.last (map (λ t. t.now) (drop l.at l.rest)) ≡ rises (map (λ t. t.now) l.names);
}

abbrev pub decreases-loop-at : goal.decreases-loop-at
decreases-loop-at l = length l.rest - l.at
