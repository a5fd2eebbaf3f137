use Rattle.std.proofs.Common.{◌≡◌, ◌-◌, ◌≤◌, length, drop}
use Rattle.stil_calls.specs.Keys.{keys_rise_beside, keys_rise}
use Rattle.stil_calls.proofs.twice.keys_rise.Given as goal

abbrev pub invariant-loop-at : goal.invariant-loop-at
invariant-loop-at l = record {
  within : l.at ≤ length l.rest;
  same : keys_rise_beside l.last (drop l.at l.rest) ≡ keys_rise l.keys;
}

abbrev pub decreases-loop-at : goal.decreases-loop-at
decreases-loop-at l = length l.rest - l.at
