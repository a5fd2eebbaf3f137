use Rattle.std.proofs.Common.{◌≡◌, ◌-◌, ◌≤◌, length, drop}
use Rattle.stil_calls.specs.Scans.{is_foreign}
use Rattle.stil_calls.proofs.scan.is_foreign.Given as goal

abbrev pub invariant-loop-at : goal.invariant-loop-at
invariant-loop-at l = record { within : l.at ≤ length l.items; same : is_foreign l.chains (drop l.at l.items) ≡ is_foreign l.chains l.items }

abbrev pub decreases-loop-at : goal.decreases-loop-at
decreases-loop-at l = length l.items - l.at
