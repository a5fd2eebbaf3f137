use Rattle.std.proofs.Common.{◌≡◌, ◌-◌, ◌≤◌, length, drop}
use Rattle.stil_calls.specs.Scans.{data_for}
use Rattle.stil_calls.proofs.scan.data_for.Given as goal

abbrev pub invariant-loop-at : goal.invariant-loop-at
invariant-loop-at l = record { within : l.at ≤ length l.items; same : data_for (drop l.at l.items) l.name ≡ data_for l.items l.name }

abbrev pub decreases-loop-at : goal.decreases-loop-at
decreases-loop-at l = length l.items - l.at
