use Rattle.std.proofs.Common.{◌≡◌, ◌-◌, ◌≤◌, length, drop}
use Rattle.std.proofs.Common.{max}
use Rattle.stil_types.specs.Calls.{longest_string}
use Rattle.stil_calls.proofs.strings.longest_string.Given as goal

abbrev pub invariant-loop-at : goal.invariant-loop-at
invariant-loop-at l = record { within : l.at ≤ length l.strings; same : max l.longest (longest_string (drop l.at l.strings)) ≡ longest_string l.strings }

abbrev pub decreases-loop-at : goal.decreases-loop-at
decreases-loop-at l = length l.strings - l.at
