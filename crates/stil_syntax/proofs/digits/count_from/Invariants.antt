use Rattle.std.proofs.Common.{◌≡◌, ◌-◌, ◌≤◌, length, drop}
use Rattle.stil_syntax.specs.Digits.{count_from}
use Rattle.stil_syntax.proofs.digits.count_from.Given as goal

abbrev pub invariant-loop-at : goal.invariant-loop-at
invariant-loop-at l = record { within : l.at ≤ length l.digits; same : count_from l.number (drop l.at l.digits) ≡ count_from 0 l.digits }

abbrev pub decreases-loop-at : goal.decreases-loop-at
decreases-loop-at l = length l.digits - l.at
