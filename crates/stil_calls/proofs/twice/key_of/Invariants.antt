use Rattle.std.proofs.Common.{◌≡◌, ◌-◌, ◌≤◌, length, drop}
use Rattle.stil_calls.specs.Keys.{key_from, key_of}
use Rattle.stil_calls.proofs.twice.key_of.Given as goal

abbrev pub invariant-loop-at : goal.invariant-loop-at
invariant-loop-at l = record { within : l.at ≤ length l.name; same : key_from l.number l.letters (drop l.at l.name) ≡ key_of l.name }

abbrev pub decreases-loop-at : goal.decreases-loop-at
decreases-loop-at l = length l.name - l.at
