use Rattle.std.proofs.Common.{◌≡◌, ◌-◌, ◌≤◌, length, drop}
use Rattle.std.proofs.Common.{max}
use Rattle.stil_types.specs.Calls.{most_bits}
use Rattle.stil_calls.specs.Scans.{bits_of}
use Rattle.stil_calls.proofs.scan.most_bits.Given as goal

abbrev pub invariant-loop-at : goal.invariant-loop-at
invariant-loop-at l = record { within : l.at ≤ length l.chains; same : max l.most (most_bits (bits_of (drop l.at l.chains))) ≡ most_bits (bits_of l.chains) }

abbrev pub decreases-loop-at : goal.decreases-loop-at
decreases-loop-at l = length l.chains - l.at
