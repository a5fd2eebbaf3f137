use Rattle.std.proofs.Common.{◌≡◌, ◌+◌, false, length}
use Rattle.lef_pins.specs.BlockReading.{passing_len}
use Rattle.lef_pins.proofs.cuts.passing_len.Given as goal

abbrev pub invariant-loop-token : goal.invariant-loop-token
invariant-loop-token l = record { same : l.count + passing_len l.extended l.tokens ≡ passing_len false l.fn.tokens; within : l.count + length l.tokens ≡ length l.fn.tokens }

abbrev pub decreases-loop-token : goal.decreases-loop-token
decreases-loop-token l = length l.tokens
