use Rattle.std.proofs.Common.{◌-◌, ◌≤◌, length}
use Rattle.verilog_syntax.proofs.VerilogPieces.{DigitsSoFar}
use Rattle.verilog_syntax.proofs.number.digits_len.Given as goal

abbrev pub invariant-loop-at : goal.invariant-loop-at
invariant-loop-at l = record { within : l.at ≤ length l.bytes; less : l.len ≤ l.at; same : DigitsSoFar l.base l.bytes l.at l.len }

abbrev pub decreases-loop-at : goal.decreases-loop-at
decreases-loop-at l = length l.bytes - l.at
