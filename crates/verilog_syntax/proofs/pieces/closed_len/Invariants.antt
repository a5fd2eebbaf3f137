use Rattle.std.proofs.Common.{◌≡◌, ◌+◌, ◌-◌, ◌≤◌, length, drop}
use Rattle.verilog_syntax.specs.VerilogTokens.{closed_len}
use Rattle.verilog_syntax.proofs.pieces.closed_len.Given as goal

abbrev pub invariant-loop-n : goal.invariant-loop-n
invariant-loop-n l = record { within : l.n ≤ length l.bytes; same : l.n + closed_len l.closing (drop l.n l.bytes) ≡ closed_len l.closing l.bytes }

abbrev pub decreases-loop-n : goal.decreases-loop-n
decreases-loop-n l = length l.bytes - l.n
