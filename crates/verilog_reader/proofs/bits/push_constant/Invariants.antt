use Rattle.std.proofs.Common.{◌≡◌, ◌++◌}
use Rattle.verilog_reader.proofs.bits.push_constant.Given as goal

abbrev pub invariant-loop-bit : goal.invariant-loop-bit
invariant-loop-bit l = l.bits.items ≡ l.initial.bits.items ++ l.yielded
