use Rattle.std.proofs.Common.{◌≡◌, ◌-◌, ◌++◌}
use Rattle.verilog_reader.specs.Numbering.{net_bits}
use Rattle.verilog_reader.proofs.bits.push_nets.Given as goal

abbrev pub invariant-loop-number : goal.invariant-loop-number
invariant-loop-number l = l.bits.items ++ net_bits l.number (l.end - l.number) ≡ l.initial.bits.items ++ net_bits l.first (l.end - l.first)
