use Rattle.std.proofs.Common.{◌≡◌, ◌++◌, drop}
use Rattle.verilog_reader.specs.Numbering.{numbered_ports}
use Rattle.verilog_reader.proofs.fold.ports_of.Given as goal

abbrev pub invariant-loop-placed : goal.invariant-loop-placed
invariant-loop-placed l = l.ports ++ numbered_ports l.nets (drop l.placed-index l.statements) ≡ numbered_ports l.nets l.statements
