use Rattle.std.proofs.Common.{◌≡◌, List, ℕ, take}
use Rattle.verilog_names.specs.Declarations.{has, header_ports}
use Rattle.verilog_checks.specs.Steps.{has_key}
use Rattle.verilog_checks.proofs.select.header_ports.Given as goal

abbrev pub invariant-loop-placed : goal.invariant-loop-placed
invariant-loop-placed l = (q : List ℕ) → has_key l.set q ≡ has (header_ports (take l.placed-index l.statements)) q
