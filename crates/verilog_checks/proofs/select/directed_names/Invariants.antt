use Rattle.std.proofs.Common.{◌≡◌, List, ℕ, take}
use Rattle.verilog_names.specs.Declarations.{declarations}
use Rattle.verilog_checks.specs.Faults.{has_direction}
use Rattle.verilog_checks.specs.Steps.{has_key}
use Rattle.verilog_checks.proofs.select.directed_names.Given as goal

abbrev pub invariant-loop-placed : goal.invariant-loop-placed
invariant-loop-placed l = (q : List ℕ) → has_key l.set q ≡ has_direction (declarations (take l.placed-index l.statements)) q
