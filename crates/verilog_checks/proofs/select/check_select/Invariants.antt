use Rattle.std.proofs.Common.{◌≡◌, take, drop}
use Rattle.base_types.specs.declared.kind.Kind.TheVariants.{BadSelect}
use Rattle.verilog_checks.specs.Checks.{check_from, check_select}
use Rattle.verilog_checks.specs.Faults.{bad_select}
use Rattle.verilog_checks.proofs.select.check_select.Given as goal

abbrev pub invariant-loop-placed : goal.invariant-loop-placed
invariant-loop-placed l = check_from (λ before p. bad_select l.statements p) BadSelect (take l.placed-index l.statements) (drop l.placed-index l.statements) ≡ check_select l.statements
