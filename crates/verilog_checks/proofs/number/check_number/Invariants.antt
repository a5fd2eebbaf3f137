use Rattle.std.proofs.Common.{◌≡◌, ◌≤◌, true, take, drop}
use Rattle.base_types.specs.declared.kind.Kind.TheVariants.{VerilogNumber}
use Rattle.verilog_names.specs.Declarations.{declarations}
use Rattle.verilog_checks.specs.Checks.{check_from, check_number}
use Rattle.verilog_checks.specs.Faults.{bad_number}
use Rattle.verilog_checks.specs.Steps.{are_small, AreCounted}
use Rattle.verilog_checks.proofs.number.check_number.Given as goal

abbrev pub invariant-loop-placed : goal.invariant-loop-placed
invariant-loop-placed l = record {
  same : check_from bad_number VerilogNumber (take l.placed-index l.statements) (drop l.placed-index l.statements) ≡ check_number l.statements;
  small : are_small (take l.placed-index l.statements) ≡ true;
  counted : AreCounted l.vectors (declarations (take l.placed-index l.statements));
  room : l.vectors.bits ≤ 16777216;
}
