use Rattle.std.proofs.Common.{take}
use Rattle.verilog_names.specs.Declarations.{declarations}
use Rattle.verilog_checks.specs.Seen.{AreClosed}
use Rattle.verilog_checks.proofs.scalars.closed_declared.Given as goal

abbrev pub invariant-loop-placed : goal.invariant-loop-placed
invariant-loop-placed l = AreClosed l.set (declarations (take l.placed-index l.statements))
