use Rattle.std.proofs.Common.{◌≡◌, take, drop}
use Rattle.base_types.specs.declared.kind.Kind.TheVariants.{VerilogTwice}
use Rattle.verilog_checks.specs.Checks.{check_from, bad_twice, check_twice}
use Rattle.verilog_checks.specs.Seen.{IsSeen}
use Rattle.verilog_checks.proofs.twice.check_twice.Given as goal

abbrev pub invariant-loop-placed : goal.invariant-loop-placed
invariant-loop-placed l = record {
  same : check_from (bad_twice l.statements) VerilogTwice (take l.placed-index l.statements) (drop l.placed-index l.statements) ≡ check_twice l.statements;
  seen : IsSeen l.statements (take l.placed-index l.statements) l.seen;
}
