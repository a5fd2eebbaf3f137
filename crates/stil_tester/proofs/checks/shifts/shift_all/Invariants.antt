use Rattle.std.proofs.Common.{◌≡◌}
use Rattle.stil_tester.specs.Shifting.{cells_before, met_before}
use Rattle.stil_tester.proofs.checks.shifts.shift_all.Given as goal

abbrev pub invariant-loop-k : goal.invariant-loop-k
invariant-loop-k l = record {
  cells : l.cells ≡ cells_before l.chains l.fn.cells l.call l.k;
  verdict : l.passed ≡ met_before l.chains l.fn.cells l.call l.k;
}
