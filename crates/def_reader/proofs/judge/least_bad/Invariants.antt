use Rattle.std.proofs.Common.{take}
use Rattle.def_reader.specs.Faults.{FailsAt}
use Rattle.list_laws.specs.Leasts.{IsLeast}
use Rattle.def_reader.proofs.judge.least_bad.Given as goal

abbrev pub invariant-loop-row : goal.invariant-loop-row
invariant-loop-row g l = IsLeast (FailsAt g.T.Judged.bad (take l.row-index l.rows)) l.least
