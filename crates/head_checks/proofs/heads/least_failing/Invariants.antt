use Rattle.std.proofs.Common.{take}
use Rattle.std.specs.List.{zip}
use Rattle.list_laws.specs.Leasts.{IsLeast}
use Rattle.head_checks.specs.Heads.{FailsOn, line_of}
use Rattle.head_checks.proofs.heads.least_failing.Given as goal

abbrev pub invariant-loop-k : goal.invariant-loop-k
invariant-loop-k g l = IsLeast (FailsOn (g.T.Test.fails l.test) line_of (take l.k (zip l.chains l.paths))) l.least
