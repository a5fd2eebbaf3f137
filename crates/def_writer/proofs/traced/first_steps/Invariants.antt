use Rattle.std.proofs.Common.{take}
use Rattle.def_writer.specs.Seen.{AreTraced}
use Rattle.def_writer.proofs.traced.first_steps.Given as goal

abbrev pub invariant-loop-path : goal.invariant-loop-path
invariant-loop-path l = AreTraced (take l.path-index l.paths) l.steps
