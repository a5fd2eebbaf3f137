use Rattle.std.proofs.Common.{List, ◌++◌, take}
use Rattle.chain_trace.specs.declared.path.Step.{Step}
use Rattle.chain_trace.specs.Drivers.{AreMarks}
use Rattle.traced_paths.proofs.shared.mark_all.Given as goal

abbrev pub invariant-loop-step : goal.invariant-loop-step
invariant-loop-step l = (before : List Step) → AreMarks before l.initial.marks → AreMarks (before ++ take l.step-index l.steps) l.marks
