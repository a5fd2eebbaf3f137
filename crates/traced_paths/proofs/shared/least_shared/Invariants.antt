use Rattle.std.proofs.Common.{take}
use Rattle.chain_trace.specs.Drivers.{AreMarks}
use Rattle.list_laws.specs.Leasts.{IsLeast}
use Rattle.traced_paths.specs.Traced.{steps_of}
use Rattle.traced_paths.specs.Steps.{StandsAgain}
use Rattle.traced_paths.proofs.shared.least_shared.Given as goal

abbrev pub invariant-loop-path : goal.invariant-loop-path
invariant-loop-path l = record {
  marked : AreMarks (steps_of (take l.path-index l.paths)) l.marks;
  least : IsLeast (StandsAgain l.netlist (take l.path-index l.paths)) l.least;
}
