use Rattle.std.proofs.Common.{take}
use Rattle.traced_paths.specs.Steps.{AreTracedSoFar}
use Rattle.traced_paths.proofs.tracing.trace_all.Given as goal

abbrev pub invariant-loop-net : goal.invariant-loop-net
invariant-loop-net l = AreTracedSoFar l.tracer.netlist l.tracer.cells (take l.net-index l.nets) l.paths.items l.first
