use Rattle.std.proofs.Common.{◌-◌, length}
use Rattle.chain_trace.specs.Faults.{IsMet}
use Rattle.chain_trace.specs.Drivers.{AreMarks, Says}
use Rattle.chain_trace.proofs.tracer.Tracer.walk.Given as goal

abbrev pub invariant-back : goal.invariant-back
invariant-back l = record {
  met : IsMet l.self.netlist l.self.cells l.output l.steps.items l.sink;
  says : Says l.self.netlist l.self.cells l.sink l.found;
  marks : AreMarks l.steps.items l.marks;
}

abbrev pub decreases-back : goal.decreases-back
decreases-back l = 18446744073709551616 - length l.steps.items
