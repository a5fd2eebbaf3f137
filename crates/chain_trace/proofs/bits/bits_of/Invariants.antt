use Rattle.std.proofs.Common.{take}
use Rattle.chain_trace.specs.Parities.{path_marks, GoesOn}
use Rattle.chain_trace.proofs.bits.bits_of.Given as goal

abbrev pub invariant-loop-step : goal.invariant-loop-step
invariant-loop-step l = GoesOn l.initial.all l.all (path_marks l.netlist l.table (take l.step-index l.path.steps))
