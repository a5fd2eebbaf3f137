use Rattle.std.proofs.Common.{map, take}
use Rattle.traced_paths.specs.Asked.{told}
use Rattle.traced_paths.specs.Steps.{HaveOutputs}
use Rattle.traced_paths.proofs.outputs.outputs_of.Given as goal

abbrev pub invariant-loop-ask : goal.invariant-loop-ask
invariant-loop-ask l = HaveOutputs l.ports (map told (take l.ask-index l.asks)) l.nets.items l.seen
