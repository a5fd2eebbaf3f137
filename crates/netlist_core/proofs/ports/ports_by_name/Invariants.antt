use Rattle.netlist_core.specs.Netlists.{plain_of}
use Rattle.netlist_core.specs.Places.{AreNoted}
use Rattle.netlist_core.proofs.ports.ports_by_name.Given as goal

abbrev pub invariant-loop-place : goal.invariant-loop-place
invariant-loop-place l = AreNoted (λ port. plain_of l.nets port.net) l.places l.ports l.place
