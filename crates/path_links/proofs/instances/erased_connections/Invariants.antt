use Rattle.std.proofs.Common.{◌≡◌, ◌++◌, List, map, drop}
use Rattle.netlist_core.specs.declared.netlist.NetName.{NetName}
use Rattle.netlist_core.specs.Netlists.{named_pin}
use Rattle.path_links.specs.Erasure.{erased_pin}
use Rattle.path_links.proofs.instances.erased_connections.Given as goal

abbrev pub invariant-loop-connection : goal.invariant-loop-connection
invariant-loop-connection l = (nets : List NetName) →
    map (named_pin nets) l.copies ++ map (erased_pin l.sinks l.instance) (map (named_pin nets) (drop l.connection-index l.connections))
    ≡ map (erased_pin l.sinks l.instance) (map (named_pin nets) l.connections)
