use Rattle.std.proofs.Common.{◌≡◌, ◌++◌, List, map, drop}
use Rattle.netlist_core.specs.declared.netlist.NetName.{NetName}
use Rattle.netlist_core.specs.Netlists.{named_instance}
use Rattle.path_links.specs.Erasure.{erased_instance}
use Rattle.path_links.proofs.instances.erased_instances.Given as goal

abbrev pub invariant-loop-instance : goal.invariant-loop-instance
invariant-loop-instance l = (nets : List NetName) →
    map (named_instance nets) l.copies ++ map (erased_instance l.sinks) (map (named_instance nets) (drop l.instance-index l.instances))
    ≡ map (erased_instance l.sinks) (map (named_instance nets) l.instances)
