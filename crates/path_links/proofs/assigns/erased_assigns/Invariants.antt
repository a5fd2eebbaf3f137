use Rattle.std.proofs.Common.{◌≡◌, ◌++◌, map, drop}
use Rattle.netlist_core.specs.Netlists.{named_assign}
use Rattle.path_links.specs.Erasure.{erased_assign}
use Rattle.path_links.proofs.assigns.erased_assigns.Given as goal

abbrev pub invariant-loop-assign : goal.invariant-loop-assign
invariant-loop-assign l =
    map (named_assign l.nets) l.copies ++ map (erased_assign l.sinks) (map (named_assign l.nets) (drop l.assign-index l.assigns))
    ≡ map (erased_assign l.sinks) (map (named_assign l.nets) l.assigns)
