use Rattle.std.proofs.Common.{◌≡◌, length, take}
use Rattle.std.specs.List.{flat_map}
use Rattle.netlist_core.specs.Netlists.{bit_pairs}
use Rattle.netlist_core.specs.Forests.{Falls, IsForest}
use Rattle.netlist_core.proofs.classes.classes_of.Given as goal

abbrev pub invariant-loop-assign : goal.invariant-loop-assign
invariant-loop-assign l = record {
  len : length l.parents.items ≡ length l.netlist.nets;
  falls : Falls l.parents.items;
  forest : IsForest (length l.netlist.nets) (flat_map bit_pairs (take l.assign-index l.netlist.assigns)) l.parents.items;
}
