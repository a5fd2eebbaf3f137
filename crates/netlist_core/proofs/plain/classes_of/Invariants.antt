use Rattle.std.proofs.Common.{◌≡◌, length, take}
use Rattle.std.specs.List.{flat_map}
use Rattle.netlist_core.specs.Netlists.{bit_pairs}
use Rattle.netlist_core.specs.Forests.{IsNumbering}
use Rattle.netlist_core.proofs.plain.classes_of.Given as goal

abbrev pub invariant-loop-assign : goal.invariant-loop-assign
invariant-loop-assign l = record {
  len : length l.classes.items ≡ length l.netlist.nets;
  numbering : IsNumbering (length l.netlist.nets) (flat_map bit_pairs (take l.assign-index l.netlist.assigns)) l.classes.items;
}
