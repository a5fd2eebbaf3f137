use Rattle.std.proofs.Common.{◌≡◌, ◌++◌, List, length, take}
use Rattle.netlist_core.specs.declared.netlist.Bit.{Bit}
use Rattle.netlist_core.specs.Netlists.{pairs}
use Rattle.netlist_core.specs.Forests.{Falls, IsForest}
use Rattle.netlist_core.proofs.classes.join_sides.Given as goal

abbrev pub invariant-loop-i : goal.invariant-loop-i
invariant-loop-i l = record {
  len : length l.parents.items ≡ length l.fn.parents.items;
  falls : Falls l.parents.items;
  joined : (ps : List (Bit × Bit)) → IsForest (length l.fn.parents.items) ps l.fn.parents.items → IsForest (length l.fn.parents.items) (ps ++ pairs (take l.i l.left) (take l.i l.right)) l.parents.items;
}
