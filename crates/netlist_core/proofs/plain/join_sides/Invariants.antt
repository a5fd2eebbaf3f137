use Rattle.std.proofs.Common.{◌≡◌, ◌++◌, List, length, take}
use Rattle.netlist_core.specs.declared.netlist.Bit.{Bit}
use Rattle.netlist_core.specs.Netlists.{pairs}
use Rattle.netlist_core.specs.Forests.{IsNumbering}
use Rattle.netlist_core.proofs.plain.join_sides.Given as goal

abbrev pub invariant-loop-i : goal.invariant-loop-i
invariant-loop-i l = record {
  len : length l.classes.items ≡ length l.fn.classes.items;
  joined : (ps : List (Bit × Bit)) → IsNumbering (length l.fn.classes.items) ps l.fn.classes.items → IsNumbering (length l.fn.classes.items) (ps ++ pairs (take l.i l.left) (take l.i l.right)) l.classes.items;
}
