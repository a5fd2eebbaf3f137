use Rattle.std.proofs.Common.{◌≡◌, ℕ, ◌<◌, ◌≤◌, length, get_or}
use Rattle.netlist_core.specs.Forests.{merged}
use Rattle.netlist_core.proofs.plain.merge.Given as goal

abbrev pub invariant-loop-class : goal.invariant-loop-class
invariant-loop-class l = record {
  len : length l.class-items ≡ length l.fn.classes.items;
  done : (k : ℕ) → k < l.class-index → get_or l.class-items k 0 ≡ merged l.from l.to (get_or l.fn.classes.items k 0);
  left : (k : ℕ) → l.class-index ≤ k → get_or l.class-items k 0 ≡ get_or l.fn.classes.items k 0;
}
