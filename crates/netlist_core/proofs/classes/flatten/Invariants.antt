use Rattle.std.proofs.Common.{◌≡◌, ℕ, ◌<◌, ◌≤◌, length, get_or}
use Rattle.netlist_core.specs.Forests.{AreParents}
use Rattle.netlist_core.proofs.classes.flatten.Given as goal

abbrev pub invariant-loop-net : goal.invariant-loop-net
invariant-loop-net l = record {
  len : length l.parents.items ≡ length l.fn.parents.items;
  done : (root : ℕ → ℕ) → AreParents l.fn.parents.items root → (k : ℕ) → k < l.net → get_or l.parents.items k 0 ≡ root k;
  low : (k : ℕ) → k < length l.fn.parents.items → get_or l.parents.items k 0 ≤ k;
  left : (k : ℕ) → l.net ≤ k → get_or l.parents.items k 0 ≡ get_or l.fn.parents.items k 0;
}
