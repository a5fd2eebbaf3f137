use Rattle.std.proofs.Common.{◌≡◌, ℕ, ◌<◌, length}
use Rattle.netlist_core.specs.Forests.{Falls, AreParents}
use Rattle.netlist_core.proofs.classes.root_of.Given as goal

abbrev pub invariant-loop-at : goal.invariant-loop-at
invariant-loop-at l = record {
  len : length l.parents.items ≡ length l.fn.parents.items;
  falls : Falls l.parents.items;
  within : l.at < length l.parents.items;
  kept : (root : ℕ → ℕ) → AreParents l.fn.parents.items root → AreParents l.parents.items root;
  root : (root : ℕ → ℕ) → AreParents l.fn.parents.items root → root l.at ≡ root l.fn.net;
}

abbrev pub decreases-loop-at : goal.decreases-loop-at
decreases-loop-at l = l.at
