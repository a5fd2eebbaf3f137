use Rattle.std.proofs.Common.{◌≡◌, ℕ, ◌<◌}
use Rattle.chain_rules.specs.Belonging.{element_at, AreAlike, IsElement}
use Rattle.chain_rules.proofs.belong.is_only_element.Given as goal

abbrev pub invariant-loop-other : goal.invariant-loop-other
invariant-loop-other l = (d j : ℕ) → d < l.other → IsElement l.lists d j → AreAlike (element_at l.lists d j) (element_at l.lists l.chain l.i) → (d ≡ l.chain) × (j ≡ l.i)
