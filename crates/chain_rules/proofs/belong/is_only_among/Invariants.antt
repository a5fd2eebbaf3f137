use Rattle.std.proofs.Common.{◌≡◌, ℕ, ◌<◌, Some, get_or}
use Rattle.chain_rules.specs.Stretches.{no_element}
use Rattle.chain_rules.specs.Belonging.{AreAlike}
use Rattle.chain_rules.proofs.belong.is_only_among.Given as goal

abbrev pub invariant-loop-i : goal.invariant-loop-i
invariant-loop-i l = (j : ℕ) → j < l.i → AreAlike (get_or l.elements j no_element) l.element → l.but ≡ Some j
