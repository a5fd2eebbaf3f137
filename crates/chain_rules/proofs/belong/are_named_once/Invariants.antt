use Rattle.std.proofs.Common.{ℕ, ◌<◌}
use Rattle.chain_rules.specs.Belonging.{IsNamedOnceAt}
use Rattle.chain_rules.proofs.belong.are_named_once.Given as goal

abbrev pub invariant-loop-i : goal.invariant-loop-i
invariant-loop-i l = (j : ℕ) → j < l.i → IsNamedOnceAt l.index l.lists l.chain j
