use Rattle.std.proofs.Common.{ℕ, ◌<◌, false, get_or, IsTrue}
use Rattle.chain_rules.proofs.standing.are_set.Given as goal

abbrev pub invariant-loop-mark : goal.invariant-loop-mark
invariant-loop-mark l = (k : ℕ) → k < l.mark-index → IsTrue (get_or l.marks k false)
