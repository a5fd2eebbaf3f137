use Rattle.std.proofs.Common.{ℕ, ◌<◌}
use Rattle.order_search.specs.Trials.{NoSwapOf}
use Rattle.order_search.proofs.plain.has_swap_in.Given as goal

abbrev pub invariant-loop-i : goal.invariant-loop-i
invariant-loop-i l = (k : ℕ) → k < l.i → NoSwapOf l.rules l.ends l.plan l.c k
