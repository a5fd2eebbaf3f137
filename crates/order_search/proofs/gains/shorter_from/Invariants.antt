use Rattle.order_search.specs.Runs.{IsSettledBetween}
use Rattle.order_search.proofs.gains.shorter_from.Given as goal

abbrev pub invariant-loop-j : goal.invariant-loop-j
invariant-loop-j l = IsSettledBetween l.ends l.chain l.units l.i l.from l.j
