use Rattle.fail_map.proofs.Orders.{AreNumbered}
use Rattle.fail_map.proofs.numbered.lines_of.Given as goal

abbrev pub invariant-loop-number : goal.invariant-loop-number
invariant-loop-number l = AreNumbered l.log l.lines.items l.number
