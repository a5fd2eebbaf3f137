use Rattle.stil_head.proofs.head.callees_in.Given as goal
use Rattle.std.proofs.Common.{◌≡◌, map}

abbrev pub invariant-loop-one : goal.invariant-loop-one
invariant-loop-one l = l.callees.items ≡ map (λ c. c.callee) l.yielded
