use Rattle.stil_head.proofs.head.decls_of.Given as goal
use Rattle.std.proofs.Common.{◌≡◌, map}

abbrev pub invariant-loop-chain : goal.invariant-loop-chain
invariant-loop-chain l = l.decls.items ≡ map (λ c. c.decl) l.yielded
