use Rattle.stil_blocks.proofs.callee.add_callees.Given as goal
use Rattle.std.proofs.Common.{◌≡◌, ◌++◌, length}
use Rattle.std.specs.List.{flat_map}
use Rattle.stil_syntax.specs.Shapes.{body_statements}
use Rattle.stil_blocks.specs.Chains.{listed}
use Rattle.stil_blocks.specs.Callees.{callee_at}

abbrev pub invariant-loop-s : goal.invariant-loop-s
invariant-loop-s l = l.callees ++ flat_map (λ p. listed (callee_at p)) (body_statements l.rest) ≡ l.fn.callees ++ flat_map (λ p. listed (callee_at p)) (body_statements l.block)

abbrev pub decreases-loop-s : goal.decreases-loop-s
decreases-loop-s l = length l.rest
