use Rattle.std.proofs.Common.{◌≡◌, ◌+◌, ◌<◌, ◌^◌, sum_by, take, length}
use Rattle.chain_rules.proofs.belong.are_few_steps.Given as goal

abbrev pub invariant-loop-path : goal.invariant-loop-path
invariant-loop-path l = (l.left + sum_by (λ p. length p.steps) (take l.path-index l.paths) ≡ 2 ^ 32) × (0 < l.left)
