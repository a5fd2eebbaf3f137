use Rattle.std.proofs.Common.{◌≡◌, ◌<◌, ◌^◌, sum_by, take}
use Rattle.chain_rules.proofs.belong.are_few_bits.Given as goal

abbrev pub invariant-loop-path : goal.invariant-loop-path
invariant-loop-path l = (l.bits ≡ sum_by (λ p. sum_by (λ s. s.bits) p.steps) (take l.path-index l.paths)) × (l.bits < 2 ^ 32)
