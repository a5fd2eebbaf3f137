use Rattle.std.proofs.Common.{◌≡◌, ◌+◌, ◌<◌, ◌^◌, sum_by, take}
use Rattle.chain_rules.proofs.belong.more_bits.Given as goal

abbrev pub invariant-loop-step : goal.invariant-loop-step
invariant-loop-step l = (l.bits ≡ l.before + sum_by (λ s. s.bits) (take l.step-index l.steps)) × (l.bits < 2 ^ 32)
