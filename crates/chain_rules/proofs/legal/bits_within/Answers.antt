use Rattle.std.proofs.Common.{arith}
use Rattle.std.proofs.lemmas.List.Sums.{sum_by_more_le}
use Rattle.chain_rules.specs.Legality.{unit_at}
use Rattle.chain_rules.proofs.legal.bits_within.Goals as goal

pub returns-then-bound-bits : goal.returns-then-bound-bits
returns-then-bound-bits c =
    record { value = λ h. omega (arith, sum_by_more_le (λ u. (unit_at c.args.rules.now u).bits) c.args.us.now c.loop-u.u-index 0 c.loop-u-test.true) }
