use Rattle.std.proofs.Common.{◌-◌, List, sum_by, ap, arith}
use Rattle.chain_rules.specs.declared.spec.StepSpec.{StepSpec}
use Rattle.chain_rules.proofs.Sums.{sum-part}
use Rattle.chain_rules.proofs.index.Index.bits.Goals as goal

pub sum_bits-requires : goal.sum_bits-requires
sum_bits-requires c =
    let same = ap (λ (xs : List StepSpec). sum_by (λ s. s.bits) xs) c.steps.ensures.value in
    let part = sum-part c.steps.result.now c.args.from (c.args.to - c.args.from) in
    let small = c.requires.small in
    record { bound = omega arith }
