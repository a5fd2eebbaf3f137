use Rattle.std.proofs.Common.{subst, arith}
use Rattle.std.proofs.lemmas.Bool.{iff_false}
use borrow.Author.Count.{below_more}
use Rattle.chain_rules.specs.declared.spec.ChainSpec.{ChainSpec}
use Rattle.chain_rules.specs.Stretches.{spec_at}
use Rattle.chain_rules.specs.ChainFaults.{IsOverMaxBits}
use Rattle.chain_rules.proofs.Meeting.{spec_read}
use Rattle.chain_rules.proofs.faults.first_over_max_bits.Goals as goal

pub loop-chain-preserved : goal.loop-chain-preserved
loop-chain-preserved c =
    let there = spec_read c.args.chains.now c.loop-chain.chain c.index-chains-chain.result c.loop-chain-test.true c.index-chains-chain.is in
    below_more (λ d. ¬ IsOverMaxBits c.args.index.now (spec_at c.args.chains.now d)) c.loop-chain.chain c.loop-chain.invariant
    (subst (λ (x : ChainSpec). ¬ IsOverMaxBits c.args.index.now x) there (iff_false c.is_over_max_bits.ensures.value c.if-is_over_max_bits.false))

pub returns-clause-none : goal.returns-clause-none
returns-clause-none c = λ d h. c.loop-chain.invariant d (omega arith)
