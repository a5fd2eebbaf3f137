use Rattle.std.proofs.Common.{arith}
use borrow.Author.Count.{below_more}
use Rattle.chain_rules.specs.ChainFaults.{IsTooManyUnits}
use Rattle.chain_rules.proofs.Counting.{with_next, so_far-le, count_units_more}
use Rattle.chain_rules.proofs.Meeting.{spec_read}
use Rattle.chain_rules.proofs.counts.first_too_many_units.Goals as goal

pub units_with-count-requires : goal.units_with-count-requires
units_with-count-requires c =
    let chains = c.args.chains.now in
    let i = c.loop-chain.chain in
    let chain = c.index-chains-chain.result in
    let there = spec_read chains i chain c.loop-chain-test.true c.index-chains-chain.is in
    record { small = omega (arith, with_next chains i chain c.loop-chain.units c.loop-chain-test.true there c.loop-chain.invariant.counts, so_far-le chains i, c.requires.small) }

pub returns-then-count-gt-MOST_UNITS-clause-found : goal.returns-then-count-gt-MOST_UNITS-clause-found
returns-then-count-gt-MOST_UNITS-clause-found c =
    let chains = c.args.chains.now in
    let i = c.loop-chain.chain in
    let chain = c.index-chains-chain.result in
    let there = spec_read chains i chain c.loop-chain-test.true c.index-chains-chain.is in
    (c.loop-chain-test.true, omega (arith, with_next chains i chain c.loop-chain.units c.loop-chain-test.true there c.loop-chain.invariant.counts, c.units_with-count.ensures.value, c.if-count-gt-MOST_UNITS.true), c.loop-chain.invariant.few)

pub loop-chain-preserved : goal.loop-chain-preserved
loop-chain-preserved c =
    let chains = c.args.chains.now in
    let i = c.loop-chain.chain in
    let chain = c.index-chains-chain.result in
    let there = spec_read chains i chain c.loop-chain-test.true c.index-chains-chain.is in
    record {
      few = below_more (λ d. ¬ IsTooManyUnits chains d) i c.loop-chain.invariant.few
          (λ many. omega (arith, many, with_next chains i chain c.loop-chain.units c.loop-chain-test.true there c.loop-chain.invariant.counts, c.units_with-count.ensures.value, c.if-count-gt-MOST_UNITS.false));
      counts = count_units_more chains i chain c.units_with-count.result c.loop-chain.units c.insert.new.self c.loop-chain-test.true there c.loop-chain.invariant.counts c.units_with-count.ensures.value (λ q. c.in_ok-insert.ensures.updates.0 q);
    }
