use Rattle.std.proofs.Common.{subst, sym, arith}
use Rattle.std.proofs.lemmas.Bool.{iff_false}
use borrow.Author.Count.{below_more}
use Rattle.chain_rules.specs.declared.listing.Listing.{Listing}
use Rattle.chain_rules.specs.Stretches.{spec_at, no_chain}
use Rattle.chain_rules.specs.Runs.{IsListingOf}
use Rattle.chain_rules.specs.ChainFaults.{IsUnlistedBits}
use Rattle.chain_rules.proofs.Faulty.{unlisted_from_unmarked, unmarked_from_unlisted}
use Rattle.chain_rules.proofs.faults.first_unlisted_bits.Goals as goal

pub returns-then-has_unmarked_bit-clause-found : goal.returns-then-has_unmarked_bit-clause-found
returns-then-has_unmarked_bit-clause-found c =
    let is = subst (λ (l : Listing). IsListingOf c.args.index.now (spec_at c.args.chains.now c.loop-chain.chain) l) (sym c.index-listings-chain.is) (c.requires.listings.each c.loop-chain.chain c.index-listings-chain.result c.loop-chain-test.true) in
    (c.loop-chain-test.true, unlisted_from_unmarked c.args.index.now (spec_at c.args.chains.now c.loop-chain.chain) c.index-listings-chain.result is (c.has_unmarked_bit.ensures.value.0 c.if-has_unmarked_bit.true), c.loop-chain.invariant)

pub loop-chain-preserved : goal.loop-chain-preserved
loop-chain-preserved c =
    let is = subst (λ (l : Listing). IsListingOf c.args.index.now (spec_at c.args.chains.now c.loop-chain.chain) l) (sym c.index-listings-chain.is) (c.requires.listings.each c.loop-chain.chain c.index-listings-chain.result c.loop-chain-test.true) in
    below_more (λ d. ¬ IsUnlistedBits c.args.index.now (spec_at c.args.chains.now d)) c.loop-chain.chain c.loop-chain.invariant
    (λ fault. iff_false c.has_unmarked_bit.ensures.value c.if-has_unmarked_bit.false
    (unmarked_from_unlisted c.args.index.now c.requires.chains.steps_once (spec_at c.args.chains.now c.loop-chain.chain) (c.requires.chains.elements c.loop-chain.chain no_chain c.loop-chain-test.true) c.index-listings-chain.result is fault))

pub returns-clause-none : goal.returns-clause-none
returns-clause-none c = λ d h. c.loop-chain.invariant d (omega arith)
