use Rattle.std.proofs.Common.{List, length, subst, sym, arith, inr}
use Rattle.std.proofs.lemmas.List.Sums.{get_or-le-sum_by}
use Rattle.base_types.specs.declared.fault.ReadFault.{ReadFault}
use Rattle.base_types.specs.declared.kind.Kind.TheVariants.{NotAStretch, UnlistedBits, OrderBroken, OverMaxBits, TooManyUnits}
use Rattle.chain_rules.specs.declared.spec.PathSpec.{PathSpec}
use Rattle.chain_rules.specs.declared.spec.ChainSpec.{ChainSpec}
use Rattle.chain_rules.specs.Stretches.{StepsOnce, no_chain, groups_of}
use Rattle.chain_rules.specs.ChainFaults.{IsFaultless, IsNotAStretch, IsRefused, IsTooManyUnits, fault_at}
use Rattle.chain_rules.specs.Rules.{AreRulesOf}
use Rattle.chain_rules.proofs.Meeting.{spec_read}
use Rattle.chain_rules.proofs.Assembled.{few_groups}
use Rattle.chain_rules.proofs.ReadPlan.{read_is_legal}
use Rattle.chain_rules.proofs.Refused.{refused, first_stretch, first_unlisted, first_order, first_over, first_many, faultless, found_at, found_none}
use Rattle.chain_rules.proofs.units.units_of.Goals as goal

pub returns-in-Some-clause-first : goal.returns-in-Some-clause-first
returns-in-Some-clause-first c =
    let paths = c.in_ok-index.index in
    let chains = c.args.chains.now in
    let found = found_at (λ d. IsNotAStretch paths chains d) (length chains) c.in_ok-chain.field-0 c.in-Some.chain c.in-Some.is c.in_ok-chain.ensures.found in
    let there = spec_read chains c.in-Some.chain c.index-chains-chain.result found.0 c.index-chains-chain.is in
    subst (λ (r : ReadFault). IsRefused c.args.paths.now chains r) (sym c.refusal.ensures.value)
    (subst (λ (ps : List PathSpec). IsRefused ps chains (fault_at NotAStretch c.index-chains-chain.result)) c.in_ok-index.ensures.value
    (refused paths chains NotAStretch c.in-Some.chain c.index-chains-chain.result there (first_stretch paths chains c.in-Some.chain found.0 found.1 found.2)))

pub returns-in-Some-first_unlisted_bits-clause-first : goal.returns-in-Some-first_unlisted_bits-clause-first
returns-in-Some-first_unlisted_bits-clause-first c =
    let there = spec_read c.args.chains.now c.in-Some-first_unlisted_bits.chain c.index-chains-chain-in-Some-first_unlisted_bits.result c.in-Some-first_unlisted_bits.ensures.found.0 c.index-chains-chain-in-Some-first_unlisted_bits.is in
    subst (λ (r : ReadFault). IsRefused c.args.paths.now c.args.chains.now r) (sym c.refusal-in-Some-first_unlisted_bits.ensures.value)
    (subst (λ (ps : List PathSpec). IsRefused ps c.args.chains.now (fault_at UnlistedBits c.index-chains-chain-in-Some-first_unlisted_bits.result)) c.in_ok-index.ensures.value
    (refused c.in_ok-index.index c.args.chains.now UnlistedBits c.in-Some-first_unlisted_bits.chain c.index-chains-chain-in-Some-first_unlisted_bits.result there (first_unlisted c.in_ok-index.index c.args.chains.now c.in-Some-first_unlisted_bits.chain (found_none (λ d. IsNotAStretch c.in_ok-index.index c.args.chains.now d) (length c.args.chains.now) c.in_ok-chain.field-0 c.in_default.not-Some c.in_ok-chain.ensures.none) c.in-Some-first_unlisted_bits.ensures.found.0 c.in-Some-first_unlisted_bits.ensures.found.1 c.in-Some-first_unlisted_bits.ensures.found.2)))

pub returns-in-Some-first_order_broken-clause-first : goal.returns-in-Some-first_order_broken-clause-first
returns-in-Some-first_order_broken-clause-first c =
    let there = spec_read c.args.chains.now c.in-Some-first_order_broken.chain c.index-chains-chain-in-Some-first_order_broken.result c.in-Some-first_order_broken.ensures.found.0 c.index-chains-chain-in-Some-first_order_broken.is in
    subst (λ (r : ReadFault). IsRefused c.args.paths.now c.args.chains.now r) (sym c.refusal-in-Some-first_order_broken.ensures.value)
    (subst (λ (ps : List PathSpec). IsRefused ps c.args.chains.now (fault_at OrderBroken c.index-chains-chain-in-Some-first_order_broken.result)) c.in_ok-index.ensures.value
    (refused c.in_ok-index.index c.args.chains.now OrderBroken c.in-Some-first_order_broken.chain c.index-chains-chain-in-Some-first_order_broken.result there (first_order c.in_ok-index.index c.args.chains.now c.in-Some-first_order_broken.chain (found_none (λ d. IsNotAStretch c.in_ok-index.index c.args.chains.now d) (length c.args.chains.now) c.in_ok-chain.field-0 c.in_default.not-Some c.in_ok-chain.ensures.none) c.in_default-first_unlisted_bits.ensures.none c.in-Some-first_order_broken.ensures.found.0 c.in-Some-first_order_broken.ensures.found.1 c.in-Some-first_order_broken.ensures.found.2)))

pub returns-in-Some-first_over_max_bits-clause-first : goal.returns-in-Some-first_over_max_bits-clause-first
returns-in-Some-first_over_max_bits-clause-first c =
    let there = spec_read c.args.chains.now c.in-Some-first_over_max_bits.chain c.index-chains-chain-in-Some-first_over_max_bits.result c.in-Some-first_over_max_bits.ensures.found.0 c.index-chains-chain-in-Some-first_over_max_bits.is in
    subst (λ (r : ReadFault). IsRefused c.args.paths.now c.args.chains.now r) (sym c.refusal-in-Some-first_over_max_bits.ensures.value)
    (subst (λ (ps : List PathSpec). IsRefused ps c.args.chains.now (fault_at OverMaxBits c.index-chains-chain-in-Some-first_over_max_bits.result)) c.in_ok-index.ensures.value
    (refused c.in_ok-index.index c.args.chains.now OverMaxBits c.in-Some-first_over_max_bits.chain c.index-chains-chain-in-Some-first_over_max_bits.result there (first_over c.in_ok-index.index c.args.chains.now c.in-Some-first_over_max_bits.chain (found_none (λ d. IsNotAStretch c.in_ok-index.index c.args.chains.now d) (length c.args.chains.now) c.in_ok-chain.field-0 c.in_default.not-Some c.in_ok-chain.ensures.none) c.in_default-first_unlisted_bits.ensures.none c.in_default-first_order_broken.ensures.none c.in-Some-first_over_max_bits.ensures.found.0 c.in-Some-first_over_max_bits.ensures.found.1 c.in-Some-first_over_max_bits.ensures.found.2)))

pub returns-in-Some-2-clause-first : goal.returns-in-Some-2-clause-first
returns-in-Some-2-clause-first c =
    let paths = c.in_ok-index.index in
    let chains = c.args.chains.now in
    let no_stretch = found_none (λ d. IsNotAStretch paths chains d) (length chains) c.in_ok-chain.field-0 c.in_default.not-Some c.in_ok-chain.ensures.none in
    let found = found_at (λ d. IsTooManyUnits chains d) (length chains) c.in_ok-chain-2.field-0 c.in-Some-2.chain c.in-Some-2.is c.in_ok-chain-2.ensures.found in
    let there = spec_read chains c.in-Some-2.chain c.index-chains-chain-in-Some-2.result found.0 c.index-chains-chain-in-Some-2.is in
    subst (λ (r : ReadFault). IsRefused c.args.paths.now chains r) (sym c.refusal-in-Some-2.ensures.value)
    (subst (λ (ps : List PathSpec). IsRefused ps chains (fault_at TooManyUnits c.index-chains-chain-in-Some-2.result)) c.in_ok-index.ensures.value
    (refused paths chains TooManyUnits c.in-Some-2.chain c.index-chains-chain-in-Some-2.result there (first_many paths chains c.in-Some-2.chain no_stretch c.in_default-first_unlisted_bits.ensures.none c.in_default-first_order_broken.ensures.none c.in_default-first_over_max_bits.ensures.none found.0 found.1 found.2)))

pub listings_of-requires-clause-few : goal.listings_of-requires-clause-few
listings_of-requires-clause-few c = λ d h.
    let groups = few_groups c.args.chains.now c.requires.chains.elements in
    let few = c.requires.chains.few_elements in
    omega (arith, get_or-le-sum_by (λ (x : ChainSpec). length (groups_of x)) c.args.chains.now d no_chain h)

pub first_too_many_units-requires : goal.first_too_many_units-requires
first_too_many_units-requires c =
    let groups = few_groups c.args.chains.now c.requires.chains.elements in
    let few = c.requires.chains.few_elements in
    record { small = omega arith }

pub returns-clause-legal : goal.returns-clause-legal
returns-clause-legal c = read_is_legal c.in_ok-index.index c.args.chains.now c.in_ok-rules_of.field-0 c.in_ok-rules_of.ensures.value c.in_default-first_over_max_bits.ensures.none

pub returns-clause-faultless : goal.returns-clause-faultless
returns-clause-faultless c =
    subst (λ (ps : List PathSpec). IsFaultless ps c.args.chains.now) c.in_ok-index.ensures.value (faultless c.in_ok-index.index c.args.chains.now (found_none (λ d. IsNotAStretch c.in_ok-index.index c.args.chains.now d) (length c.args.chains.now) c.in_ok-chain.field-0 c.in_default.not-Some c.in_ok-chain.ensures.none) c.in_default-first_unlisted_bits.ensures.none c.in_default-first_order_broken.ensures.none c.in_default-first_over_max_bits.ensures.none (found_none (λ d. IsTooManyUnits c.args.chains.now d) (length c.args.chains.now) c.in_ok-chain-2.field-0 c.in_default-2.not-Some c.in_ok-chain-2.ensures.none))

pub returns-clause-value : goal.returns-clause-value
returns-clause-value c =
    let paths = c.in_ok-index.index in
    let chains = c.args.chains.now in
    let no_stretch = found_none (λ d. IsNotAStretch paths chains d) (length chains) c.in_ok-chain.field-0 c.in_default.not-Some c.in_ok-chain.ensures.none in
    subst (λ (ps : List PathSpec). AreRulesOf ps chains c.in_ok-rules_of.field-0) c.in_ok-index.ensures.value
    (record {
      steps_once = subst StepsOnce (sym c.in_ok-index.ensures.value) c.requires.chains.steps_once;
      of_each = c.in_ok-rules_of.ensures.value;
      apart = λ d e h l meets. let fault : IsNotAStretch paths chains d = inr (e, l, meets) in no_stretch d h fault;
    })
