use Rattle.std.proofs.Common.{◌∙◌, arith, length, ap, sym}
use Rattle.std.proofs.lemmas.Bool.{iff_false}
use Rattle.chain_rules.proofs.LegalParts.{legal_from_chains, chain_of_legal, members_of_legal, length_of_legal}
use Rattle.std.specs.List.{concat}
use Rattle.chain_rules.proofs.Members.{permutation_from_members}
use Rattle.chain_rules.proofs.Outcomes.{says_no}
use Rattle.chain_rules.proofs.plain.is_legal.Goals as goal

pub returns-then-not-has_as_many : goal.returns-then-not-has_as_many
returns-then-not-has_as_many c =
    let units = ap length c.as_slice-units.ensures.value in
    record { value = says_no (λ legal. iff_false c.has_as_many.ensures.value c.if-not-has_as_many.true (length_of_legal c.args.rules.now c.args.plan.now legal ∙ sym units)) }

pub returns-then-not-all_stand : goal.returns-then-not-all_stand
returns-then-not-all_stand c =
    let units = ap length c.as_slice-units.ensures.value in
    record { value = says_no (λ legal. iff_false c.all_stand.ensures.value c.if-not-all_stand.true (λ u h. members_of_legal c.args.rules.now c.args.plan.now legal u (omega arith))) }

pub returns : goal.returns
returns c =
    let units = ap length c.as_slice-units.ensures.value in
    record {
      value = (
        λ h. legal_from_chains c.args.rules.now c.args.plan.now (sym c.len.ensures.value ∙ (c.if-len-as_slice.false ∙ ap length c.as_slice.ensures.value)) (c.has_as_many.ensures.value.0 c.if-not-has_as_many.false ∙ units) (λ u below. c.all_stand.ensures.value.0 c.if-not-all_stand.false u (omega arith)) (c.are_legal_chains.ensures.value.0 h),
        λ legal. c.are_legal_chains.ensures.value.1 (chain_of_legal c.args.rules.now c.args.plan.now legal),
      );
    }

pub are_own-requires-clause-once : goal.are_own-requires-clause-once
are_own-requires-clause-once c =
    let units = ap length c.as_slice-units.ensures.value in
    permutation_from_members (length c.args.rules.now.units) (concat c.args.plan.now.chains) (c.has_as_many.ensures.value.0 c.if-not-has_as_many.false ∙ units) (λ u below. c.all_stand.ensures.value.0 c.if-not-all_stand.false u (omega arith))

pub are_legal_chains-requires-clause-own : goal.are_legal_chains-requires-clause-own
are_legal_chains-requires-clause-own c = λ d h. c.are_own.ensures.value.0 c.if-not-are_own.false d h
