use Rattle.std.proofs.Common.{ℕ, List, ap, sym, slice_index_or}
use Rattle.std.proofs.lemmas.Bool.{iff_false}
use Rattle.chain_rules.specs.Plans.{plan_of}
use Rattle.chain_rules.proofs.Outcomes.{says_no}
use Rattle.chain_rules.proofs.Moved.{rule_part}
use Rattle.chain_rules.proofs.Swapped.{swapped_to, swapped_from, legal_swapped, allowed_swap, replace_at}
use Rattle.chain_rules.proofs.moves.can_swap_in.Goals as goal

pub returns-then-first-second : goal.returns-then-first-second
returns-then-first-second c =
    record {
      value = (
        λ h. swapped_to c.args.rules.now (plan_of c.args.plan.now) c.requires.legal c.args.a c.args.b c.requires.a c.requires.b c.if-first-second.true c.units_at-us.result.now c.units_at-us.ensures.value c.last_swapped.result c.last_swapped.ensures.value (c.keeps_pin.ensures.value.0 h),
        λ new. c.keeps_pin.ensures.value.1 (swapped_from c.args.rules.now (plan_of c.args.plan.now) c.requires.legal c.args.a c.args.b c.requires.a c.requires.b c.if-first-second.true c.units_at-us.result.now c.units_at-us.ensures.value c.last_swapped.result c.last_swapped.ensures.value new),
      );
    }

pub returns-then-one-two : goal.returns-then-one-two
returns-then-one-two c =
    let one = rule_part (λ r. r.partition) c.as_slice.result.now c.args.rules.now c.args.a.chain c.as_slice.ensures.value in
    let two = rule_part (λ r. r.partition) c.as_slice-2.result.now c.args.rules.now c.args.b.chain c.as_slice-2.ensures.value in
    record {
      value = says_no (λ new.
          let allows = allowed_swap c.args.rules.now (plan_of c.args.plan.now) c.requires.legal c.args.a c.args.b c.requires.a c.requires.b c.if-first-second.false new in
          let same = allows.same in
          c.if-one-two.true (cc));
    }

pub returns-then-not-can_replace : goal.returns-then-not-can_replace
returns-then-not-can_replace c =
    let keeps = rule_part (λ r. r.keeps_bit) c.as_slice.result.now c.args.rules.now c.args.a.chain c.as_slice.ensures.value in
    let bound = rule_part (λ r. r.bound) c.as_slice.result.now c.args.rules.now c.args.a.chain c.as_slice.ensures.value in
    let unit = ap (λ (us : List ℕ). slice_index_or us c.args.b.place 0) c.units_at-others.ensures.value in
    record {
      value = says_no (λ new.
          let allows = allowed_swap c.args.rules.now (plan_of c.args.plan.now) c.requires.legal c.args.a c.args.b c.requires.a c.requires.b c.if-first-second.false new in
          iff_false c.can_replace.ensures.value c.if-not-can_replace.true (replace_at c.args.rules.now _ _ _ _ _ _ c.args.a.place _ _ (sym keeps) (sym bound) (sym c.units_at-us.ensures.value) (sym unit) allows.first));
    }

pub returns : goal.returns
returns c =
    let keeps = rule_part (λ r. r.keeps_bit) c.as_slice.result.now c.args.rules.now c.args.a.chain c.as_slice.ensures.value in
    let bound = rule_part (λ r. r.bound) c.as_slice.result.now c.args.rules.now c.args.a.chain c.as_slice.ensures.value in
    let one = rule_part (λ r. r.partition) c.as_slice.result.now c.args.rules.now c.args.a.chain c.as_slice.ensures.value in
    let keeps_too = rule_part (λ r. r.keeps_bit) c.as_slice-2.result.now c.args.rules.now c.args.b.chain c.as_slice-2.ensures.value in
    let bound_too = rule_part (λ r. r.bound) c.as_slice-2.result.now c.args.rules.now c.args.b.chain c.as_slice-2.ensures.value in
    let two = rule_part (λ r. r.partition) c.as_slice-2.result.now c.args.rules.now c.args.b.chain c.as_slice-2.ensures.value in
    let unit = ap (λ (us : List ℕ). slice_index_or us c.args.b.place 0) c.units_at-others.ensures.value in
    let unit_too = ap (λ (us : List ℕ). slice_index_or us c.args.a.place 0) c.units_at-us.ensures.value in
    record {
      value = (
        λ h. legal_swapped c.args.rules.now (plan_of c.args.plan.now) c.requires.legal c.args.a c.args.b c.requires.a c.requires.b c.if-first-second.false (record {
          same = cc;
          first = replace_at c.args.rules.now _ _ _ _ _ _ c.args.a.place _ _ keeps bound c.units_at-us.ensures.value unit (c.can_replace.ensures.value.0 c.if-not-can_replace.false);
          second = replace_at c.args.rules.now _ _ _ _ _ _ c.args.b.place _ _ keeps_too bound_too c.units_at-others.ensures.value unit_too (c.can_replace-2.ensures.value.0 h);
        }),
        λ new. c.can_replace-2.ensures.value.1 (replace_at c.args.rules.now _ _ _ _ _ _ c.args.b.place _ _ (sym keeps_too) (sym bound_too) (sym c.units_at-others.ensures.value) (sym unit_too)
            (allowed_swap c.args.rules.now (plan_of c.args.plan.now) c.requires.legal c.args.a c.args.b c.requires.a c.requires.b c.if-first-second.false new).second),
      );
    }
