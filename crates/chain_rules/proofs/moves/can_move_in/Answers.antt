use Rattle.std.proofs.Common.{ℕ, List, ap, sym, slice_index_or}
use Rattle.std.proofs.lemmas.Bool.{iff_false}
use Rattle.chain_rules.specs.Plans.{plan_of}
use Rattle.chain_rules.proofs.Outcomes.{says_no}
use Rattle.chain_rules.proofs.Moved.{within_to, within_from, room_across, legal_across, allowed_across, lose_at, gain_at, rule_part}
use Rattle.chain_rules.proofs.moves.can_move_in.Goals as goal

pub returns-then-source-target : goal.returns-then-source-target
returns-then-source-target c =
    record {
      value = (
        λ h. within_to c.args.rules.now (plan_of c.args.plan.now) c.requires.legal c.args.from c.args.to c.requires.from c.if-source-target.true c.units_at-us.result.now c.units_at-us.ensures.value c.last_moved.result c.last_moved.ensures.value (c.keeps_pin.ensures.value.0 h),
        λ new. c.keeps_pin.ensures.value.1 (within_from c.args.rules.now (plan_of c.args.plan.now) c.requires.legal c.args.from c.args.to c.requires.from c.if-source-target.true c.units_at-us.result.now c.units_at-us.ensures.value c.last_moved.result c.last_moved.ensures.value new),
      );
    }

pub returns-then-losing-gaining : goal.returns-then-losing-gaining
returns-then-losing-gaining c =
    let room = room_across (plan_of c.args.plan.now) c.args.from c.args.to c.if-source-target.false c.requires.to in
    let one = rule_part (λ r. r.partition) c.as_slice.result.now c.args.rules.now c.args.from.chain c.as_slice.ensures.value in
    let two = rule_part (λ r. r.partition) c.as_slice-2.result.now c.args.rules.now c.args.to.chain c.as_slice-2.ensures.value in
    record {
      value = says_no (λ new.
          let allows = allowed_across c.args.rules.now (plan_of c.args.plan.now) c.requires.legal c.args.from c.args.to c.requires.from room.chain room.place c.if-source-target.false new in
          let same = allows.same in
          c.if-losing-gaining.true (cc));
    }

pub returns-then-not-can_lose : goal.returns-then-not-can_lose
returns-then-not-can_lose c =
    let room = room_across (plan_of c.args.plan.now) c.args.from c.args.to c.if-source-target.false c.requires.to in
    let keeps = rule_part (λ r. r.keeps_bit) c.as_slice.result.now c.args.rules.now c.args.from.chain c.as_slice.ensures.value in
    record {
      value = says_no (λ new.
          let allows = allowed_across c.args.rules.now (plan_of c.args.plan.now) c.requires.legal c.args.from c.args.to c.requires.from room.chain room.place c.if-source-target.false new in
          iff_false c.can_lose.ensures.value c.if-not-can_lose.true (lose_at c.args.rules.now _ _ _ _ c.args.from.place (sym keeps) (sym c.units_at-us.ensures.value) allows.lose));
    }

pub returns : goal.returns
returns c =
    let room = room_across (plan_of c.args.plan.now) c.args.from c.args.to c.if-source-target.false c.requires.to in
    let keeps = rule_part (λ r. r.keeps_bit) c.as_slice.result.now c.args.rules.now c.args.from.chain c.as_slice.ensures.value in
    let bound = rule_part (λ r. r.bound) c.as_slice-2.result.now c.args.rules.now c.args.to.chain c.as_slice-2.ensures.value in
    let one = rule_part (λ r. r.partition) c.as_slice.result.now c.args.rules.now c.args.from.chain c.as_slice.ensures.value in
    let two = rule_part (λ r. r.partition) c.as_slice-2.result.now c.args.rules.now c.args.to.chain c.as_slice-2.ensures.value in
    let unit = ap (λ (us : List ℕ). slice_index_or us c.args.from.place 0) c.units_at-us.ensures.value in
    record {
      value = (
        λ h. legal_across c.args.rules.now (plan_of c.args.plan.now) c.requires.legal c.args.from c.args.to c.requires.from room.chain room.place c.if-source-target.false (cc)
            (lose_at c.args.rules.now _ _ _ _ c.args.from.place keeps c.units_at-us.ensures.value (c.can_lose.ensures.value.0 c.if-not-can_lose.false))
            (gain_at c.args.rules.now _ _ _ _ c.args.to.place _ _ bound c.units_at.ensures.value unit (c.can_gain.ensures.value.0 h)),
        λ new. c.can_gain.ensures.value.1 (gain_at c.args.rules.now _ _ _ _ c.args.to.place _ _ (sym bound) (sym c.units_at.ensures.value) (sym unit)
            (allowed_across c.args.rules.now (plan_of c.args.plan.now) c.requires.legal c.args.from c.args.to c.requires.from room.chain room.place c.if-source-target.false new).gain),
      );
    }
