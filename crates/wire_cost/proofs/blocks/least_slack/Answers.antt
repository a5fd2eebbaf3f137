use Rattle.std.proofs.Common.{◌≡◌, ℕ, ℤ, ◌+◌, ◌≤◌, ◌^◌, sym, subst, ◌∙◌, arith, to_z, w64}
use Rattle.std.specs.Prelude.{unsigned_abs}
use Rattle.wire_cost.specs.Blocks.{IsLeastIn}
use Rattle.wire_cost.proofs.Places.{kept}
use Rattle.wire_cost.proofs.Slacks.{least_first, least_lower, least_stays, no_less, over}
use Rattle.wire_cost.proofs.blocks.least_slack.Goals as goal
use Rattle.wire_cost.proofs.blocks.least_slack.Goals.{then-other-least, else-other-least}

pub loop-unit-init : goal.loop-unit-init
loop-unit-init c =
    let k : over c.slack_at-least.result ≡ c.slack_at-least.result = kept c.slack_at-least.result c.slack_at-least.ensures.small in
    record {
      value = least_first c.args.xs.now c.args.ys.now c.args.turned.now c.args.middle c.args.from (over c.slack_at-least.result) (k ∙ c.slack_at-least.ensures.value);
      small = subst (λ (z : ℤ). unsigned_abs z ≤ 2 ^ 62) (sym k) c.slack_at-least.ensures.small;
    }

pub loop-unit-preserved : goal.loop-unit-preserved
loop-unit-preserved c =
    let z : ℤ = to_z w64 c.loop-unit.least-bits in
    let x : ℤ = over c.slack_at-other.result in
    let k : x ≡ c.slack_at-other.result = kept c.slack_at-other.result c.slack_at-other.ensures.small in
    let e = k ∙ c.slack_at-other.ensures.value in
    elim c.if-other-least.branch [
      | then-other-least w ↦ record {
        value = subst (IsLeastIn c.args.xs.now c.args.ys.now c.args.turned.now c.args.middle c.args.from (c.loop-unit.unit + 1)) (sym w.least-is)
            (least_lower c.args.xs.now c.args.ys.now c.args.turned.now c.args.middle c.args.from c.loop-unit.unit z x (omega arith) c.loop-unit.invariant.value e w.if-other-least.true);
        small = subst (λ (y : ℤ). unsigned_abs y ≤ 2 ^ 62) (sym w.least-is) (subst (λ (y : ℤ). unsigned_abs y ≤ 2 ^ 62) (sym k) c.slack_at-other.ensures.small);
      }
      | else-other-least w ↦ record {
        value = subst (IsLeastIn c.args.xs.now c.args.ys.now c.args.turned.now c.args.middle c.args.from (c.loop-unit.unit + 1)) (sym w.least-is)
            (least_stays c.args.xs.now c.args.ys.now c.args.turned.now c.args.middle c.args.from c.loop-unit.unit z x c.loop-unit.invariant.value e (no_less x z w.if-other-least.false));
        small = subst (λ (y : ℤ). unsigned_abs y ≤ 2 ^ 62) (sym w.least-is) c.loop-unit.invariant.small;
      }
    ]

pub returns-clause-value : goal.returns-clause-value
returns-clause-value c =
    let e : c.loop-unit.unit ≡ c.args.until = omega arith in
    subst (λ (n : ℕ). IsLeastIn c.args.xs.now c.args.ys.now c.args.turned.now c.args.middle c.args.from n (to_z w64 c.loop-unit.least-bits)) e c.loop-unit.invariant.value
