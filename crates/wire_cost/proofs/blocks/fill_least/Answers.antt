use Rattle.std.proofs.Common.{◌≡◌, ℕ, ℤ, ◌+◌, ◌*◌, min, length, sym, subst, arith}
use Rattle.std.proofs.lemmas.List.{length-set}
use Rattle.wire_cost.specs.Blocks.{IsLeastIn}
use Rattle.wire_cost.specs.Rows.{middle_of}
use Rattle.wire_cost.proofs.Places.{kept}
use Rattle.wire_cost.proofs.Slacks.{over, each_more}
use Rattle.wire_cost.proofs.blocks.fill_least.Goals as goal

pub loop-b-preserved : goal.loop-b-preserved
loop-b-preserved c =
    let n : ℕ = length c.args.turned.now in
    let b : ℕ = c.loop-b.b in
    let k : c.least_slack.result ≡ over c.least_slack.result = sym (kept c.least_slack.result c.least_slack.ensures.small) in
    let here : IsLeastIn c.args.xs.now c.args.ys.now c.args.turned.now (middle_of n b) (32 * b) (min (32 * b + 32) n) c.least_slack.result
    = subst (λ (m : ℕ). IsLeastIn c.args.xs.now c.args.ys.now c.args.turned.now m (32 * b) (min (32 * b + 32) n) c.least_slack.result) c.min-middle.ensures
    (subst (λ (u : ℕ). IsLeastIn c.args.xs.now c.args.ys.now c.args.turned.now c.min-middle.result (32 * b) u c.least_slack.result) c.min-until.ensures c.least_slack.ensures.value)
    in
    record {
      count = omega (arith, length-set {A = ℤ});
      each = each_more (λ (j : ℕ) (z : ℤ). IsLeastIn c.args.xs.now c.args.ys.now c.args.turned.now (middle_of n j) (32 * j) (min (32 * j + 32) n) z) c.loop-b.slack b (over c.least_slack.result) (omega arith)
          c.loop-b.invariant.each (subst (IsLeastIn c.args.xs.now c.args.ys.now c.args.turned.now (middle_of n b) (32 * b) (min (32 * b + 32) n)) k here);
    }
