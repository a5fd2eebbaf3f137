use Rattle.std.proofs.Common.{ℕ, ◌<◌, Bool, length, ap, arith, cond, sym, ◌∙◌}
use Rattle.base_types.proofs.TruthValues.{not_both}
use Rattle.chain_rules.specs.declared.plan.Plan.{Plan}
use Rattle.partition_moves.specs.Quiet.{NoCloserSwap}
use Rattle.partition_moves.proofs.Exchanged.{all_swaps}
use Rattle.partition_moves.proofs.Settled.{is_false, not_true, still_quiet}
use Rattle.partition_moves.proofs.swaps.swap_pass.Goals as goal
use Rattle.partition_moves.proofs.swaps.swap_pass.Goals.{then-swaps_into, else-swaps_into}

pub loop-d-preserved : goal.loop-d-preserved
loop-d-preserved c = elim c.if-swaps_into.branch [
  | then-swaps_into w ↦ record {
    legal = c.swaps_into.ensures.legal;
    kept = c.swaps_into.ensures.kept;
    room = omega (arith, c.swaps_into.ensures.room, c.loop-d.invariant.room);
    shorter = omega (arith, ap {B = ℕ} (λ (b : Bool). cond b 1 0) w.again-is, ap {B = ℕ} (λ (b : Bool). cond b 1 0) w.if-swaps_into.true, c.swaps_into.ensures.shorter, c.loop-d.invariant.shorter);
    same = λ e. absurd (not_both c.if-swaps_into.again w.again-is e);
    quiet = λ e. absurd (not_both c.if-swaps_into.again w.again-is e);
  }
  | else-swaps_into w ↦ record {
    legal = c.swaps_into.ensures.legal;
    kept = c.swaps_into.ensures.kept;
    room = omega (arith, c.swaps_into.ensures.room, c.loop-d.invariant.room);
    shorter = omega (arith, ap {B = ℕ} (λ (b : Bool). cond b 1 0) w.again-is, ap {B = ℕ} (λ (b : Bool). cond b 1 0) w.if-swaps_into.false, c.swaps_into.ensures.shorter, c.loop-d.invariant.shorter);
    same = λ e. (c.swaps_into.ensures.quiet (not_true c.swaps_into.result w.if-swaps_into.false)).0 ∙ c.loop-d.invariant.same (sym w.again-is ∙ e);
    quiet = λ e. still_quiet (λ (q : Plan) (k : ℕ). (n : ℕ) → n < length q.chains → NoCloserSwap c.args.rules.now c.args.ends.now q n k) c.args.plan.now.plan c.loop-d.plan.plan c.loop-d.d (c.loop-d.invariant.same (sym w.again-is ∙ e)) (c.loop-d.invariant.quiet (sym w.again-is ∙ e)) (c.swaps_into.ensures.quiet (not_true c.swaps_into.result w.if-swaps_into.false)).1;
  }
]

pub returns-clause-quiet : goal.returns-clause-quiet
returns-clause-quiet c y =
    let f = is_false c.loop-d.again y in
    let same = c.loop-d.invariant.same f in
    let long = ap (λ (q : Plan). length q.chains) same in
    (same, all_swaps c.args.rules.now c.args.ends.now c.args.plan.now.plan (λ d hd n hn. c.loop-d.invariant.quiet f d (omega arith) n hn))
