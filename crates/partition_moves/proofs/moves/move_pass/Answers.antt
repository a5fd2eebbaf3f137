use Rattle.std.proofs.Common.{ℕ, ◌<◌, Bool, length, ap, arith, cond, sym, ◌∙◌}
use Rattle.base_types.proofs.TruthValues.{not_both}
use Rattle.chain_rules.specs.declared.plan.Plan.{Plan}
use Rattle.partition_moves.specs.Quiet.{NoMoveBetween}
use Rattle.partition_moves.proofs.Settled.{not_true, still_quiet}
use Rattle.partition_moves.proofs.moves.move_pass.Goals as goal
use Rattle.partition_moves.proofs.moves.move_pass.Goals.{then-moves_into, else-moves_into}

pub loop-d-preserved : goal.loop-d-preserved
loop-d-preserved c = elim c.if-moves_into.branch [
  | then-moves_into w ↦ record {
    legal = c.moves_into.ensures.legal;
    kept = c.moves_into.ensures.kept;
    room = omega (arith, c.moves_into.ensures.room, c.loop-d.invariant.room);
    shorter = omega (arith, ap {B = ℕ} (λ (b : Bool). cond b 1 0) w.again-is, ap {B = ℕ} (λ (b : Bool). cond b 1 0) w.if-moves_into.true, c.moves_into.ensures.shorter, c.loop-d.invariant.shorter);
    same = λ e. absurd (not_both c.if-moves_into.again w.again-is e);
    quiet = λ e. absurd (not_both c.if-moves_into.again w.again-is e);
  }
  | else-moves_into w ↦ record {
    legal = c.moves_into.ensures.legal;
    kept = c.moves_into.ensures.kept;
    room = omega (arith, c.moves_into.ensures.room, c.loop-d.invariant.room);
    shorter = omega (arith, ap {B = ℕ} (λ (b : Bool). cond b 1 0) w.again-is, ap {B = ℕ} (λ (b : Bool). cond b 1 0) w.if-moves_into.false, c.moves_into.ensures.shorter, c.loop-d.invariant.shorter);
    same = λ e. (c.moves_into.ensures.quiet (not_true c.moves_into.result w.if-moves_into.false)).0 ∙ c.loop-d.invariant.same (sym w.again-is ∙ e);
    quiet = λ e. still_quiet (λ (q : Plan) (k : ℕ). (n : ℕ) → n < length q.chains → NoMoveBetween c.args.rules.now c.args.ends.now q n k) c.args.plan.now.plan c.loop-d.plan.plan c.loop-d.d (c.loop-d.invariant.same (sym w.again-is ∙ e)) (c.loop-d.invariant.quiet (sym w.again-is ∙ e)) (c.moves_into.ensures.quiet (not_true c.moves_into.result w.if-moves_into.false)).1;
  }
]
