use Rattle.std.proofs.Common.{ℕ, Bool, List, length, ap, arith, cond, refl, subst, sym, ◌∙◌}
use Rattle.base_types.proofs.TruthValues.{not_both}
use Rattle.chain_rules.specs.declared.plan.Plan.{Plan}
use Rattle.wire_cost.specs.Lengths.{chain_ends}
use Rattle.partition_moves.specs.Covers.{AreBlocks}
use Rattle.order_search.proofs.Legal.{chain_few}
use Rattle.partition_moves.specs.Quiet.{NoCloserSwap}
use Rattle.partition_moves.proofs.Exchanged.{no_swap_across}
use Rattle.partition_moves.proofs.Grouped.{quiet_after}
use Rattle.partition_moves.proofs.Settled.{in_range, is_false, not_true}
use Rattle.partition_moves.proofs.swaps.swaps_with_all.Goals as goal
use Rattle.partition_moves.proofs.swaps.swaps_with_all.Goals.{then-swaps_between, else-swaps_between}

pub fill_blocks-requires-clause-chain : goal.fill_blocks-requires-clause-chain
fill_blocks-requires-clause-chain c = in_range c.args.rules.now c.args.ends.now c.args.plan.now.plan c.args.d c.chain.result.now c.requires.chain c.requires.searchable c.requires.legal c.chain.ensures.value

pub fill_blocks-requires-clause-room : goal.fill_blocks-requires-clause-room
fill_blocks-requires-clause-room c = omega (arith, ap (λ (us : List ℕ). length us) c.chain.ensures.value, chain_few c.args.rules.now c.args.plan.now.plan c.args.d c.requires.chain c.requires.legal, c.requires.room)

pub chains-init : goal.chains-init
chains-init c = record {
  legal = c.requires.legal;
  kept = c.requires.kept;
  room = c.fill_blocks.ensures.room;
  blocks = subst (λ (us : List ℕ). AreBlocks (chain_ends c.args.ends.now c.args.d) us c.fill_blocks.new.blocks) c.chain.ensures.value c.fill_blocks.ensures.blocks;
  shorter = omega arith;
  same = λ e. refl;
  quiet = λ e k h l. no_swap_across c.args.rules.now c.args.ends.now c.args.plan.now.plan k c.args.d c.requires.legal l c.requires.chain (c.first-c.ensures.none k h);
}

pub chains-preserved : goal.chains-preserved
chains-preserved c = elim c.if-swaps_between.branch [
  | then-swaps_between w ↦ record {
    legal = c.swaps_between.ensures.legal;
    kept = c.swaps_between.ensures.kept;
    room = omega (arith, c.swaps_between.ensures.room, c.chains.invariant.room);
    blocks = c.swaps_between.ensures.blocks;
    shorter = omega (arith, ap {B = ℕ} (λ (b : Bool). cond b 1 0) w.again-is, ap {B = ℕ} (λ (b : Bool). cond b 1 0) w.if-swaps_between.true, c.swaps_between.ensures.shorter, c.chains.invariant.shorter);
    same = λ e. absurd (not_both c.if-swaps_between.again w.again-is e);
    quiet = λ e. absurd (not_both c.if-swaps_between.again w.again-is e);
  }
  | else-swaps_between w ↦ record {
    legal = c.swaps_between.ensures.legal;
    kept = c.swaps_between.ensures.kept;
    room = omega (arith, c.swaps_between.ensures.room, c.chains.invariant.room);
    blocks = c.swaps_between.ensures.blocks;
    shorter = omega (arith, ap {B = ℕ} (λ (b : Bool). cond b 1 0) w.again-is, ap {B = ℕ} (λ (b : Bool). cond b 1 0) w.if-swaps_between.false, c.swaps_between.ensures.shorter, c.chains.invariant.shorter);
    same = λ e. (c.swaps_between.ensures.quiet (not_true c.swaps_between.result w.if-swaps_between.false)).0 ∙ c.chains.invariant.same (sym w.again-is ∙ e);
    quiet = λ e. quiet_after (λ (q : Plan) (k : ℕ). NoCloserSwap c.args.rules.now c.args.ends.now q k c.args.d) c.args.plan.now.plan c.chains.plan.plan c.chains.c c.after-c.result (c.chains.invariant.same (sym w.again-is ∙ e)) (c.chains.invariant.quiet (sym w.again-is ∙ e)) (c.swaps_between.ensures.quiet (not_true c.swaps_between.result w.if-swaps_between.false)).1
        (λ k a b l. no_swap_across c.args.rules.now c.args.ends.now c.args.plan.now.plan k c.args.d c.requires.legal l c.requires.chain (c.after-c.ensures.none k a b));
  }
]

pub returns-clause-quiet : goal.returns-clause-quiet
returns-clause-quiet c y =
    let f = is_false c.chains.again y in
    let same = c.chains.invariant.same f in
    (same, λ k h. c.chains.invariant.quiet f k (omega (arith, ap (λ (q : Plan). length q.chains) same, h, c.chains-test.false)) h)
