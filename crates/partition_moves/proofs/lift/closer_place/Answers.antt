use Rattle.std.proofs.Common.{◌/◌, inl, inr, arith, subst, ◌≡◌, ℕ}
use Rattle.std.proofs.lemmas.Bool.{cases_lt, iff_false}
use Rattle.wire_cost.specs.Lengths.{chain_ends}
use Rattle.partition_moves.specs.Links.{IsCloserAt}
use Rattle.partition_moves.proofs.lift.closer_place.Goals as goal

pub loop-k-preserved-then-is_no_closer : goal.loop-k-preserved-then-is_no_closer
loop-k-preserved-then-is_no_closer c = record {
  from = omega (arith, c.loop-k.invariant.from);
  none = λ j p q r. elim (cases_lt j c.loop-k.k) [
    | inl a ↦ c.loop-k.invariant.none j p a r
    | inr b ↦ c.is_no_closer.ensures.far c.if-is_no_closer.true (chain_ends c.args.ends.now c.args.chain) c.args.units.now j r (c.requires.blocks.each (c.loop-k.k / 32) j _ (omega (arith, c.if-k-eq0.true)) (omega (arith, c.if-k-eq0.true)) (omega arith))
  ];
}

pub loop-k-preserved : goal.loop-k-preserved
loop-k-preserved c = record {
  from = omega (arith, c.loop-k.invariant.from);
  none = λ j p q r. elim (cases_lt j c.loop-k.k) [
    | inl a ↦ c.loop-k.invariant.none j p a r
    | inr b ↦ (let e : c.loop-k.k ≡ j = omega arith in subst (λ (k : ℕ). ¬ IsCloserAt (chain_ends c.args.ends.now c.args.chain) c.args.units.now c.args.lift.now k) e (iff_false c.is_closer_at.ensures.value c.if-is_closer_at.false))
  ];
}
