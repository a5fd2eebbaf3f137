use Rattle.std.proofs.Common.{◌/◌, inl, inr, arith}
use Rattle.std.proofs.lemmas.Bool.{cases_lt}
use Rattle.wire_cost.specs.Lengths.{chain_ends}
use Rattle.partition_moves.proofs.lift.shorter_place.Goals as goal

pub loop-k-preserved-then-is_far : goal.loop-k-preserved-then-is_far
loop-k-preserved-then-is_far c = record {
  from = omega (arith, c.loop-k.invariant.from);
  none = λ j p q r. elim (cases_lt j c.loop-k.k) [
    | inl a ↦ c.loop-k.invariant.none j p a r
    | inr b ↦ c.is_far.ensures.far c.if-is_far.true (chain_ends c.args.ends.now c.args.chain) c.args.units.now j (c.requires.blocks.each (c.loop-k.k / 32) j _ (omega (arith, c.if-k-eq0.true)) (omega (arith, c.if-k-eq0.true)) r)
  ];
}
