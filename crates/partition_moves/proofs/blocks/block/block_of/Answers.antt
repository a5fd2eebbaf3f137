use Rattle.std.proofs.Common.{◌≡◌, inl, inr, arith, subst}
use Rattle.std.proofs.lemmas.Bool.{cases_lt}
use Rattle.wire_cost.specs.Lengths.{chain_ends}
use Rattle.partition_moves.specs.Covers.{Covers}
use Rattle.partition_moves.proofs.blocks.block.block_of.Goals as goal

pub loop-k-preserved : goal.loop-k-preserved
loop-k-preserved c = record {
  near = c.with_place-block.ensures.near;
  covers = λ j p q. elim (cases_lt j c.loop-k.k) [
    | inl a ↦ c.with_place-block.ensures.kept j (c.loop-k.invariant.covers j p a)
    | inr b ↦ (let e : c.loop-k.k ≡ j = omega arith in subst (Covers (chain_ends c.args.ends.now c.args.chain) c.args.units.now c.with_place-block.result) e c.with_place-block.ensures.covers)
  ];
}
