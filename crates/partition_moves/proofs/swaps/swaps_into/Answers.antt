use Rattle.std.proofs.Common.{ℕ, ◌<◌, List, length, refl, subst}
use Rattle.wire_cost.specs.Lengths.{chain_ends}
use Rattle.partition_moves.specs.Straight.{IsStraightAt}
use Rattle.partition_moves.proofs.Narrow.{no_swap_straight}
use Rattle.partition_moves.proofs.Settled.{in_range}
use Rattle.partition_moves.proofs.swaps.swaps_into.Goals as goal

pub is_straight-requires-clause-chain : goal.is_straight-requires-clause-chain
is_straight-requires-clause-chain c = in_range c.args.rules.now c.args.ends.now c.args.plan.now.plan c.args.d c.chain.result.now c.requires.chain c.requires.searchable c.requires.legal c.chain.ensures.value

pub returns-then-is_straight-clause-quiet : goal.returns-then-is_straight-clause-quiet
returns-then-is_straight-clause-quiet c = λ y. (
  refl,
  λ e h. no_swap_straight c.args.rules.now c.args.ends.now c.args.plan.now.plan e c.args.d c.args.widest c.requires.searchable c.requires.legal h c.requires.narrow
      (subst (λ (us : List ℕ). (k : ℕ) → k < length us → IsStraightAt (chain_ends c.args.ends.now c.args.d) us c.args.widest k) c.chain.ensures.value (c.is_straight.ensures.straight c.if-is_straight.true)),
)
