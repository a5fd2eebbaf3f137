use Rattle.std.proofs.Common.{ℕ, List, length, ap, arith}
use Rattle.chain_rules.specs.Legality.{chain_at}
use Rattle.order_search.proofs.Legal.{chain_few}
use Rattle.partition_moves.proofs.Settled.{in_range, place_in}
use Rattle.partition_moves.proofs.swaps.partner_for.Goals as goal

pub unplaced-lift-requires-clause-entry : goal.unplaced-lift-requires-clause-entry
unplaced-lift-requires-clause-entry c =
    let range = in_range c.args.rules.now c.args.ends.now c.args.plan.now.plan c.args.c c.chain.result.now c.requires.chain c.requires.searchable c.requires.legal c.chain.ensures.value in
    range.entry c.args.i (place_in c.chain.result.now (chain_at c.args.plan.now.plan c.args.c) c.args.i c.chain.ensures.value c.requires.place)

pub unplaced-lift-requires-clause-exit : goal.unplaced-lift-requires-clause-exit
unplaced-lift-requires-clause-exit c =
    let range = in_range c.args.rules.now c.args.ends.now c.args.plan.now.plan c.args.c c.chain.result.now c.requires.chain c.requires.searchable c.requires.legal c.chain.ensures.value in
    range.exit c.args.i (place_in c.chain.result.now (chain_at c.args.plan.now.plan c.args.c) c.args.i c.chain.ensures.value c.requires.place)

pub closer_place-requires-clause-chain : goal.closer_place-requires-clause-chain
closer_place-requires-clause-chain c = in_range c.args.rules.now c.args.ends.now c.args.plan.now.plan c.args.d c.chain-others.result.now c.requires.other c.requires.searchable c.requires.legal c.chain-others.ensures.value

pub closer_place-requires-clause-room : goal.closer_place-requires-clause-room
closer_place-requires-clause-room c = omega (arith, ap (λ (us : List ℕ). length us) c.chain-others.ensures.value, chain_few c.args.rules.now c.args.plan.now.plan c.args.d c.requires.other c.requires.legal, c.requires.room)
