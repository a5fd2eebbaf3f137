use Rattle.std.proofs.Common.{◌≡◌, ◌+◌, ℕ, Some, arith}
use Rattle.chain_rules.specs.Legality.{swapped_plan}
use Rattle.chain_rules.specs.declared.plan.Plan.{Plan}
use Rattle.wire_cost.specs.Lengths.{plan_length_of}
use Rattle.order_search.specs.Trials.{at}
use Rattle.order_search.proofs.Legal.{chain_few}
use Rattle.partition_moves.proofs.Gains.{swap_links}
use Rattle.partition_moves.proofs.Settled.{gain_by, in_range, place_in, shorter_by}
use Rattle.partition_moves.proofs.swaps.is_gain.Goals as goal

pub entry_of-requires-clause-within : goal.entry_of-requires-clause-within
entry_of-requires-clause-within c = (in_range c.args.rules.now c.args.ends.now c.args.plan.now.plan c.args.c c.chain-us.result.now c.requires.chain c.requires.searchable c.requires.legal c.chain-us.ensures.value).entry c.args.i (place_in _ _ c.args.i c.chain-us.ensures.value c.requires.place)

pub exit_of-requires-clause-within : goal.exit_of-requires-clause-within
exit_of-requires-clause-within c = (in_range c.args.rules.now c.args.ends.now c.args.plan.now.plan c.args.c c.chain-us.result.now c.requires.chain c.requires.searchable c.requires.legal c.chain-us.ensures.value).exit c.args.i (place_in _ _ c.args.i c.chain-us.ensures.value c.requires.place)

pub point_before-before-requires-clause-chain : goal.point_before-before-requires-clause-chain
point_before-before-requires-clause-chain c = in_range c.args.rules.now c.args.ends.now c.args.plan.now.plan c.args.c c.chain-us.result.now c.requires.chain c.requires.searchable c.requires.legal c.chain-us.ensures.value

pub point_after-after-requires-clause-chain : goal.point_after-after-requires-clause-chain
point_after-after-requires-clause-chain c = in_range c.args.rules.now c.args.ends.now c.args.plan.now.plan c.args.c c.chain-us.result.now c.requires.chain c.requires.searchable c.requires.legal c.chain-us.ensures.value

pub overflow_cast-one-2 : goal.overflow_cast-one-2
overflow_cast-one-2 c = omega (arith, chain_few c.args.rules.now c.args.plan.now.plan c.args.c c.requires.chain c.requires.legal, c.requires.searchable.few_units)

pub entry_of-requires-2-clause-within : goal.entry_of-requires-2-clause-within
entry_of-requires-2-clause-within c = (in_range c.args.rules.now c.args.ends.now c.args.plan.now.plan c.args.d c.chain-ws.result.now c.requires.other c.requires.searchable c.requires.legal c.chain-ws.ensures.value).entry c.args.j (place_in _ _ c.args.j c.chain-ws.ensures.value c.requires.there)

pub exit_of-requires-2-clause-within : goal.exit_of-requires-2-clause-within
exit_of-requires-2-clause-within c = (in_range c.args.rules.now c.args.ends.now c.args.plan.now.plan c.args.d c.chain-ws.result.now c.requires.other c.requires.searchable c.requires.legal c.chain-ws.ensures.value).exit c.args.j (place_in _ _ c.args.j c.chain-ws.ensures.value c.requires.there)

pub point_before-left-requires-clause-chain : goal.point_before-left-requires-clause-chain
point_before-left-requires-clause-chain c = in_range c.args.rules.now c.args.ends.now c.args.plan.now.plan c.args.d c.chain-ws.result.now c.requires.other c.requires.searchable c.requires.legal c.chain-ws.ensures.value

pub point_after-right-requires-clause-chain : goal.point_after-right-requires-clause-chain
point_after-right-requires-clause-chain c = in_range c.args.rules.now c.args.ends.now c.args.plan.now.plan c.args.d c.chain-ws.result.now c.requires.other c.requires.searchable c.requires.legal c.chain-ws.ensures.value

pub overflow_cast-other-2 : goal.overflow_cast-other-2
overflow_cast-other-2 c = omega (arith, chain_few c.args.rules.now c.args.plan.now.plan c.args.d c.requires.other c.requires.legal, c.requires.searchable.few_units)

pub returns : goal.returns
returns c =
    let p = c.args.plan.now.plan in
    let ends = c.args.ends.now in
    let q : Plan = swapped_plan c.args.plan.now.plan (at c.args.c c.args.i) (at c.args.d c.args.j) in
    let now : ℕ = c.wire.result + c.wire-2.result + (c.wire-3.result + c.wire-4.result) in
    let then : ℕ = c.wire-5.result + c.wire-6.result + (c.wire-7.result + c.wire-8.result) in
    let links = swap_links c.args.ends.now c.args.plan.now.plan c.args.c c.args.i c.args.d c.args.j c.chain-us.result.now c.chain-ws.result.now c.point_before-before.result c.point_after-after.result c.point_before-left.result c.point_after-right.result (Some c.entry_of.result) (Some c.exit_of.result) (Some c.entry_of-2.result) (Some c.exit_of-2.result)
    c.wire.result c.wire-2.result c.wire-3.result c.wire-4.result c.wire-5.result c.wire-6.result c.wire-7.result c.wire-8.result
    c.requires.chain (place_in _ _ c.args.i c.chain-us.ensures.value c.requires.place) c.requires.other (place_in _ _ c.args.j c.chain-ws.ensures.value c.requires.there) c.requires.apart c.chain-us.ensures.value c.chain-ws.ensures.value
    c.point_before-before.ensures.value c.point_after-after.ensures.value c.point_before-left.ensures.value c.point_after-right.ensures.value c.entry_of.ensures.value c.exit_of.ensures.value c.entry_of-2.ensures.value c.exit_of-2.ensures.value
    c.wire.ensures.value c.wire-2.ensures.value c.wire-3.ensures.value c.wire-4.ensures.value c.wire-5.ensures.value c.wire-6.ensures.value c.wire-7.ensures.value c.wire-8.ensures.value in
    let e : plan_length_of ends q + now ≡ plan_length_of ends p + then = omega (arith, links) in
    let v = c.is_swap.ensures.value in
    record { value = (λ h. (let y = v.0 h in gain_by c.args.rules.now ends p q now then e y.0 y.1), λ g. v.1 (shorter_by c.args.rules.now ends p q now then e g, g.legal)) }
