use Rattle.std.proofs.Common.{◌≡◌, ℕ, List, length, ap, arith, inl, inr, subst}
use Rattle.std.proofs.lemmas.Bool.{cases_lt}
use Rattle.chain_rules.specs.Legality.{chain_at}
use Rattle.wire_cost.specs.Lengths.{chain_ends}
use Rattle.order_search.proofs.Legal.{chain_few}
use Rattle.partition_moves.specs.Links.{IsLift, IsShorterAt, NoMoveAt}
use Rattle.partition_moves.proofs.Landing.{a_gain, no_move_to, no_shorter, only_apart}
use Rattle.partition_moves.proofs.Settled.{in_range}
use Rattle.partition_moves.proofs.moves.place_for.Goals as goal

pub lift_of-lift-requires-clause-chain : goal.lift_of-lift-requires-clause-chain
lift_of-lift-requires-clause-chain c = in_range c.args.rules.now c.args.ends.now c.args.plan.now.plan c.args.c c.chain.result.now c.requires.chain c.requires.searchable c.requires.legal c.chain.ensures.value

pub shorter_place-requires-clause-chain : goal.shorter_place-requires-clause-chain
shorter_place-requires-clause-chain c = in_range c.args.rules.now c.args.ends.now c.args.plan.now.plan c.args.d c.chain-others.result.now c.requires.other c.requires.searchable c.requires.legal c.chain-others.ensures.value

pub shorter_place-requires-clause-room : goal.shorter_place-requires-clause-room
shorter_place-requires-clause-room c = omega (arith, ap (λ (us : List ℕ). length us) c.chain-others.ensures.value, chain_few c.args.rules.now c.args.plan.now.plan c.args.d c.requires.other c.requires.legal, c.requires.room)

pub open_place-requires-clause-few : goal.open_place-requires-clause-few
open_place-requires-clause-few c = omega (arith, chain_few c.args.rules.now c.args.plan.now.plan c.args.c c.requires.chain c.requires.legal, c.requires.searchable.few_units)

pub open_place-requires-clause-others_few : goal.open_place-requires-clause-others_few
open_place-requires-clause-others_few c = omega (arith, chain_few c.args.rules.now c.args.plan.now.plan c.args.d c.requires.other c.requires.legal, c.requires.searchable.few_units)

pub returns-in-Some-open_place-clause-found : goal.returns-in-Some-open_place-clause-found
returns-in-Some-open_place-clause-found c =
    let lift : IsLift (chain_ends c.args.ends.now c.args.c) (chain_at c.args.plan.now.plan c.args.c) c.args.i c.lift_of-lift.result = subst (λ (us : List ℕ). IsLift (chain_ends c.args.ends.now c.args.c) us c.args.i c.lift_of-lift.result) c.chain.ensures.value c.lift_of-lift.ensures.value in
    let less : IsShorterAt (chain_ends c.args.ends.now c.args.d) (chain_at c.args.plan.now.plan c.args.d) c.lift_of-lift.result c.in-Some.k = subst (λ (us : List ℕ). IsShorterAt (chain_ends c.args.ends.now c.args.d) us c.lift_of-lift.result c.in-Some.k) c.chain-others.ensures.value c.in-Some.ensures.found in
    let long = ap (λ (us : List ℕ). length us) c.chain-others.ensures.value in
    a_gain c.args.rules.now c.args.ends.now c.args.plan.now.plan c.args.c c.args.i c.args.d c.in-Some.k c.in-Some-open_place.j c.lift_of-lift.result c.requires.chain c.requires.place c.requires.other (omega (arith, long, c.in-Some.ensures.within.1)) lift less
    c.in-Some-open_place.ensures.lands c.in-Some-open_place.ensures.apart c.in-Some-open_place.ensures.legal

pub places-preserved : goal.places-preserved
places-preserved c k p q =
    let lift : IsLift (chain_ends c.args.ends.now c.args.c) (chain_at c.args.plan.now.plan c.args.c) c.args.i c.lift_of-lift.result = subst (λ (us : List ℕ). IsLift (chain_ends c.args.ends.now c.args.c) us c.args.i c.lift_of-lift.result) c.chain.ensures.value c.lift_of-lift.ensures.value in
    elim (cases_lt k c.places.from) [
      | inl a ↦ c.places.invariant k a q
      | inr a ↦ elim (cases_lt k c.in-Some.k) [
        | inl b ↦ no_shorter c.args.rules.now c.args.ends.now c.args.plan.now.plan c.args.c c.args.i c.args.d k c.lift_of-lift.result c.requires.chain c.requires.place c.requires.other q lift
            (subst (λ (us : List ℕ). ¬ IsShorterAt (chain_ends c.args.ends.now c.args.d) us c.lift_of-lift.result k) c.chain-others.ensures.value (c.in-Some.ensures.least k a b))
        | inr b ↦ (
            let e : c.in-Some.k ≡ k = omega arith in
            subst (NoMoveAt c.args.rules.now c.args.ends.now c.args.plan.now.plan c.args.c c.args.i c.args.d) e
            (only_apart c.args.rules.now c.args.ends.now c.args.plan.now.plan c.args.c c.args.i c.args.d c.in-Some.k c.requires.chain c.requires.place (λ j lands apart g. c.in_default-open_place.ensures.none j lands apart g.legal)))
      ]
    ]

pub returns-clause-none : goal.returns-clause-none
returns-clause-none c =
    let lift : IsLift (chain_ends c.args.ends.now c.args.c) (chain_at c.args.plan.now.plan c.args.c) c.args.i c.lift_of-lift.result = subst (λ (us : List ℕ). IsLift (chain_ends c.args.ends.now c.args.c) us c.args.i c.lift_of-lift.result) c.chain.ensures.value c.lift_of-lift.ensures.value in
    no_move_to c.args.rules.now c.args.ends.now c.args.plan.now.plan c.args.c c.args.i c.args.d c.requires.chain c.requires.place (λ k q. elim (cases_lt k c.places.from) [
      | inl a ↦ c.places.invariant k a q
      | inr a ↦ no_shorter c.args.rules.now c.args.ends.now c.args.plan.now.plan c.args.c c.args.i c.args.d k c.lift_of-lift.result c.requires.chain c.requires.place c.requires.other q lift
          (subst (λ (us : List ℕ). ¬ IsShorterAt (chain_ends c.args.ends.now c.args.d) us c.lift_of-lift.result k) c.chain-others.ensures.value (c.in_default.ensures.none k a (omega (arith, ap (λ (us : List ℕ). length us) c.chain-others.ensures.value, q))))
    ])
