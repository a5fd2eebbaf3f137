use Rattle.std.proofs.Common.{◌≡◌, ℕ, ◌≤◌, List, length, sym, ap, ◌∙◌, arith, subst, eqb}
use Rattle.std.specs.List.{IsDistinct}
use Rattle.std.specs.List.Sorted.{IsPermutation}
use Rattle.std.specs.Vec.{with_items}
use Rattle.std.proofs.lemmas.List.Sorted.{length_permutation}
use Rattle.std.proofs.lemmas.List.{with_items_is}
use Rattle.chain_rules.specs.Legality.{chain_at, with_chain}
use Rattle.chain_rules.specs.declared.plan.Plan.{Plan}
use Rattle.wire_cost.specs.Lengths.{AreWithin, chain_length_of}
use Rattle.order_search.specs.Steps.{IsPinnedLast}
use Rattle.order_search.proofs.Legal.{AreTurned, chain_apart, chain_within, legal_turned, pinned_last_in}
use Rattle.order_search.proofs.Settling.{order_settled, plan_le, turned_more}
use Rattle.order_search.proofs.order.settle_plan.Goals as goal

pub settle_chain_counted-more-requires-clause-units : goal.settle_chain_counted-more-requires-clause-units
settle_chain_counted-more-requires-clause-units c =
    let e = c.as_mut_slice.ensures.value ∙ c.exchange.ensures.units ∙ c.loop-c.invariant.turned.rest c.loop-c.c (omega arith) in
    subst (λ (us : List ℕ). AreWithin us (length c.args.rules.now.units)) (sym e) (chain_within c.args.rules.now c.args.plan.now c.loop-c.c (omega arith) c.requires.legal)

pub settle_chain_counted-more-requires-clause-different : goal.settle_chain_counted-more-requires-clause-different
settle_chain_counted-more-requires-clause-different c =
    let e = c.as_mut_slice.ensures.value ∙ c.exchange.ensures.units ∙ c.loop-c.invariant.turned.rest c.loop-c.c (omega arith) in
    subst (IsDistinct eqb) (sym e) (chain_apart c.args.rules.now c.args.plan.now c.loop-c.c (omega arith) c.requires.legal)

pub settle_chain_counted-more-requires-clause-pinned : goal.settle_chain_counted-more-requires-clause-pinned
settle_chain_counted-more-requires-clause-pinned c =
    let e = c.as_mut_slice.ensures.value ∙ c.exchange.ensures.units ∙ c.loop-c.invariant.turned.rest c.loop-c.c (omega arith) in
    subst (IsPinnedLast c.args.rules.now) (sym e) (pinned_last_in c.args.rules.now c.args.plan.now c.loop-c.c (omega arith) c.requires.legal c.requires.searchable.read)

pub loop-c-preserved : goal.loop-c-preserved
loop-c-preserved c =
    let rules = c.args.rules.now in
    let ends = c.args.ends.now in
    let n = c.loop-c.c in
    let q : Plan = c.loop-c.plan in
    let v = c.exchange.new.units in
    let ws : List ℕ = c.settle_chain_counted-more.new.units in
    let e : c.as_mut_slice.result.now ≡ chain_at q n = c.as_mut_slice.ensures.value ∙ c.exchange.ensures.units in
    let w : (with_items v ws).items ≡ ws = with_items_is v ws (length_permutation c.as_mut_slice.result.now ws c.settle_chain_counted-more.ensures.permutation ∙ c.as_mut_slice.ensures.len) in
    let d : c.exchange-in-loop-c.new.self ≡ with_chain c.exchange.new.self n ws = c.exchange-in-loop-c.ensures.plan ∙ ap (λ (us : List ℕ). with_chain c.exchange.new.self n us) w in
    let p : IsPermutation (chain_at q n) ws = subst (λ (us : List ℕ). IsPermutation us ws) e c.settle_chain_counted-more.ensures.permutation in
    let k : chain_length_of ends n ws ≤ chain_length_of ends n (chain_at q n) = subst (λ (us : List ℕ). chain_length_of ends n ws ≤ chain_length_of ends n us) e c.settle_chain_counted-more.ensures.no_longer in
    record {
      turned = turned_more rules ends c.args.plan.now q c.exchange.new.self c.exchange-in-loop-c.new.self n c.loop-c.units.items ws c.loop-c.invariant.turned (omega arith) c.exchange.ensures.plan d p c.settle_chain_counted-more.ensures.pinned k c.settle_chain_counted-more.ensures.settled;
      room = λ j l. (let r = c.loop-c.invariant.room j l in omega (arith, c.settle_chain_counted-more.ensures.room, r));
      same_room = c.settle_chain_counted-more.ensures.room ∙ c.loop-c.invariant.same_room;
    }

pub returns-clause-legal : goal.returns-clause-legal
returns-clause-legal c =
    let t = c.loop-c.invariant.turned in
    let turned : AreTurned c.args.plan.now c.loop-c.plan = record { count = t.count; chains = t.same } in
    legal_turned c.args.rules.now c.args.plan.now c.loop-c.plan c.requires.legal turned (λ k l. t.pinned k (omega arith))

pub returns-clause-no_longer : goal.returns-clause-no_longer
returns-clause-no_longer c =
    let t = c.loop-c.invariant.turned in
    plan_le c.args.ends.now c.args.plan.now c.loop-c.plan t.count (λ k l. t.no_longer k (omega arith))

pub returns-clause-settled : goal.returns-clause-settled
returns-clause-settled c =
    let t = c.loop-c.invariant.turned in
    order_settled c.args.rules.now c.args.ends.now c.loop-c.plan c.requires.searchable.read (λ k l. t.settled k (omega (arith, t.count)))
