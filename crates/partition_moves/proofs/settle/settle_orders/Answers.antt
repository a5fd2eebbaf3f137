use Rattle.std.proofs.Common.{ℕ, List, length, refl, sym, ap, ◌∙◌, arith, subst, eqb}
use Rattle.std.specs.List.{IsDistinct}
use Rattle.chain_rules.specs.Legality.{chain_at}
use Rattle.chain_rules.specs.declared.plan.Plan.{Plan}
use Rattle.chain_rules.proofs.PlanParts.{with_chain-same}
use Rattle.wire_cost.specs.Lengths.{AreWithin}
use Rattle.order_search.specs.Steps.{IsPinnedLast}
use Rattle.order_search.proofs.Legal.{AreTurned, chain_apart, chain_few, chain_within, legal_turned, pinned_last_in}
use Rattle.order_search.proofs.Settling.{order_settled, plan_le, turned_more}
use Rattle.partition_moves.proofs.Refused.{kept_turned}
use Rattle.partition_moves.proofs.settle.settle_orders.Goals as goal

pub settle_chain-requires-clause-units : goal.settle_chain-requires-clause-units
settle_chain-requires-clause-units c =
    let e = c.loop-c.invariant.turned.rest c.loop-c.c (omega arith) in
    subst (λ (us : List ℕ). AreWithin us (length c.args.rules.now.units)) (sym e) (chain_within c.args.rules.now c.args.plan.now.plan c.loop-c.c (omega arith) c.requires.legal)

pub settle_chain-requires-clause-different : goal.settle_chain-requires-clause-different
settle_chain-requires-clause-different c =
    let e = c.loop-c.invariant.turned.rest c.loop-c.c (omega arith) in
    subst (IsDistinct eqb) (sym e) (chain_apart c.args.rules.now c.args.plan.now.plan c.loop-c.c (omega arith) c.requires.legal)

pub settle_chain-requires-clause-pinned : goal.settle_chain-requires-clause-pinned
settle_chain-requires-clause-pinned c =
    let e = c.loop-c.invariant.turned.rest c.loop-c.c (omega arith) in
    subst (IsPinnedLast c.args.rules.now) (sym e) (pinned_last_in c.args.rules.now c.args.plan.now.plan c.loop-c.c (omega arith) c.requires.legal c.requires.searchable.read)

pub settle_chain-requires-clause-room : goal.settle_chain-requires-clause-room
settle_chain-requires-clause-room c =
    let e = ap length (c.loop-c.invariant.turned.rest c.loop-c.c (omega arith)) in
    omega (arith, e, chain_few c.args.rules.now c.args.plan.now.plan c.loop-c.c (omega arith) c.requires.legal, c.loop-c.invariant.same_room, c.requires.sums)

pub loop-c-preserved : goal.loop-c-preserved
loop-c-preserved c =
    let rules = c.args.rules.now in
    let ends = c.args.ends.now in
    let n = c.loop-c.c in
    let q : Plan = c.loop-c.plan.plan in
    let s : Plan = c.settle_chain.new.self.plan in
    record {
      turned = turned_more rules ends c.args.plan.now.plan q q s n (chain_at q n) (chain_at s n) c.loop-c.invariant.turned (omega arith) (sym (with_chain-same q n (chain_at q n) refl)) c.settle_chain.ensures.plan
          c.settle_chain.ensures.permutation c.settle_chain.ensures.pinned c.settle_chain.ensures.no_longer c.settle_chain.ensures.settled;
      rooms = c.settle_chain.ensures.rooms ∙ c.loop-c.invariant.rooms;
      bits = c.settle_chain.ensures.bits ∙ c.loop-c.invariant.bits;
      least = c.settle_chain.ensures.least ∙ c.loop-c.invariant.least;
      same_room = c.settle_chain.ensures.room ∙ c.loop-c.invariant.same_room;
    }

pub returns-clause-legal : goal.returns-clause-legal
returns-clause-legal c =
    let t = c.loop-c.invariant.turned in
    let turned : AreTurned c.args.plan.now.plan c.loop-c.plan.plan = record { count = t.count; chains = t.same } in
    legal_turned c.args.rules.now c.args.plan.now.plan c.loop-c.plan.plan c.requires.legal turned (λ k l. t.pinned k (omega arith))

pub returns-clause-kept : goal.returns-clause-kept
returns-clause-kept c =
    let t = c.loop-c.invariant.turned in
    let turned : AreTurned c.args.plan.now.plan c.loop-c.plan.plan = record { count = t.count; chains = t.same } in
    let legal = legal_turned c.args.rules.now c.args.plan.now.plan c.loop-c.plan.plan c.requires.legal turned (λ k l. t.pinned k (omega arith)) in
    kept_turned c.args.rules.now c.args.plan.now c.loop-c.plan c.requires.kept c.requires.legal legal c.loop-c.invariant.rooms c.loop-c.invariant.bits c.loop-c.invariant.least t.count (λ k h. t.same k h)

pub returns-clause-no_longer : goal.returns-clause-no_longer
returns-clause-no_longer c =
    let t = c.loop-c.invariant.turned in
    plan_le c.args.ends.now c.args.plan.now.plan c.loop-c.plan.plan t.count (λ k l. t.no_longer k (omega arith))

pub returns-clause-settled : goal.returns-clause-settled
returns-clause-settled c =
    let t = c.loop-c.invariant.turned in
    order_settled c.args.rules.now c.args.ends.now c.loop-c.plan.plan c.requires.searchable.read (λ k l. t.settled k (omega (arith, t.count)))
