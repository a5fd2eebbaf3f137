use Rattle.std.proofs.Common.{◌≡◌, ℕ, ◌≤◌, List, set, refl, sym, ap, ◌∙◌, subst}
use Rattle.std.specs.List.Sorted.{IsPermutation}
use Rattle.std.specs.Vec.{with_items}
use Rattle.std.proofs.lemmas.List.{with_items_is}
use Rattle.std.proofs.lemmas.List.Sorted.{length_permutation}
use Rattle.chain_rules.specs.Legality.{chain_at, with_chain}
use Rattle.chain_rules.specs.Plans.{plan_of}
use Rattle.chain_rules.specs.declared.plan.Plan.{Plan}
use Rattle.chain_rules.proofs.PlanParts.{chain_read, planned-set}
use Rattle.chain_rules.proofs.Steps.{with_chain_same}
use Rattle.wire_cost.specs.Lengths.{chain_length_of}
use Rattle.order_search.specs.Steps.{IsChainSettled, IsPinnedLast}
use Rattle.partition_moves.specs.Roomy.{RoomyPlan}
use Rattle.partition_moves.proofs.Worked.{rooms_set}
use Rattle.partition_moves.proofs.work.Work.settle_chain.Goals as goal

pub returns-clause-rooms : goal.returns-clause-rooms
returns-clause-rooms c =
    let vs = c.self.inside.chains.items in
    let v = c.index_mut.result.now in
    rooms_set vs c.args.c v (with_items v c.settle_chain.new.units) c.index_mut.ensures.value refl ∙ ap (λ (w : RoomyPlan). w.rooms) c.self.view_is

pub returns-clause-plan : goal.returns-clause-plan
returns-clause-plan c =
    let vs = c.self.inside.chains.items in
    let p : Plan = c.args.self.now.plan in
    let n : ℕ = c.args.c in
    let v = c.index_mut.result.now in
    let ws : List ℕ = c.settle_chain.new.units in
    let w : (with_items v ws).items ≡ ws = with_items_is v ws (length_permutation c.as_mut_slice.result.now ws c.settle_chain.ensures.permutation ∙ c.as_mut_slice.ensures.len) in
    let e : plan_of (set vs n (with_items v ws)) ≡ with_chain p n ws = planned-set vs n (with_items v ws) p ws (ap (λ (x : RoomyPlan). x.plan) c.self.view_is) w in
    let at : chain_at (plan_of (set vs n (with_items v ws))) n ≡ ws = ap (λ (q : Plan). chain_at q n) e ∙ with_chain_same p n ws c.requires.chain in
    e ∙ ap (λ (us : List ℕ). with_chain p n us) (sym at)

pub returns-clause-permutation : goal.returns-clause-permutation
returns-clause-permutation c =
    let vs = c.self.inside.chains.items in
    let p : Plan = c.args.self.now.plan in
    let n : ℕ = c.args.c in
    let v = c.index_mut.result.now in
    let ws : List ℕ = c.settle_chain.new.units in
    let there = chain_read vs n v p (ap (λ (w : RoomyPlan). w.plan) c.self.view_is) c.requires.chain c.index_mut.ensures.value in
    let w : (with_items v ws).items ≡ ws = with_items_is v ws (length_permutation c.as_mut_slice.result.now ws c.settle_chain.ensures.permutation ∙ c.as_mut_slice.ensures.len) in
    let e : plan_of (set vs n (with_items v ws)) ≡ with_chain p n ws = planned-set vs n (with_items v ws) p ws (ap (λ (x : RoomyPlan). x.plan) c.self.view_is) w in
    let at : chain_at (plan_of (set vs n (with_items v ws))) n ≡ ws = ap (λ (q : Plan). chain_at q n) e ∙ with_chain_same p n ws c.requires.chain in
    let perm : IsPermutation (chain_at p n) ws = subst (λ (us : List ℕ). IsPermutation us ws) (c.as_mut_slice.ensures.value ∙ there) c.settle_chain.ensures.permutation in
    subst (λ (us : List ℕ). IsPermutation (chain_at p n) us) (sym at) perm

pub returns-clause-pinned : goal.returns-clause-pinned
returns-clause-pinned c =
    let vs = c.self.inside.chains.items in
    let p : Plan = c.args.self.now.plan in
    let n : ℕ = c.args.c in
    let v = c.index_mut.result.now in
    let ws : List ℕ = c.settle_chain.new.units in
    let w : (with_items v ws).items ≡ ws = with_items_is v ws (length_permutation c.as_mut_slice.result.now ws c.settle_chain.ensures.permutation ∙ c.as_mut_slice.ensures.len) in
    let e : plan_of (set vs n (with_items v ws)) ≡ with_chain p n ws = planned-set vs n (with_items v ws) p ws (ap (λ (x : RoomyPlan). x.plan) c.self.view_is) w in
    let at : chain_at (plan_of (set vs n (with_items v ws))) n ≡ ws = ap (λ (q : Plan). chain_at q n) e ∙ with_chain_same p n ws c.requires.chain in
    subst (IsPinnedLast c.args.rules.now) (sym at) c.settle_chain.ensures.pinned

pub returns-clause-no_longer : goal.returns-clause-no_longer
returns-clause-no_longer c =
    let vs = c.self.inside.chains.items in
    let p : Plan = c.args.self.now.plan in
    let n : ℕ = c.args.c in
    let v = c.index_mut.result.now in
    let ws : List ℕ = c.settle_chain.new.units in
    let there = chain_read vs n v p (ap (λ (w : RoomyPlan). w.plan) c.self.view_is) c.requires.chain c.index_mut.ensures.value in
    let w : (with_items v ws).items ≡ ws = with_items_is v ws (length_permutation c.as_mut_slice.result.now ws c.settle_chain.ensures.permutation ∙ c.as_mut_slice.ensures.len) in
    let e : plan_of (set vs n (with_items v ws)) ≡ with_chain p n ws = planned-set vs n (with_items v ws) p ws (ap (λ (x : RoomyPlan). x.plan) c.self.view_is) w in
    let at : chain_at (plan_of (set vs n (with_items v ws))) n ≡ ws = ap (λ (q : Plan). chain_at q n) e ∙ with_chain_same p n ws c.requires.chain in
    subst (λ (us : List ℕ). chain_length_of c.args.ends.now n us ≤ chain_length_of c.args.ends.now n (chain_at p n)) (sym at)
    (subst (λ (us : List ℕ). chain_length_of c.args.ends.now n ws ≤ chain_length_of c.args.ends.now n us) (c.as_mut_slice.ensures.value ∙ there) c.settle_chain.ensures.no_longer)

pub returns-clause-settled : goal.returns-clause-settled
returns-clause-settled c =
    let vs = c.self.inside.chains.items in
    let p : Plan = c.args.self.now.plan in
    let n : ℕ = c.args.c in
    let v = c.index_mut.result.now in
    let ws : List ℕ = c.settle_chain.new.units in
    let w : (with_items v ws).items ≡ ws = with_items_is v ws (length_permutation c.as_mut_slice.result.now ws c.settle_chain.ensures.permutation ∙ c.as_mut_slice.ensures.len) in
    let e : plan_of (set vs n (with_items v ws)) ≡ with_chain p n ws = planned-set vs n (with_items v ws) p ws (ap (λ (x : RoomyPlan). x.plan) c.self.view_is) w in
    let at : chain_at (plan_of (set vs n (with_items v ws))) n ≡ ws = ap (λ (q : Plan). chain_at q n) e ∙ with_chain_same p n ws c.requires.chain in
    subst (IsChainSettled c.args.rules.now c.args.ends.now n) (sym at) c.settle_chain.ensures.settled
