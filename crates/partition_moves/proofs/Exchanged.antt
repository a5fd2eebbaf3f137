-- An exchange that makes the plan shorter makes the links of one of both places shorter.
use Rattle.std.proofs.Common.{◌≡◌, ◌≢◌, ℕ, suc, ◌+◌, ◌-◌, ◌<◌, List, length, get_or, set, sym, ap, ◌∙◌, arith, subst, inl, inr}
use Rattle.std.proofs.lemmas.Bool.{cases_lt}
use Rattle.std.proofs.lemmas.List.{drop_more, set_comm}
use Rattle.chain_rules.specs.Legality.{IsLegal, chain_at, rule_at, swapped_plan}
use Rattle.chain_rules.specs.declared.plan.Plan.{Plan}
use Rattle.chain_rules.specs.declared.unit.Rules.{Rules}
use Rattle.chain_rules.proofs.Steps.{with_chain_other}
use Rattle.chain_rules.proofs.Swapped.{allowed_swap}
use Rattle.wire_cost.specs.declared.ends.Ends.{Ends}
use Rattle.wire_cost.specs.Lengths.{ChainEnds, chain_ends, first_of, link_of}
use Rattle.wire_cost.specs.Rows.{before_at, next_at}
use Rattle.wire_cost.proofs.Walks.{end_of-take, entry_at, exit_at}
use Rattle.partition_moves.specs.Covers.{link_at}
use Rattle.order_search.specs.Trials.{IsGain, at}
use Rattle.partition_moves.specs.Links.{IsCloserBy}
use Rattle.partition_moves.specs.Quiet.{HasNoSwap, NoCloserSwap}
use Rattle.partition_moves.proofs.Gains.{links_with, swapped_length}

-- the two links of the unit at a place are the link there and the next one
own_links : (w : ChainEnds) (us : List ℕ) (k : ℕ) → k < length us → links_with w us k (suc k) (get_or us k 0) ≡ link_at w us k + link_at w us (k + 1)
own_links w us k h =
    let s : suc k ≡ k + 1 = omega arith in
    let back : k + 1 - 1 ≡ k = omega arith in
    let n : next_at w us k ≡ entry_at w (get_or us k 0) = ap (first_of w.entry w.stop) (drop_more us k 0 h) in
    let b : before_at w us (k + 1) ≡ exit_at w (get_or us k 0) = end_of-take w.exit w.start us (k + 1) (omega arith) (omega arith) ∙ ap (λ (j : ℕ). exit_at w (get_or us j 0)) back in
    λ t. link_of (before_at w us k) (sym n t) + link_of (sym b t) (ap (next_at w us) s t)

closer_by : (w : ChainEnds) (us : List ℕ) (u k : ℕ) → k < length us → links_with w us k (suc k) u < links_with w us k (suc k) (get_or us k 0) → IsCloserBy w us u k
closer_by w us u k h less =
    let s : suc k ≡ k + 1 = omega arith in
    let one : links_with w us k (suc k) u ≡ link_of (before_at w us k) (entry_at w u) + link_of (exit_at w u) (next_at w us (k + 1)) = ap (λ (j : ℕ). link_of (before_at w us k) (entry_at w u) + link_of (exit_at w u) (next_at w us j)) s in
    omega (arith, one, own_links w us k h, less)

-- both units may be named first
swapped_back : (p : Plan) (c i d j : ℕ) → c ≢ d → swapped_plan p (at c i) (at d j) ≡ swapped_plan p (at d j) (at c i)
swapped_back p c i d j n =
    let us = chain_at p c in
    let ws = chain_at p d in
    let a : List ℕ = set us i (get_or ws j 0) in
    let b : List ℕ = set ws j (get_or us i 0) in
    let make : List (List ℕ) → Plan = λ (xs : List (List ℕ)). (let r : Plan = record { chains = xs } in r) in
    let left : swapped_plan p (at c i) (at d j) ≡ make (set (set p.chains c a) d b) = ap (λ (x : List ℕ). make (set (set p.chains c a) d (set x j (get_or us i 0)))) (with_chain_other p c d a (λ f. n (sym f))) in
    let right : swapped_plan p (at d j) (at c i) ≡ make (set (set p.chains d b) c a) = ap (λ (x : List ℕ). make (set (set p.chains d b) c (set x i (get_or ws j 0)))) (with_chain_other p d c b n) in
    left ∙ ap make (set_comm p.chains c d a b n) ∙ sym right

-- each two units tried from either side are all exchanges
pub all_swaps : (rules : Rules) (e : Ends) (p : Plan) → ((d : ℕ) → d < length p.chains → (c : ℕ) → c < length p.chains → NoCloserSwap rules e p c d) → HasNoSwap rules e p
all_swaps rules e p all c hc i hi d hd n j hj g =
    let w = chain_ends e c in
    let v = chain_ends e d in
    let us = chain_at p c in
    let ws = chain_at p d in
    let x = get_or us i 0 in
    let y = get_or ws j 0 in
    let eq = swapped_length e p c i d j hc hi hd hj n in
    elim (cases_lt (links_with v ws j (suc j) x) (links_with v ws j (suc j) y)) [
      | inl less ↦ (all d hd c hc).each n i hi j hj (closer_by v ws x j hj less) g
      | inr more ↦ (all c hc d hd).each (λ f. n (sym f)) j hj i hi (closer_by w us y i hi (omega (arith, eq, more, g.shorter))) (subst (IsGain rules e p) (swapped_back p c i d j n) g)
    ]

-- no two units of two partitions are exchanged
pub no_swap_across : (rules : Rules) (e : Ends) (p : Plan) (c d : ℕ) → IsLegal rules p → c < length p.chains → d < length p.chains → ¬ ((rule_at rules c).partition ≡ (rule_at rules d).partition) → NoCloserSwap rules e p c d
no_swap_across rules e p c d legal hc hd differ = record { each = λ n i hi j hj closer g. differ (allowed_swap rules p legal (at c i) (at d j) (record { chain = hc; place = hi }) (record { chain = hd; place = hj }) n g.legal).same }

-- none is with itself
pub no_swap_with_itself : (rules : Rules) (e : Ends) (p : Plan) (c d : ℕ) → c ≡ d → NoCloserSwap rules e p c d
no_swap_with_itself rules e p c d f = record { each = λ n. absurd (n f) }
