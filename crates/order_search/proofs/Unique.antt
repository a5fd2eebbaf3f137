-- At most one plan is that of nearest neighbours.
use Rattle.std.proofs.Common.{◌≡◌, ◌≢◌, ℕ, ◌+◌, ◌-◌, ◌<◌, ◌≤◌, List, [], length, take, drop, get_or, Option, Some, refl, sym, ap, ◌∙◌, arith, subst, inl, inr, IsTrue, eqb, suc, zero}
use Rattle.std.specs.List.{Contains, IsDistinct}
use Rattle.std.specs.List.Sorted.{IsPermutation}
use Rattle.std.proofs.lemmas.Bool.{cases_eq, cases_lt}
use Rattle.std.proofs.lemmas.Bool.Decides.{nat_tests}
use Rattle.std.proofs.lemmas.List.{get_or-drop, get_or-take, get_or_default, length-drop, same_lists, take_all, take_more_same}
use Rattle.std.proofs.lemmas.List.Sorted.{Contains-permutation, IsPermutation-sym, IsPermutation-trans, length_permutation}
use Rattle.std.proofs.lemmas.Map.Keys.{IsDistinct-IsPermutation, apart_from_distinct}
use Rattle.base_types.specs.declared.span.Point.{Point}
use Rattle.chain_rules.specs.Legality.{IsLegal, chain_at, last_of, unit_at}
use Rattle.chain_rules.specs.declared.plan.Plan.{Plan}
use Rattle.chain_rules.specs.declared.unit.Rules.{Rules}
use Rattle.wire_cost.specs.declared.ends.Ends.{Ends}
use Rattle.wire_cost.specs.Lengths.{chain_ends, end_of}
use Rattle.order_search.specs.Nearest.{IsNearer, IsNearestChain, IsNearestPlan, point_at}
use Rattle.order_search.proofs.Legal.{chain_apart}
use Rattle.order_search.proofs.Pinned.{last_is_at}

-- of two units only one is nearer
nearer_apart : (ends : Ends) (read : List ℕ) (p : Option Point) (u v : ℕ) → IsNearer ends read p u v → IsNearer ends read p v u → ⊥
nearer_apart ends read p u v (inl a) (inl b) = omega arith
nearer_apart ends read p u v (inl a) (inr b) = omega (arith, b.0)
nearer_apart ends read p u v (inr a) (inl b) = omega (arith, a.0)
nearer_apart ends read p u v (inr a) (inr b) = omega (arith, a.1, b.1)

-- where two orders of the same units part at place k, the unit of the one stands later in the other
behind : (us vs : List ℕ) (k : ℕ) → IsPermutation us vs → IsDistinct eqb vs → take k us ≡ take k vs → k < length vs → get_or us k 0 ≢ get_or vs k 0 → (a : ℕ) × (k < a) × (a < length us) × (get_or us a 0 ≡ get_or vs k 0)
behind us vs k p d t l ne =
    let v = get_or vs k 0 in
    let s : Contains us v = Contains-permutation vs us v (IsPermutation-sym us vs p) (k, l, get_or_default vs k v 0 l) in
    let e : get_or us s.0 0 ≡ v = get_or_default us s.0 0 v s.1 ∙ s.2 in
    elim (cases_lt k s.0) [
      | inl x ↦ (s.0, x, s.1, e)
      | inr x ↦ elim (cases_eq s.0 k) [
        | inl y ↦ absurd (ne (ap (λ (i : ℕ). get_or us i 0) (sym y) ∙ e))
        | inr y ↦
            (let h : s.0 < k = (elim (cases_lt s.0 k) [ inl z ↦ z | inr z ↦ absurd (y (omega arith)) ]) in
            let f : get_or vs s.0 0 ≡ v = sym (get_or-take k vs s.0 0 h) ∙ ap (λ (xs : List ℕ). get_or xs s.0 0) (sym t) ∙ get_or-take k us s.0 0 h ∙ e in
            let a = apart_from_distinct eqb vs s.0 k 0 d h l in
            absurd (grind (arith, nat_tests, a, f)))
      ]
    ]

-- a unit that stands before another of the chain isn't pinned
not_pinned : (rules : Rules) (ends : Ends) (c : ℕ) (vs : List ℕ) (k b : ℕ) → IsNearestChain rules ends c vs → IsDistinct eqb vs → k < b → b < length vs → ¬ IsTrue (unit_at rules (get_or vs k 0)).pinned
not_pinned rules ends c vs k b n d h l = λ t.
    let e : last_of vs ≡ Some (get_or vs k 0) = n.pinned k 0 (omega arith) t in
    let f : last_of vs ≡ Some (get_or vs (length vs - 1) 0) = last_is_at vs (length vs - 1) (omega arith) in
    let g : get_or vs k 0 ≡ get_or vs (length vs - 1) 0 = cc in
    let a = apart_from_distinct eqb vs k (length vs - 1) 0 d (omega arith) (omega arith) in
    grind (arith, nat_tests, a, g)

-- the unit at place k is nearer than one behind it
nearer_at : (rules : Rules) (ends : Ends) (c : ℕ) (us : List ℕ) (k a v : ℕ) → IsNearestChain rules ends c us → k < a → a < length us → get_or us a 0 ≡ v → ¬ IsTrue (unit_at rules v).pinned → IsNearer ends (chain_at rules.read c) (point_at ends c us k) (get_or us k 0) v
nearer_at rules ends c us k a v n h l e free =
    let at : get_or (drop (k + 1) us) (a - (k + 1)) 0 ≡ v = get_or-drop (k + 1) us (a - (k + 1)) 0 ∙ ap (λ (i : ℕ). get_or us i 0) (omega arith) ∙ e in
    let near = n.nearest k (omega arith) (a - (k + 1)) 0 (omega (arith, length-drop (k + 1) us)) in
    let P : ℕ → Type 0 = λ (x : ℕ). ¬ IsTrue (unit_at rules x).pinned → IsNearer ends (chain_at rules.read c) (point_at ends c us k) (get_or us k 0) x in
    subst P at near free

same_at : (rules : Rules) (ends : Ends) (c : ℕ) (us vs : List ℕ) (k : ℕ) → IsNearestChain rules ends c us → IsNearestChain rules ends c vs → IsDistinct eqb us → IsDistinct eqb vs → IsPermutation us vs → take k us ≡ take k vs → k < length us → get_or us k 0 ≡ get_or vs k 0
same_at rules ends c us vs k nu nv du dv p t l = elim (cases_eq (get_or us k 0) (get_or vs k 0)) [
  | inl e ↦ e
  | inr ne ↦
      (let m : length vs ≡ length us = length_permutation us vs p in
      let a = behind us vs k p dv t (omega arith) ne in
      let b = behind vs us k (IsPermutation-sym us vs p) du (sym t) l (λ e. ne (sym e)) in
      let x = nearer_at rules ends c us k a.0 (get_or vs k 0) nu a.1 a.2 a.3 (not_pinned rules ends c vs k b.0 nv dv b.1 b.2) in
      let y = nearer_at rules ends c vs k b.0 (get_or us k 0) nv b.1 b.2 b.3 (not_pinned rules ends c us k a.0 nu du a.1 a.2) in
      let q : point_at ends c vs k ≡ point_at ends c us k = ap (end_of ends.exit (chain_ends ends c).start) (sym t) in
      let P : Option Point → Type 0 = λ (z : Option Point). IsNearer ends (chain_at rules.read c) z (get_or vs k 0) (get_or us k 0) in
      absurd (nearer_apart ends (chain_at rules.read c) (point_at ends c us k) (get_or us k 0) (get_or vs k 0) x (subst P q y)))
]

same_front : (rules : Rules) (ends : Ends) (c : ℕ) (us vs : List ℕ) (k : ℕ) → IsNearestChain rules ends c us → IsNearestChain rules ends c vs → IsDistinct eqb us → IsDistinct eqb vs → IsPermutation us vs → k ≤ length us → take k us ≡ take k vs
same_front rules ends c us vs zero nu nv du dv p l = refl
same_front rules ends c us vs (suc k) nu nv du dv p l =
    let t = same_front rules ends c us vs k nu nv du dv p (omega arith) in
    let e = same_at rules ends c us vs k nu nv du dv p t (omega arith) in
    let s : k + 1 ≡ suc k = omega arith in
    let m : length vs ≡ length us = length_permutation us vs p in
    subst (λ (i : ℕ). take i us ≡ take i vs) s (take_more_same us vs k 0 (omega arith) (omega arith) t e)

same_chain : (rules : Rules) (ends : Ends) (c : ℕ) (us vs : List ℕ) → IsDistinct eqb (chain_at rules.read c) → IsNearestChain rules ends c us → IsNearestChain rules ends c vs → us ≡ vs
same_chain rules ends c us vs d nu nv =
    let read = chain_at rules.read c in
    let flips = λ (x y : ℕ). (let q : eqb x y ≡ eqb y x = grind (arith, nat_tests) in q) in
    let p : IsPermutation us vs = IsPermutation-trans us read vs (IsPermutation-sym read us nu.same) nv.same in
    let t = same_front rules ends c us vs (length us) nu nv (IsDistinct-IsPermutation eqb flips read us nu.same d) (IsDistinct-IsPermutation eqb flips read vs nv.same d) p (omega arith) in
    sym (take_all (length us) us (omega arith)) ∙ t ∙ take_all (length us) vs (omega (arith, length_permutation us vs p))

pub nearest_only : (rules : Rules) (ends : Ends) (p q : Plan) → IsLegal rules rules.read → IsNearestPlan rules ends p → IsNearestPlan rules ends q → q ≡ p
nearest_only rules ends p q g n m =
    let e : q.chains ≡ p.chains = same_lists q.chains p.chains (m.count ∙ sym n.count) (λ c d l.
    get_or_default q.chains c d [] l
    ∙ same_chain rules ends c (chain_at q c) (chain_at p c) (chain_apart rules rules.read c (omega (arith, m.count)) g) (m.chains c l) (n.chains c (omega (arith, m.count, n.count)))
    ∙ get_or_default p.chains c [] d (omega (arith, m.count, n.count))) in
    let make : List (List ℕ) → Plan = λ (xs : List (List ℕ)). (let r : Plan = record { chains = xs } in r) in
    ap make e
