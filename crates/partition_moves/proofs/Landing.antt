-- The places of a chain with and without a unit, and what the move of that unit makes of a plan's length.
use Rattle.std.proofs.Common.{◌≡◌, ◌≢◌, ℕ, zero, suc, ◌+◌, ◌<◌, ◌≤◌, List, [], ◌∷◌, length, take, drop, get_or, remove, Option, Some, refl, sym, ap, ◌∙◌, slice_get, arith, subst, inl, inr}
use Rattle.std.proofs.lemmas.Bool.{cases_eq, cases_lt}
use Rattle.std.proofs.lemmas.List.Edits.{length-remove}
use Rattle.base_types.specs.declared.span.Point.{Point}
use Rattle.chain_rules.specs.Legality.{IsLegal, chain_at, moved_plan, rule_at, taken_out}
use Rattle.chain_rules.specs.declared.plan.Plan.{Plan}
use Rattle.chain_rules.specs.declared.unit.Rules.{Rules}
use Rattle.chain_rules.proofs.Moved.{allowed_across}
use Rattle.chain_rules.proofs.Steps.{with_chain_other, with_chain_same}
use Rattle.wire_cost.specs.declared.ends.Ends.{Ends}
use Rattle.wire_cost.specs.Lengths.{ChainEnds, chain_ends, end_of, first_of, link_of, plan_length_of}
use Rattle.wire_cost.specs.Rows.{before_at, next_at}
use Rattle.partition_moves.specs.Covers.{link_at}
use Rattle.order_search.specs.Trials.{IsGain, NoMoveTo, at}
use Rattle.partition_moves.specs.Links.{IsApart, IsLift, IsShorterAt, Lands, NoMoveAt}
use Rattle.partition_moves.specs.Quiet.{NoMoveBetween}
use Rattle.partition_moves.specs.declared.lift.Lift.{Lift}
use Rattle.partition_moves.proofs.Gains.{link_without, links_with, moved_length}

-- one comes from and goes to the same points at place j of xs as at place k of us
pub record IsSamePlace (w : ChainEnds) (xs : List ℕ) (j : ℕ) (us : List ℕ) (k : ℕ) : Type 0 where
  pub before : before_at w xs j ≡ before_at w us k
  pub next : next_at w xs j ≡ next_at w us k

before_kept : (exit : List Point) (x : Option Point) (us : List ℕ) (i k : ℕ) → k ≤ i → i < length us → end_of exit x (take k (remove us i)) ≡ end_of exit x (take k us)
before_kept exit x [] i k p l = absurd (omega arith)
before_kept exit x (u ∷ us) i zero p l = refl
before_kept exit x (u ∷ us) zero (suc k) p l = absurd (omega arith)
before_kept exit x (u ∷ us) (suc i) (suc k) p l = before_kept exit (slice_get exit u) us i k (omega arith) (omega arith)

next_kept : (entry : List Point) (stop : Option Point) (us : List ℕ) (i k : ℕ) → k < i → i < length us → first_of entry stop (drop k (remove us i)) ≡ first_of entry stop (drop k us)
next_kept entry stop [] i k p l = absurd (omega arith)
next_kept entry stop (u ∷ us) zero k p l = absurd (omega arith)
next_kept entry stop (u ∷ us) (suc i) zero p l = refl
next_kept entry stop (u ∷ us) (suc i) (suc k) p l = next_kept entry stop us i k (omega arith) (omega arith)

before_after : (exit : List Point) (x : Option Point) (us : List ℕ) (i j : ℕ) → i < j → j < length us → end_of exit x (take j (remove us i)) ≡ end_of exit x (take (suc j) us)
before_after exit x [] i j p l = absurd (omega arith)
before_after exit x (u ∷ us) i zero p l = absurd (omega arith)
before_after exit x (u ∷ []) zero (suc j) p l = absurd (omega arith)
before_after exit x (u ∷ v ∷ us) zero (suc j) p l = refl
before_after exit x (u ∷ us) (suc i) (suc j) p l = before_after exit (slice_get exit u) us i j (omega arith) (omega arith)

next_after : (entry : List Point) (stop : Option Point) (us : List ℕ) (i j : ℕ) → i ≤ j → i < length us → first_of entry stop (drop j (remove us i)) ≡ first_of entry stop (drop (suc j) us)
next_after entry stop [] i j p l = absurd (omega arith)
next_after entry stop (u ∷ us) zero j p l = refl
next_after entry stop (u ∷ us) (suc i) zero p l = absurd (omega arith)
next_after entry stop (u ∷ us) (suc i) (suc j) p l = next_after entry stop us i j (omega arith) (omega arith)

-- a place of the unit's own chain
same_own : (w : ChainEnds) (us : List ℕ) (c i k j : ℕ) → i < length us → k ≤ length us → Lands c i c k j → IsApart c i c k → IsSamePlace w (remove us i) j us k
same_own w us c i k j l h lands apart = elim lands [
  | inl a ↦ (
      let s : suc j ≡ k = omega (arith, a.2) in
      let n = (apart refl).1 in
      let far : i < j = elim (cases_lt i j) [ inl x ↦ x | inr x ↦ absurd (n (omega (arith, a.1, a.2))) ] in
      record {
        before = before_after w.exit w.start us i j far (omega (arith, a.2)) ∙ ap (before_at w us) s;
        next = next_after w.entry w.stop us i j (omega arith) l ∙ ap (next_at w us) s;
      })
  | inr b ↦ (
      let n = (apart refl).0 in
      let m : k ≤ i = b.0 refl in
      let near : k < i = elim (cases_lt k i) [ inl x ↦ x | inr x ↦ absurd (n (omega arith)) ] in
      record {
        before = ap (before_at w (remove us i)) b.1 ∙ before_kept w.exit w.start us i k m l;
        next = ap (next_at w (remove us i)) b.1 ∙ next_kept w.entry w.stop us i k near l;
      })
]

same_place : (w : ChainEnds) (p : Plan) (c i d k j : ℕ) → c < length p.chains → i < length (chain_at p c) → k ≤ length (chain_at p d) → Lands c i d k j → IsApart c i d k → IsSamePlace w (chain_at (taken_out p (at c i)) d) j (chain_at p d) k
same_place w p c i d k j hc hi hk lands apart = elim (cases_eq c d) [
  | inl e ↦ subst (λ (x : ℕ). k ≤ length (chain_at p x) → Lands c i x k j → IsApart c i x k → IsSamePlace w (chain_at (taken_out p (at c i)) x) j (chain_at p x) k) e
      (λ h m a. subst (λ (xs : List ℕ). IsSamePlace w xs j (chain_at p c) k) (sym (with_chain_same p c (remove (chain_at p c) i) hc)) (same_own w (chain_at p c) c i k j hi h m a)) hk lands apart
  | inr n ↦ subst (λ (xs : List ℕ). IsSamePlace w xs j (chain_at p d) k) (sym (with_chain_other p c d (remove (chain_at p c) i) (λ f. n (sym f))))
      (elim lands [
        | inl a ↦ absurd (n a.0)
        | inr b ↦ record { before = ap (before_at w (chain_at p d)) b.1; next = ap (next_at w (chain_at p d)) b.1 }
      ])
]

-- the links that the test of a place compares
pub landed : (e : Ends) (p : Plan) (c i d k j : ℕ) (l : Lift) → c < length p.chains → i < length (chain_at p c) → d < length p.chains → k ≤ length (chain_at p d) → IsLift (chain_ends e c) (chain_at p c) i l → Lands c i d k j → IsApart c i d k
    → plan_length_of e (moved_plan p (at c i) (at d j)) + (link_at (chain_ends e d) (chain_at p d) k + l.opened)
    ≡ plan_length_of e p + (link_of (before_at (chain_ends e d) (chain_at p d) k) (Some l.entry) + link_of (Some l.exit) (next_at (chain_ends e d) (chain_at p d) k) + l.closed)
landed e p c i d k j l hc hi hd hk lift lands apart =
    let w = chain_ends e c in
    let v = chain_ends e d in
    let us = chain_at p c in
    let ws = chain_at p d in
    let others = chain_at (taken_out p (at c i)) d in
    let u = get_or us i 0 in
    let s : i + 1 ≡ suc i = omega arith in
    let same : IsSamePlace v others j ws k = same_place v p c i d k j hc hi hk lands apart in
    let g1 : l.opened ≡ links_with w us i (suc i) u = lift.opened ∙ (λ n. link_of (before_at w us i) (sym lift.entry n) + link_of (sym lift.exit n) (ap (next_at w us) s n)) in
    let g2 : l.closed ≡ link_without w us i (suc i) = lift.closed ∙ (λ n. link_of (before_at w us i) (ap (next_at w us) s n)) in
    let g3 : link_without v others j j ≡ link_at v ws k = (λ n. link_of (same.before n) (same.next n)) in
    let g4 : links_with v others j j u ≡ link_of (before_at v ws k) (Some l.entry) + link_of (Some l.exit) (next_at v ws k) = (λ n. link_of (same.before n) (lift.entry n) + link_of (lift.exit n) (same.next n)) in
    omega (arith, g1, g2, g3, g4, moved_length e p c i d j others hc hi hd refl)

-- a unit that is put where it was leaves the plan as long
stays : (e : Ends) (p : Plan) (c i d j : ℕ) → c < length p.chains → i < length (chain_at p c) → c ≡ d → j ≡ i → plan_length_of e (moved_plan p (at c i) (at d j)) ≡ plan_length_of e p
stays e p c i d j hc hi f g =
    let w = chain_ends e c in
    let us = chain_at p c in
    let others = chain_at (taken_out p (at c i)) c in
    let o : others ≡ remove us i = with_chain_same p c (remove us i) hc in
    let b : before_at w others i ≡ before_at w us i = ap (λ (xs : List ℕ). before_at w xs i) o ∙ before_kept w.exit w.start us i i (omega arith) hi in
    let n : next_at w others i ≡ next_at w us (suc i) = ap (λ (xs : List ℕ). next_at w xs i) o ∙ next_after w.entry w.stop us i i (omega arith) hi in
    let u = get_or us i 0 in
    let g1 : link_without w others i i ≡ link_without w us i (suc i) = (λ t. link_of (b t) (n t)) in
    let g2 : links_with w others i i u ≡ links_with w us i (suc i) u = (λ t. link_of (b t) (slice_get w.entry u) + link_of (slice_get w.exit u) (n t)) in
    let same : plan_length_of e (moved_plan p (at c i) (at c i)) ≡ plan_length_of e p = omega (arith, g1, g2, moved_length e p c i c i others hc hi hc refl) in
    (λ t. plan_length_of e (moved_plan p (at c i) (at (sym f t) (g t)))) ∙ same

-- only the places apart from the unit count
pub only_apart : (rules : Rules) (e : Ends) (p : Plan) (c i d k : ℕ) → c < length p.chains → i < length (chain_at p c) → ((j : ℕ) → Lands c i d k j → IsApart c i d k → ¬ IsGain rules e p (moved_plan p (at c i) (at d j))) → NoMoveAt rules e p c i d k
only_apart rules e p c i d k hc hi none j lands g =
    let here : c ≡ d → j ≡ i → ⊥ = (λ x y. (let same = stays e p c i d j hc hi x y in absurd (omega (arith, same, g.shorter)))) in
    elim (cases_eq c d) [
      | inl x ↦ elim (cases_eq k i) [
        | inl y ↦ here x (elim lands [ inl a ↦ absurd (omega (arith, a.1)) | inr b ↦ b.1 ∙ y ])
        | inr y ↦ elim (cases_eq k (i + 1)) [
          | inl z ↦ here x (elim lands [ inl a ↦ omega (arith, a.2) | inr b ↦ absurd (omega (arith, b.0 x)) ])
          | inr z ↦ none j lands (λ f. (y, z)) g
        ]
      ]
      | inr n ↦ none j lands (λ f. absurd (n f)) g
    ]

-- a place where the wire isn't shorter is no gain
pub no_shorter : (rules : Rules) (e : Ends) (p : Plan) (c i d k : ℕ) (l : Lift) → c < length p.chains → i < length (chain_at p c) → d < length p.chains → k ≤ length (chain_at p d) → IsLift (chain_ends e c) (chain_at p c) i l
    → ¬ IsShorterAt (chain_ends e d) (chain_at p d) l k → NoMoveAt rules e p c i d k
no_shorter rules e p c i d k l hc hi hd hk lift not = only_apart rules e p c i d k hc hi (λ j lands apart g. not (omega (arith, landed e p c i d k j l hc hi hd hk lift lands apart, g.shorter)))

-- a place where it is, and where the unit may stand
pub a_gain : (rules : Rules) (e : Ends) (p : Plan) (c i d k j : ℕ) (l : Lift) → c < length p.chains → i < length (chain_at p c) → d < length p.chains → k ≤ length (chain_at p d) → IsLift (chain_ends e c) (chain_at p c) i l
    → IsShorterAt (chain_ends e d) (chain_at p d) l k → Lands c i d k j → IsApart c i d k → IsLegal rules (moved_plan p (at c i) (at d j)) → IsGain rules e p (moved_plan p (at c i) (at d j))
a_gain rules e p c i d k j l hc hi hd hk lift less lands apart legal = record { legal = legal; shorter = omega (arith, landed e p c i d k j l hc hi hd hk lift lands apart, less) }

-- how many units a chain has without the one that is taken out
pub length_out : (p : Plan) (c i d j : ℕ) → c < length p.chains → i < length (chain_at p c) → c ≡ d → length (chain_at (taken_out p (at c i)) d) + 1 ≡ length (chain_at p d)
length_out p c i d j hc hi e =
    let o = ap (λ (us : List ℕ). length us) (with_chain_same p c (remove (chain_at p c) i) hc) in
    subst (λ (x : ℕ). length (chain_at (taken_out p (at c i)) x) + 1 ≡ length (chain_at p x)) e (omega (arith, o, length-remove (chain_at p c) i hi))

pub length_other : (p : Plan) (c i d : ℕ) → c ≢ d → length (chain_at (taken_out p (at c i)) d) ≡ length (chain_at p d)
length_other p c i d n = ap (λ (us : List ℕ). length us) (with_chain_other p c d (remove (chain_at p c) i) (λ f. n (sym f)))

-- the place where the unit lands is one of the chain without it
pub lands_within : (p : Plan) (c i d k j : ℕ) → c < length p.chains → i < length (chain_at p c) → k ≤ length (chain_at p d) → Lands c i d k j → j ≤ length (chain_at (taken_out p (at c i)) d)
lands_within p c i d k j hc hi hk lands = elim (cases_eq c d) [
  | inl e ↦ (
      let n = length_out p c i d j hc hi e in
      let m = ap (λ (x : ℕ). length (chain_at p x)) e in
      elim lands [ inl a ↦ omega (arith, n, a.2) | inr b ↦ omega (arith, n, m, b.0 e, b.1) ])
  | inr f ↦ (
      let n = length_other p c i d f in
      elim lands [ inl a ↦ absurd (f a.0) | inr b ↦ omega (arith, n, b.1) ])
]

pub lands_once : (c i d k j m : ℕ) → Lands c i d k j → Lands c i d k m → j ≡ m
lands_once c i d k j m one other = elim one [
  | inl a ↦ elim other [ inl b ↦ omega (arith, a.2, b.2) | inr b ↦ absurd (omega (arith, a.1, b.0 a.0)) ]
  | inr a ↦ elim other [ inl b ↦ absurd (omega (arith, b.1, a.0 b.0)) | inr b ↦ a.1 ∙ sym b.1 ]
]

-- all places of a chain with the unit are all places without it
pub no_move_to : (rules : Rules) (e : Ends) (p : Plan) (c i d : ℕ) → c < length p.chains → i < length (chain_at p c) → ((k : ℕ) → k ≤ length (chain_at p d) → NoMoveAt rules e p c i d k) → NoMoveTo rules e p c i d
no_move_to rules e p c i d hc hi none j h = elim (cases_eq c d) [
  | inl f ↦ (
      let n = length_out p c i d j hc hi f in
      elim (cases_lt i j) [
        | inl a ↦ none (j + 1) (omega (arith, n, h)) j (inl (f, omega arith, refl))
        | inr b ↦ none j (omega (arith, n, h)) j (inr (λ x. b, refl))
      ])
  | inr f ↦ (let n = length_other p c i d f in none j (omega (arith, n, h)) j (inr (λ x. absurd (f x), refl)))
]

-- no unit moves to another partition
pub no_move_across : (rules : Rules) (e : Ends) (p : Plan) (c d : ℕ) → IsLegal rules p → c < length p.chains → d < length p.chains → ¬ ((rule_at rules c).partition ≡ (rule_at rules d).partition) → NoMoveBetween rules e p c d
no_move_across rules e p c d legal hc hd differ i hi j h g = elim (cases_eq c d) [
  | inl f ↦ absurd (differ (ap (λ (x : ℕ). (rule_at rules x).partition) f))
  | inr f ↦ (
      let n = length_other p c i d f in
      absurd (differ (allowed_across rules p legal (at c i) (at d j) (record { chain = hc; place = hi }) hd (omega (arith, n, h)) f g.legal).same))
]
