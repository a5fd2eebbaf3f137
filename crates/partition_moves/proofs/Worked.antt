-- Vectors that have room for the units of a plan.
use Rattle.std.proofs.Common.{◌≡◌, ℕ, ◌+◌, ◌<◌, ◌≤◌, List, [], ◌∷◌, ◌++◌, Vec, length, get_or, set, insert, Result, Ok, sym, ap, ◌∙◌, arith, subst, inl, inr}
use Rattle.std.specs.Prelude.{vec_capacity, is_ok, if◌then◌else◌}
use Rattle.std.proofs.Math.Seq.{get_or-append_seam, map-set_same}
use Rattle.std.proofs.lemmas.Bool.{cases_lt}
use Rattle.std.proofs.lemmas.List.{get_or_append_left, get_or-map, length-map, map_push}
use Rattle.chain_rules.specs.Plans.{plan_of}
use Rattle.chain_rules.specs.declared.plan.Plan.{Plan}
use Rattle.partition_moves.specs.Roomy.{room_in, rooms_of}

-- the plan of some vectors has as many chains
pub vector_there : {A : Type 0} (vs : List (Vec ℕ A)) (p : Plan) (c : ℕ) → plan_of vs ≡ p → c < length p.chains → c < length vs
vector_there vs p c e h = omega (arith, length-map vs (λ v. v.items), ap (λ (q : Plan). length q.chains) e)

-- a vector that was read has the room of its place
pub room_read : {A : Type 0} (vs : List (Vec ℕ A)) (c : ℕ) (v : Vec ℕ A) → c < length vs → v ≡ get_or vs c v → room_in (rooms_of vs) c ≡ vec_capacity v
room_read {A} vs c v h e = get_or-map (λ (w : Vec ℕ A). vec_capacity w) vs c v 0 h ∙ ap (λ (w : Vec ℕ A). vec_capacity w) (sym e)

-- a vector with as much room in the place of one
pub rooms_set : {A : Type 0} (vs : List (Vec ℕ A)) (c : ℕ) (v w : Vec ℕ A) → v ≡ get_or vs c v → vec_capacity w ≡ vec_capacity v → rooms_of (set vs c w) ≡ rooms_of vs
rooms_set {A} vs c v w e f = map-set_same (λ (x : Vec ℕ A). vec_capacity x) vs c w v (f ∙ ap (λ (x : Vec ℕ A). vec_capacity x) e)

-- one vector more, with the room of the next place
pub rooms_push : {A : Type 0} (most : ℕ → ℕ) (vs : List (Vec ℕ A)) (v : Vec ℕ A) (n : ℕ) → length vs ≡ n → ((k : ℕ) → k < n → most k ≤ room_in (rooms_of vs) k) → most n ≤ vec_capacity v → (k : ℕ) → k < n + 1 → most k ≤ room_in (rooms_of (vs ++ v ∷ [])) k
rooms_push {A} most vs v n e all last k h =
    let long : length (rooms_of vs) ≡ n = length-map vs (λ (w : Vec ℕ A). vec_capacity w) ∙ e in
    let split : rooms_of (vs ++ v ∷ []) ≡ rooms_of vs ++ vec_capacity v ∷ [] = map_push (λ (w : Vec ℕ A). vec_capacity w) vs v in
    elim (cases_lt k n) [
      | inl a ↦ (
          let before = get_or_append_left (rooms_of vs) (vec_capacity v ∷ []) 0 k (omega arith) in
          omega (arith, all k a, before, ap (λ (xs : List ℕ). get_or xs k 0) split))
      | inr b ↦ (
          let same : n ≡ k = omega arith in
          let here : room_in (rooms_of (vs ++ v ∷ [])) n ≡ vec_capacity v = ap (λ (xs : List ℕ). get_or xs n 0) split ∙ ap (λ (i : ℕ). get_or (rooms_of vs ++ vec_capacity v ∷ []) i 0) (sym long) ∙ get_or-append_seam (rooms_of vs) (vec_capacity v) [] 0 in
          subst (λ (x : ℕ). most x ≤ room_in (rooms_of (vs ++ v ∷ [])) x) same (omega (arith, here, last)))
    ]

-- the same where the room was asked for by a number that is no less
pub rooms_pushed : {A : Type 0} (most : ℕ → ℕ) (vs : List (Vec ℕ A)) (v : Vec ℕ A) (n m : ℕ) → length vs ≡ n → ((k : ℕ) → k < n → most k ≤ room_in (rooms_of vs) k) → most n ≤ m → m ≤ vec_capacity v → (k : ℕ) → k < n + 1 → most k ≤ room_in (rooms_of (vs ++ v ∷ [])) k
rooms_pushed {A} most vs v n m e all low last k h = rooms_push most vs v n e all (omega (arith, low, last)) k h

-- what an insertion that succeeded leaves
pub inserted : {E : Type 0} (zs xs ys : List ℕ) (j u w : ℕ) (r : Result (Unit {0}) E) (x : Unit {0}) → zs ≡ (if is_ok r then insert xs j u else xs) → r ≡ Ok x → xs ≡ ys → u ≡ w → zs ≡ insert ys j w
inserted zs xs ys j u w r x e f g h = e ∙ ap (λ (o : Result (Unit {0}) _). if is_ok o then insert xs j u else xs) f ∙ (λ t. insert (g t) j (h t))
