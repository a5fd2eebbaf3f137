-- The least of places, one list behind the other.
use Rattle.std.proofs.Common.{◌≡◌, ℕ, zero, suc, ◌<◌, ◌≤◌, ◌⊎◌, inl, inr, Bool, true, false, min, List, [], ◌∷◌, ◌++◌, Option, Some, None, Contains, refl, sym, ap, ◌∙◌, subst, arith}
use Rattle.std.specs.List.{flat_map}
use Rattle.list_laws.specs.Leasts.{place_if, lesser, least_of, found_if}

pub lesser_none : (a : Option ℕ) → lesser a None ≡ a
lesser_none None = refl
lesser_none (Some a) = refl

min_assoc : (a b c : ℕ) → min (min a b) c ≡ min a (min b c)
min_assoc a b c = omega arith

pub lesser_assoc : (a b c : Option ℕ) → lesser (lesser a b) c ≡ lesser a (lesser b c)
lesser_assoc None b c = refl
lesser_assoc (Some a) None c = refl
lesser_assoc (Some a) (Some b) None = refl
lesser_assoc (Some a) (Some b) (Some c) = ap (λ (n : ℕ). Some n) (min_assoc a b c)

pub least_append : (ps qs : List ℕ) → least_of (ps ++ qs) ≡ lesser (least_of ps) (least_of qs)
least_append [] qs = refl
least_append (p ∷ ps) qs = ap (lesser (Some p)) (least_append ps qs) ∙ sym (lesser_assoc (Some p) (least_of ps) (least_of qs))

pub least_if : (b : Bool) (p : ℕ) → least_of (place_if b p) ≡ found_if b p
least_if true p = refl
least_if false p = refl

-- a place more, and then a list
pub then_more : (a : Option ℕ) (b : Bool) (p : ℕ) (ps : List ℕ) → lesser (lesser a (found_if b p)) (least_of ps) ≡ lesser a (least_of (place_if b p ++ ps))
then_more a b p ps =
    lesser_assoc a (found_if b p) (least_of ps) ∙ ap (λ (x : Option ℕ). lesser a (lesser x (least_of ps))) (sym (least_if b p)) ∙ ap (lesser a) (sym (least_append (place_if b p) ps))

-- a place, where it counts, in front of a list
pub then_if : (a now o : Option ℕ) (b : Bool) (p : ℕ) (ps : List ℕ) → o ≡ found_if b p → now ≡ lesser a o → lesser now (least_of ps) ≡ lesser a (least_of (place_if b p ++ ps))
then_if a now o b p ps is put = rw (put, is) (then_more a b p ps)

-- two lists
pub then_list : (a : Option ℕ) (ps qs : List ℕ) → lesser (lesser a (least_of ps)) (least_of qs) ≡ lesser a (least_of (ps ++ qs))
then_list a ps qs = lesser_assoc a (least_of ps) (least_of qs) ∙ ap (lesser a) (sym (least_append ps qs))

-- a list, and then a place
pub then_place : (a : Option ℕ) (ps : List ℕ) (b : Bool) (p : ℕ) → lesser (lesser a (least_of ps)) (found_if b p) ≡ lesser a (least_of (ps ++ place_if b p))
then_place a ps b p = ap (lesser (lesser a (least_of ps))) (sym (least_if b p)) ∙ then_list a ps (place_if b p)

-- a value more, with the places that it has
pub more_places : {X : Type 0} (f : X → List ℕ) (least now o : Option ℕ) (x : X) (xs all : List X) → all ≡ x ∷ xs → o ≡ least_of (f x) → now ≡ lesser least o
    → lesser now (least_of (flat_map f xs)) ≡ lesser least (least_of (flat_map f all))
more_places f least now o x xs all cut is put = rw (put, is, cut) (then_list least (f x) (flat_map f xs))

-- a value more, with a place where it passes a test
pub more_if : {X : Type 0} (test : X → Bool) (place : X → ℕ) (least now o : Option ℕ) (b : Bool) (p : ℕ) (x : X) (xs all : List X) → all ≡ x ∷ xs → b ≡ test x → p ≡ place x → o ≡ found_if b p → now ≡ lesser least o
    → lesser now (least_of (flat_map (λ s. place_if (test s) (place s)) xs)) ≡ lesser least (least_of (flat_map (λ s. place_if (test s) (place s)) all))
more_if test place least now o b p x xs all cut bad at is put =
    more_places (λ s. place_if (test s) (place s)) least now o x xs all cut (rw (is, bad, at) (sym (least_if (test x) (place x)))) put

-- no value more
pub no_more : {X : Type 0} (f : X → List ℕ) (least total : Option ℕ) (rest : List X) → rest ≡ [] → lesser least (least_of (flat_map f rest)) ≡ total → least ≡ total
no_more f least total rest none e = sym (lesser_none least) ∙ (rw none at e)

-- none is the least of no places alone
pub no_places : (ps : List ℕ) → least_of ps ≡ None → ps ≡ []
no_places [] e = refl
no_places (p ∷ ps) e = some_least p (least_of ps) e
  where
    some_least : (p : ℕ) (r : Option ℕ) → lesser (Some p) r ≡ None → p ∷ ps ≡ []
    some_least p None e = absurd cc
    some_least p (Some q) e = absurd cc

-- the least place is one of them, and no other is less
pub record IsLeastPlace (ps : List ℕ) (least : ℕ) : Type 0 where
  pub there : Contains ps least
  pub below : (q : ℕ) → Contains ps q → least ≤ q

first_there : (p : ℕ) (ps : List ℕ) → Contains (p ∷ ps) p
first_there p ps = (0, omega arith, refl)

later_there : (p : ℕ) (ps : List ℕ) (q : ℕ) → Contains ps q → Contains (p ∷ ps) q
later_there p ps q h = (suc h.0, let lt = h.1 in omega arith, h.2)

pub none_there : (q : ℕ) → Contains [] q → ⊥
none_there q h = let lt = h.1 in absurd (omega arith)

either_there : (p : ℕ) (ps : List ℕ) (q : ℕ) → Contains (p ∷ ps) q → (p ≡ q) ⊎ Contains ps q
either_there p ps q (zero, lt, is) = inl is
either_there p ps q (suc k, lt, is) = inr (k, omega arith, is)

order : (a b : ℕ) → (a ≤ b) ⊎ (b < a)
order zero b = inl (omega arith)
order (suc a) zero = inr (omega arith)
order (suc a) (suc b) = elim (order a b) [ inl le ↦ inl (omega arith) | inr lt ↦ inr (omega arith) ]

with_first : (p : ℕ) (ps : List ℕ) (r : Option ℕ) (least : ℕ) → least_of ps ≡ r → ((q : ℕ) → r ≡ Some q → IsLeastPlace ps q) → lesser (Some p) r ≡ Some least → IsLeastPlace (p ∷ ps) least
with_first p ps None least is rest e =
    let same : p ≡ least = cc in
    let none = no_places ps is in
    subst (λ (x : ℕ). IsLeastPlace (p ∷ ps) x) same
    (record {
      there = first_there p ps;
      below = λ q h. elim (either_there p ps q h) [ inl k ↦ omega (arith, k) | inr k ↦ absurd (none_there q (subst (λ (l : List ℕ). Contains l q) none k)) ];
    })
with_first p ps (Some m) least is rest e =
    let same : min p m ≡ least = cc in
    let others = rest m refl in
    elim (order p m) [
      | inl le ↦
          let first : p ≡ least = omega arith in
          subst (λ (x : ℕ). IsLeastPlace (p ∷ ps) x) first
          (record {
            there = first_there p ps;
            below = λ q h. elim (either_there p ps q h) [ inl k ↦ omega (arith, k) | inr k ↦ let more = others.below q k in omega arith ];
          })
      | inr lt ↦
          let first : m ≡ least = omega arith in
          subst (λ (x : ℕ). IsLeastPlace (p ∷ ps) x) first
          (record {
            there = later_there p ps m others.there;
            below = λ q h. elim (either_there p ps q h) [ inl k ↦ omega (arith, k) | inr k ↦ others.below q k ];
          })
    ]

pub least_place : (ps : List ℕ) (least : ℕ) → least_of ps ≡ Some least → IsLeastPlace ps least
least_place [] least e = absurd cc
least_place (p ∷ ps) least e = with_first p ps (least_of ps) least refl (λ q h. least_place ps q h) e
