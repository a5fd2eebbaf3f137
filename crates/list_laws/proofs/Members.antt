-- Members of lists that are made of others.
use Rattle.std.proofs.Common.{◌≡◌, ℕ, zero, suc, ◌<◌, ◌⊎◌, inl, inr, List, [], ◌∷◌, ◌++◌, length, Option, Some, None, Contains, refl, sym, ap, ◌∙◌, subst, arith}
use Rattle.std.specs.Prelude.{slice_get}
use Rattle.std.specs.List.{filter_map, flat_map, cons_option}
use Rattle.std.proofs.lemmas.List.Elements.{Contains-append_left, Contains-append_right, Contains-append_cases}

-- what a member of a list gives
pub record From {A B : Type 0} (f : A → Option B) (xs : List A) (y : B) : Type 0 where
  pub member : A
  pub there : Contains xs member
  pub gives : f member ≡ Some y

in_more : {X : Type 0} (x y : X) (xs : List X) → Contains xs y → Contains (x ∷ xs) y
in_more x y xs h = (suc h.0, (let lt = h.1 in omega arith), h.2)

cons_case : {B : Type 0} (o : Option B) (rest : List B) (y : B) → Contains (cons_option o rest) y → (o ≡ Some y) ⊎ Contains rest y
cons_case None rest y h = inr h
cons_case (Some z) rest y (zero, lt, is) = inl (ap Some is)
cons_case (Some z) rest y (suc k, lt, is) = inr (k, omega arith, is)

to_cons : {B : Type 0} (o : Option B) (rest : List B) (y : B) → o ≡ Some y → Contains (cons_option o rest) y
to_cons None rest y e = absurd cc
to_cons (Some z) rest y e = let same : z ≡ y = cc in (zero, omega arith, same)

rest_cons : {B : Type 0} (o : Option B) (rest : List B) (y : B) → Contains rest y → Contains (cons_option o rest) y
rest_cons None rest y h = h
rest_cons (Some z) rest y h = in_more z y rest h

pub contains_from : {A B : Type 0} (f : A → Option B) (xs : List A) (y : B) → Contains (filter_map f xs) y → From f xs y
contains_from f [] y h = absurd (let lt = h.1 in omega arith)
contains_from f (x ∷ xs) y h =
    elim (cons_case (f x) (filter_map f xs) y h) [
      | inl e ↦ record { member = x; there = (zero, omega arith, refl); gives = e }
      | inr more ↦ let t = contains_from f xs y more in record { member = t.member; there = in_more x t.member xs t.there; gives = t.gives }
    ]

pub contains_to : {A B : Type 0} (f : A → Option B) (xs : List A) (x : A) (y : B) → Contains xs x → f x ≡ Some y → Contains (filter_map f xs) y
contains_to f [] x y h e = absurd (let lt = h.1 in omega arith)
contains_to f (z ∷ zs) x y (zero, lt, is) e = to_cons (f z) (filter_map f zs) y (ap f is ∙ e)
contains_to f (z ∷ zs) x y (suc k, lt, is) e = rest_cons (f z) (filter_map f zs) y (contains_to f zs x y (k, omega arith, is) e)

pub record Within {A B : Type 0} (g : A → List B) (xs : List A) (y : B) : Type 0 where
  pub member : A
  pub there : Contains xs member
  pub inside : Contains (g member) y

pub flat_from : {A B : Type 0} (g : A → List B) (xs : List A) (y : B) → Contains (flat_map g xs) y → Within g xs y
flat_from g [] y h = absurd (let lt = h.1 in omega arith)
flat_from g (x ∷ xs) y h =
    elim (Contains-append_cases (g x) (flat_map g xs) y h) [
      | inl inside ↦ record { member = x; there = (zero, omega arith, refl); inside = inside }
      | inr more ↦ let t = flat_from g xs y more in record { member = t.member; there = in_more x t.member xs t.there; inside = t.inside }
    ]

pub flat_to : {A B : Type 0} (g : A → List B) (xs : List A) (x : A) (y : B) → Contains xs x → Contains (g x) y → Contains (flat_map g xs) y
flat_to g [] x y h inside = absurd (let lt = h.1 in omega arith)
flat_to {A} {B} g (z ∷ zs) x y (zero, lt, is) inside = Contains-append_left (g z) (flat_map g zs) y (subst (λ (w : A). Contains (g w) y) (sym is) inside)
flat_to g (z ∷ zs) x y (suc k, lt, is) inside = Contains-append_right (g z) (flat_map g zs) y (flat_to g zs x y (k, omega arith, is) inside)

-- what stands at a place, and what stands before it
pub record SplitsAt {X : Type 0} (xs : List X) (j : ℕ) (x : X) : Type 0 where
  pub front : List X
  pub behind : List X
  pub is : xs ≡ front ++ x ∷ behind
  pub before : (i : ℕ) (y : X) → i < j → slice_get xs i ≡ Some y → Contains front y

before_more : {X : Type 0} (z : X) (zs front : List X) (j : ℕ) → ((i : ℕ) (y : X) → i < j → slice_get zs i ≡ Some y → Contains front y) → (i : ℕ) (y : X) → i < suc j → slice_get (z ∷ zs) i ≡ Some y
    → Contains (z ∷ front) y
before_more z zs front j old zero y lt got = let same : z ≡ y = cc in (zero, omega arith, same)
before_more z zs front j old (suc i) y lt got = in_more z y front (old i y (omega arith) got)

pub split_at : {X : Type 0} (xs : List X) (j : ℕ) (x : X) → slice_get xs j ≡ Some x → SplitsAt xs j x
split_at [] j x e = absurd cc
split_at (z ∷ zs) zero x e = let same : z ≡ x = cc in record { front = []; behind = zs; is = ap (λ y. y ∷ zs) same; before = λ i y lt got. absurd (omega arith) }
split_at (z ∷ zs) (suc j) x e =
    let t = split_at zs j x e in record { front = z ∷ t.front; behind = t.behind; is = ap (λ l. z ∷ l) t.is; before = before_more z zs t.front j t.before }

pub at_middle : {X : Type 0} (front behind : List X) (x : X) → slice_get (front ++ x ∷ behind) (length front) ≡ Some x
at_middle [] behind x = refl
at_middle (z ∷ zs) behind x = at_middle zs behind x

pub at_front : {X : Type 0} (front behind : List X) (y : X) → (h : Contains front y) → slice_get (front ++ behind) h.0 ≡ Some y
at_front [] behind y h = absurd (let lt = h.1 in omega arith)
at_front (z ∷ zs) behind y (zero, lt, is) = ap Some is
at_front (z ∷ zs) behind y (suc k, lt, is) = at_front zs behind y (k, omega arith, is)
