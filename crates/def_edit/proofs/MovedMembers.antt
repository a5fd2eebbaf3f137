-- Members of lists by their places, and lists whose members are apart.
use Rattle.std.proofs.Common.{◌≡◌, ℕ, zero, suc, ◌<◌, List, [], ◌∷◌, ◌++◌, length, get_or, ◌⊎◌, inl, inr, Some, Contains, flat_map, refl, sym, ap, ◌∙◌, subst, arith}
use Rattle.std.specs.List.{slice_get, AllByRecursion as Each}
use Rattle.std.proofs.lemmas.Option.{same_Some, none-some}

-- x is a member, by recursion
abbrev pub Has : {X : Type 0} → List X → X → Type 0
Has [] x = ⊥
Has (y ∷ ys) x = (y ≡ x) ⊎ Has ys x

has_at : {X : Type 0} (xs : List X) (k : ℕ) (x : X) → k < length xs → get_or xs k x ≡ x → Has xs x
has_at [] k x lt e = absurd (omega arith)
has_at (y ∷ ys) zero x lt e = inl e
has_at (y ∷ ys) (suc k) x lt e = inr (has_at ys k x (omega arith) e)

pub has : {X : Type 0} (xs : List X) (x : X) → Contains xs x → Has xs x
has xs x c = has_at xs c.0 x c.1 c.2

pub contains : {X : Type 0} (xs : List X) (x : X) → Has xs x → Contains xs x
contains [] x h = absurd h
contains (y ∷ ys) x (inl e) = (0, omega arith, e)
contains (y ∷ ys) x (inr h) = let c = contains ys x h in let lt = c.1 in (suc c.0, omega arith, c.2)

pub has_left : {X : Type 0} (xs ys : List X) (x : X) → Has xs x → Has (xs ++ ys) x
has_left [] ys x h = absurd h
has_left (y ∷ xs) ys x (inl e) = inl e
has_left (y ∷ xs) ys x (inr h) = inr (has_left xs ys x h)

pub has_right : {X : Type 0} (xs ys : List X) (x : X) → Has ys x → Has (xs ++ ys) x
has_right [] ys x h = h
has_right (y ∷ xs) ys x h = inr (has_right xs ys x h)

pub has_split : {X : Type 0} (xs ys : List X) (x : X) → Has (xs ++ ys) x → Has xs x ⊎ Has ys x
has_split [] ys x h = inr h
has_split (y ∷ xs) ys x (inl e) = inl (inl e)
has_split (y ∷ xs) ys x (inr h) = elim (has_split xs ys x h) [ inl a ↦ inl (inr a) | inr b ↦ inr b ]

-- a member of what members give comes from one of them
pub record From {X Y : Type 0} (f : X → List Y) (xs : List X) (y : Y) : Type 0 where
  pub member : X
  pub there : Has xs member
  pub gives : Has (f member) y

pub flat_from : {X Y : Type 0} (f : X → List Y) (xs : List X) (y : Y) → Has (flat_map f xs) y → From f xs y
flat_from f [] y h = absurd h
flat_from f (x ∷ xs) y h =
    elim (has_split (f x) (flat_map f xs) y h) [
      | inl a ↦ record { member = x; there = inl refl; gives = a }
      | inr b ↦ let r = flat_from f xs y b in record { member = r.member; there = inr r.there; gives = r.gives }
    ]

pub flat_has : {X Y : Type 0} (f : X → List Y) (xs : List X) (x : X) (y : Y) → Has xs x → Has (f x) y → Has (flat_map f xs) y
flat_has f [] x y h g = absurd h
flat_has f (z ∷ xs) x y (inl e) g = has_left (f z) (flat_map f xs) y (subst (λ (u : _). Has (f u) y) (sym e) g)
flat_has f (z ∷ xs) x y (inr h) g = has_right (f z) (flat_map f xs) y (flat_has f xs x y h g)

-- members with their places

pub record HasIndex {X : Type 0} (xs : List X) (x : X) : Type 0 where
  pub index : ℕ
  pub get : slice_get xs index ≡ Some x

pub has_index : {X : Type 0} (xs : List X) (x : X) → Has xs x → HasIndex xs x
has_index [] x h = absurd h
has_index (y ∷ ys) x (inl e) = record { index = 0; get = ap (λ (z : _). Some z) e }
has_index (y ∷ ys) x (inr h) = let r = has_index ys x h in record { index = suc r.index; get = r.get }

pub index_has : {X : Type 0} (xs : List X) (i : ℕ) (x : X) → slice_get xs i ≡ Some x → Has xs x
index_has [] i x e = absurd (none-some x e)
index_has (y ∷ ys) zero x e = inl (same_Some y x e)
index_has (y ∷ ys) (suc i) x e = inr (index_has ys i x e)

-- no two members show the same
abbrev pub Apart : {X Y : Type 0} → (X → Y) → List X → Type 0
Apart f [] = Unit {0}
Apart f (x ∷ xs) = ((y : _) → Has xs y → f x ≡ f y → ⊥) × Apart f xs

pub apart_place : {X Y : Type 0} (f : X → Y) (xs : List X) → Apart f xs → (i j : ℕ) (x y : X) → slice_get xs i ≡ Some x → slice_get xs j ≡ Some y → f x ≡ f y → i ≡ j
apart_place f [] apart i j x y a b e = absurd (none-some x a)
apart_place f (z ∷ zs) apart zero zero x y a b e = refl
apart_place f (z ∷ zs) apart zero (suc j) x y a b e = absurd (apart.0 y (index_has zs j y b) (ap f (same_Some z x a) ∙ e))
apart_place f (z ∷ zs) apart (suc i) zero x y a b e = absurd (apart.0 x (index_has zs i x a) (ap f (same_Some z y b) ∙ sym e))
apart_place f (z ∷ zs) apart (suc i) (suc j) x y a b e = ap suc (apart_place f zs apart.1 i j x y a b e)

pub apart_from : {X Y : Type 0} (f : X → Y) (xs : List X) → ((i j : ℕ) (x y : X) → slice_get xs i ≡ Some x → slice_get xs j ≡ Some y → f x ≡ f y → i ≡ j) → Apart f xs
apart_from f [] only = tt
apart_from f (x ∷ xs) only = (
  λ y h e. let at = has_index xs y h in let same : 0 ≡ suc at.index = only 0 (suc at.index) x y refl at.get e in absurd (omega (arith, same)),
  apart_from f xs (λ i j y z a b e. let same : suc i ≡ suc j = only (suc i) (suc j) y z a b e in omega (arith, same)),
)

pub apart_append : {X Y : Type 0} (f : X → Y) (xs ys : List X) → Apart f xs → Apart f ys → ((x y : X) → Has xs x → Has ys y → f x ≡ f y → ⊥) → Apart f (xs ++ ys)
apart_append f [] ys a b off = b
apart_append f (x ∷ xs) ys a b off = (
  λ y h e. elim (has_split xs ys y h) [ inl c ↦ a.0 y c e | inr d ↦ off x y (inl refl) d e ],
  apart_append f xs ys a.1 b (λ u w h g. off u w (inr h) g),
)

pub each_has : {X : Type 0} (P : X → Type 0) (xs : List X) → Each P xs → (x : X) → Has xs x → P x
each_has P [] all x h = absurd h
each_has P (y ∷ ys) all x (inl e) = subst P e all.0
each_has P (y ∷ ys) all x (inr h) = each_has P ys all.1 x h
