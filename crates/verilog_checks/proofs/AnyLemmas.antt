-- Tests of which one member passes.
use Rattle.std.proofs.Common.{◌≡◌, ℕ, ◌+◌, ◌<◌, ◌≤◌, Bool, true, false, ◌&&◌, ◌||◌, List, [], ◌∷◌, length, map, get_or, drop, refl, sym, ap, ◌∙◌}
use Rattle.std.specs.List.{list_any}
use Rattle.std.proofs.lemmas.List.{drop_more, drop_all}

-- a test that is one or the other
pub or_four : (a b c d : Bool) → ((a || b) || (c || d)) ≡ ((a || c) || (b || d))
or_four true b c d = refl
or_four false true true d = refl
or_four false true false d = refl
or_four false false c d = refl

pub any_or : {X : Type 0} (p q : X → Bool) (xs : List X) → list_any (λ x. p x || q x) xs ≡ (list_any p xs || list_any q xs)
any_or p q [] = refl
any_or p q (x ∷ xs) = ap (λ b. (p x || q x) || b) (any_or p q xs) ∙ or_four (p x) (q x) (list_any p xs) (list_any q xs)

pub any_same : {X : Type 0} (p q : X → Bool) (xs : List X) → ((x : X) → p x ≡ q x) → list_any p xs ≡ list_any q xs
any_same p q [] e = refl
any_same p q (x ∷ xs) e = ap (λ b. b || list_any p xs) (e x) ∙ ap (λ b. q x || b) (any_same p q xs e)

pub any_map : {X Y : Type 0} (p : Y → Bool) (h : X → Y) (xs : List X) → list_any p (map h xs) ≡ list_any (λ x. p (h x)) xs
any_map p h [] = refl
any_map p h (x ∷ xs) = ap (λ b. p (h x) || b) (any_map p h xs)

pub any_none : {X : Type 0} (xs : List X) → list_any (λ x. false) xs ≡ false
any_none [] = refl
any_none (x ∷ xs) = any_none xs

and_or : (a b s : Bool) → ((a && s) || (b && s)) ≡ ((a || b) && s)
and_or true true true = refl
and_or true true false = refl
and_or true false true = refl
and_or true false false = refl
and_or false b s = refl

pub any_and : {X : Type 0} (p : X → Bool) (s : Bool) (xs : List X) → list_any (λ x. p x && s) xs ≡ (list_any p xs && s)
any_and p s [] = refl
any_and p s (x ∷ xs) = ap (λ b. (p x && s) || b) (any_and p s xs) ∙ and_or (p x) (list_any p xs) s

-- pairs of two lists, in either order
pub any_swap : {X Y : Type 0} (f : X → Y → Bool) (xs : List X) (ys : List Y) → list_any (λ x. list_any (f x) ys) xs ≡ list_any (λ y. list_any (λ x. f x y) xs) ys
any_swap f [] ys = sym (any_none ys)
any_swap f (x ∷ xs) ys = ap (λ b. list_any (f x) ys || b) (any_swap f xs ys) ∙ sym (any_or (f x) (λ y. list_any (λ x. f x y) xs) ys)

-- a loop that looks for one member
module _ {X : Type 0} (p : X → Bool) (xs : List X) (i : ℕ) (d : X) (total : Bool) where
  turn : i < length xs → list_any p (drop i xs) ≡ (p (get_or xs i d) || list_any p (drop (i + 1) xs))
  turn lt = ap (list_any p) (drop_more xs i d lt)

  pub any_passes : i < length xs → p (get_or xs i d) ≡ false → list_any p (drop i xs) ≡ total → list_any p (drop (i + 1) xs) ≡ total
  any_passes lt other so_far = sym (turn lt ∙ ap (λ b. b || list_any p (drop (i + 1) xs)) other) ∙ so_far

  pub any_fails : i < length xs → p (get_or xs i d) ≡ true → list_any p (drop i xs) ≡ total → true ≡ total
  any_fails lt there so_far = sym (turn lt ∙ ap (λ b. b || list_any p (drop (i + 1) xs)) there) ∙ so_far

pub any_passed : {X : Type 0} (p : X → Bool) (xs : List X) (i : ℕ) (total : Bool) → length xs ≤ i → list_any p (drop i xs) ≡ total → false ≡ total
any_passed p xs i total le so_far = sym (ap (list_any p) (drop_all i xs le)) ∙ so_far
