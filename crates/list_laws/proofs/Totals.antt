-- How many of a list pass a test.
use Rattle.std.proofs.Common.{◌≡◌, ◌≢◌, ℕ, ◌+◌, ◌<◌, ◌≤◌, zero, suc, Bool, true, false, cond, List, [], ◌∷◌, length, get_or, map, sum_by, refl, ap, arith}
use Rattle.std.specs.Prelude.{count_by}
use Rattle.std.proofs.lemmas.List.Sums.{sum_by-cons}

pub sum_by-map : {X Y : Type 0} (f : Y → ℕ) (g : X → Y) (xs : List X) → sum_by f (map g xs) ≡ sum_by (λ x. f (g x)) xs
sum_by-map f g [] = refl
sum_by-map f g (x ∷ xs) = omega (arith, sum_by-cons f (g x) (map g xs), sum_by-cons (λ y. f (g y)) x xs, sum_by-map f g xs)

pub counted-cons : {X : Type 0} (p : X → Bool) (x : X) (xs : List X) → count_by p (x ∷ xs) ≡ cond (p x) 1 0 + count_by p xs
counted-cons p x xs = sum_by-cons (λ y. cond (p y) 1 0) x xs

pub passes : (b : Bool) → b ≡ true → ◌≡◌ {A = ℕ} (cond b 1 0) 1
passes b e = ap (λ (c : Bool). let n : ℕ = cond c 1 0 in n) e

pub fails : (b : Bool) → b ≡ false → ◌≡◌ {A = ℕ} (cond b 1 0) 0
fails b e = ap (λ (c : Bool). let n : ℕ = cond c 1 0 in n) e

-- the first ones pass, and the others don't
pub counted-point : {X : Type 0} (p : X → Bool) (xs : List X) (i : ℕ) → i ≤ length xs → ((k : ℕ) (d : X) → k < i → p (get_or xs k d) ≡ true) → ((k : ℕ) (d : X) → i ≤ k → k < length xs → p (get_or xs k d) ≡ false) → i ≡ count_by p xs
counted-point p [] i h pass fail = omega arith
counted-point p (x ∷ xs) zero h pass fail =
    omega (arith, counted-cons p x xs, fails (p x) (fail 0 x (omega arith) (omega arith)), counted-point p xs zero (omega arith) (λ k d l. absurd (omega (arith, l))) (λ k d g l. fail (suc k) d (omega arith) (omega arith)))
counted-point p (x ∷ xs) (suc i) h pass fail =
    omega (arith, counted-cons p x xs, passes (p x) (pass 0 x (omega arith)), counted-point p xs i (omega arith) (λ k d l. pass (suc k) d (omega arith)) (λ k d g l. fail (suc k) d (omega arith) (omega arith)))

pub counted : {X : Type 0} (p : X → Bool) (xs : List X) (d : X) (i : ℕ) → i < length xs → p (get_or xs i d) ≡ true → 0 < count_by p xs
counted p [] d i h e = absurd (omega arith)
counted p (x ∷ xs) d zero h e = omega (arith, counted-cons p x xs, passes (p x) e)
counted p (x ∷ xs) d (suc i) h e = omega (arith, counted-cons p x xs, counted p xs d i (omega arith) e)

-- two that pass
pub both_counted : {X : Type 0} (p : X → Bool) (xs : List X) (d : X) (i j : ℕ) → i < length xs → j < length xs → j ≢ i → p (get_or xs i d) ≡ true → p (get_or xs j d) ≡ true → 1 < count_by p xs
both_counted p [] d i j h g ne e f = absurd (omega arith)
both_counted p (x ∷ xs) d zero zero h g ne e f = absurd (ne refl)
both_counted p (x ∷ xs) d zero (suc j) h g ne e f = omega (arith, counted-cons p x xs, passes (p x) e, counted p xs d j (omega arith) f)
both_counted p (x ∷ xs) d (suc i) zero h g ne e f = omega (arith, counted-cons p x xs, passes (p x) f, counted p xs d i (omega arith) e)
both_counted p (x ∷ xs) d (suc i) (suc j) h g ne e f = omega (arith, counted-cons p x xs, both_counted p xs d i j (omega arith) (omega arith) (λ w. ne (ap suc w)) e f)

-- where one is counted, one passes
pub some_counted : {X : Type 0} (p : X → Bool) (xs : List X) (d : X) → 0 < count_by p xs → (i : ℕ) × (i < length xs) × (p (get_or xs i d) ≡ true)
some_counted p [] d h = absurd (omega arith)
some_counted {X} p (x ∷ xs) d h = here (p x) refl (λ w. some_counted p xs d w)
  where
    here : (b : Bool) → p x ≡ b → (0 < count_by p xs → (i : ℕ) × (i < length xs) × (p (get_or xs i d) ≡ true)) → (i : ℕ) × (i < length (x ∷ xs)) × (p (get_or (x ∷ xs) i d) ≡ true)
    here true e rest = (0, omega arith, e)
    here false e rest =
        let found : (i : ℕ) × (i < length xs) × (p (get_or xs i d) ≡ true) = rest (omega (arith, h, counted-cons p x xs, fails (p x) e)) in
        (suc found.0, omega (arith, found.1), found.2)

at_most_one : (b : Bool) (n m : ℕ) → n ≡ cond b 1 0 + m → 1 < n → 0 < m
at_most_one true n m e h = omega arith
at_most_one false n m e h = omega arith

-- where more than one is counted, another one passes
pub other_counted : {X : Type 0} (p : X → Bool) (xs : List X) (d : X) (i : ℕ) → i < length xs → 1 < count_by p xs → (j : ℕ) × (j < length xs) × (j ≢ i) × (p (get_or xs j d) ≡ true)
other_counted p [] d i h g = absurd (omega arith)
other_counted p (x ∷ xs) d zero h g =
    let found = some_counted p xs d (at_most_one (p x) (count_by p (x ∷ xs)) (count_by p xs) (counted-cons p x xs) g) in
    (suc found.0, omega (arith, found.1), (λ w. omega (arith, w)), found.2)
other_counted {X} p (x ∷ xs) d (suc i) h g = here (p x) refl (λ w. other_counted p xs d i (omega arith) w)
  where
    here : (b : Bool) → p x ≡ b → (1 < count_by p xs → (j : ℕ) × (j < length xs) × (j ≢ i) × (p (get_or xs j d) ≡ true)) → (j : ℕ) × (j < length (x ∷ xs)) × (j ≢ suc i) × (p (get_or (x ∷ xs) j d) ≡ true)
    here true e rest = (0, omega arith, (λ w. omega (arith, w)), e)
    here false e rest =
        let found : (j : ℕ) × (j < length xs) × (j ≢ i) × (p (get_or xs j d) ≡ true) = rest (omega (arith, g, counted-cons p x xs, fails (p x) e)) in
        (suc found.0, omega (arith, found.1), (λ w. found.2 (omega (arith, w))), found.3)
