-- Members of lists, and what is found in them.
use Rattle.std.proofs.Common.{◌≡◌, ℕ, zero, suc, ◌+◌, ◌*◌, ◌<◌, ◌≤◌, Bool, true, false, cond, List, [], ◌∷◌, ◌++◌, length, map, Some, Contains, refl, sym, ap, ◌∙◌, subst, arith, ◌⊎◌, inl, inr}
use Rattle.std.specs.Prelude.{sum_by}
use Rattle.std.specs.List.{find, range_with_len, AllByRecursion as Each}
use Rattle.std.proofs.lemmas.List.Sums.{sum_by-cons}
use Rattle.std.proofs.lemmas.Bool.{cases_lt}
use Rattle.made_law.specs.Designs.Places.{Place, placed}

pub none_in : {X : Type 0} (x : X) → Contains [] x → ⊥
none_in x h = let lt = h.1 in omega arith

pub here : {X : Type 0} (x : X) (xs : List X) → Contains (x ∷ xs) x
here x xs = (zero, omega arith, refl)

pub behind : {X : Type 0} (y : X) (xs : List X) (x : X) → Contains xs x → Contains (y ∷ xs) x
behind y xs x h = (suc h.0, (let lt = h.1 in omega arith), h.2)

-- a member of a list is its first or stands behind it
pub first_or : {X : Type 0} (y : X) (xs : List X) (x : X) → Contains (y ∷ xs) x → (y ≡ x) ⊎ Contains xs x
first_or y xs x (zero, lt, is) = inl is
first_or y xs x (suc k, lt, is) = inr (k, omega arith, is)

pub in_front : {X : Type 0} (xs ys : List X) (x : X) → Contains xs x → Contains (xs ++ ys) x
in_front [] ys x h = absurd (none_in x h)
in_front (y ∷ xs) ys x (zero, lt, is) = (zero, omega arith, is)
in_front (y ∷ xs) ys x (suc k, lt, is) = behind y (xs ++ ys) x (in_front xs ys x (k, omega arith, is))

pub in_back : {X : Type 0} (xs ys : List X) (x : X) → Contains ys x → Contains (xs ++ ys) x
in_back [] ys x h = h
in_back (y ∷ xs) ys x h = behind y (xs ++ ys) x (in_back xs ys x h)

pub each_contains : {X : Type 0} (P : X → Type 0) (xs : List X) (x : X) → Each P xs → Contains xs x → P x
each_contains P [] x e h = absurd (none_in x h)
each_contains P (y ∷ xs) x e (zero, lt, is) = subst P is e.0
each_contains P (y ∷ xs) x e (suc k, lt, is) = each_contains P xs x e.1 (k, omega arith, is)

-- what a member was made of
pub record Of {X Y : Type 0} (f : X → Y) (xs : List X) (y : Y) : Type 0 where
  pub member : X
  pub there : Contains xs member
  pub is : y ≡ f member

pub of_map : {X Y : Type 0} (f : X → Y) (xs : List X) (y : Y) → Contains (map f xs) y → Of f xs y
of_map f [] y h = absurd (none_in y h)
of_map f (x ∷ xs) y (zero, lt, is) = record { member = x; there = here x xs; is = sym is }
of_map f (x ∷ xs) y (suc k, lt, is) = let r = of_map f xs y (k, omega arith, is) in record { member = r.member; there = behind x xs r.member r.there; is = r.is }

pub to_map : {X Y : Type 0} (f : X → Y) (xs : List X) (x : X) → Contains xs x → Contains (map f xs) (f x)
to_map f [] x h = absurd (none_in x h)
to_map f (y ∷ xs) x (zero, lt, is) = (zero, omega arith, ap f is)
to_map f (y ∷ xs) x (suc k, lt, is) = behind (f y) (map f xs) (f x) (to_map f xs x (k, omega arith, is))

-- what a placed member was made of
pub record Placing {X Y : Type 0} (make : Place → X → Y) (xs : List X) (y : Y) : Type 0 where
  pub member : X
  pub there : Contains xs member
  pub place : Place
  pub is : y ≡ make place member

pub of_placed : {X Y : Type 0} (make : Place → X → Y) (at : ℕ → Place) (xs : List X) (y : Y) → Contains (placed make at xs) y → Placing make xs y
of_placed make at [] y h = absurd (none_in y h)
of_placed make at (x ∷ xs) y (zero, lt, is) = record { member = x; there = here x xs; place = at 0; is = sym is }
of_placed make at (x ∷ xs) y (suc k, lt, is) =
    let r = of_placed make (λ j. at (suc j)) xs y (k, omega arith, is) in
    record { member = r.member; there = behind x xs r.member r.there; place = r.place; is = r.is }

pub to_placed : {X Y : Type 0} (make : Place → X → Y) (at : ℕ → Place) (xs : List X) (x : X) → Contains xs x → (p : Place) × Contains (placed make at xs) (make p x)
to_placed make at [] x h = absurd (none_in x h)
to_placed {Y = Y} make at (y ∷ xs) x (zero, lt, is) = (at 0, subst (λ (z : Y). Contains (placed make at (y ∷ xs)) z) (ap (make (at 0)) is) (here (make (at 0) y) (placed make (λ j. at (suc j)) xs)))
to_placed make at (y ∷ xs) x (suc k, lt, is) =
    let r = to_placed make (λ j. at (suc j)) xs x (k, omega arith, is) in
    (r.0, behind (make (at 0) y) (placed make (λ j. at (suc j)) xs) (make r.0 x) r.1)

-- numbers in a list of them
pub number_in_range : (a m k : ℕ) → Contains (range_with_len a m) k → (a ≤ k) × (k < a + m)
number_in_range a zero k h = absurd (none_in k h)
number_in_range a (suc m) k (zero, lt, is) = (omega (arith, is), omega (arith, is))
number_in_range a (suc m) k (suc j, lt, is) = let r = number_in_range (a + 1) m k (j, omega arith, is) in let low = r.0 in let high = r.1 in (omega (arith, low), omega (arith, high))

-- the first that passes a test, among numbers with places
abbrev Found : {X : Type 0} → (X → Bool) → (Place → ℕ → X) → ℕ → List X → Type 0
Found test make i xs = (p : Place) × (find test xs ≡ Some (make p i))

found_by : {X : Type 0} (test : X → Bool) (make : Place → ℕ → X) (p : Place) (a i : ℕ) (xs : List X) → (a < i) ⊎ (i ≤ a) → a ≤ i → ((p : Place) → test (make p i) ≡ true) → (a < i → test (make p a) ≡ false) → (a < i → Found test make i xs)
    → Found test make i (make p a ∷ xs)
found_by {X} test make p a i xs (inl lt) from passes differs more =
    let r = more lt in
    (r.0, ap (λ (b : Bool). cond b (Some (make p a)) (find test xs)) (differs lt) ∙ r.1)
found_by {X} test make p a i xs (inr le) from passes differs more =
    let e : i ≡ a = omega arith in
    let here_is : test (make p a) ≡ true = subst (λ (k : ℕ). test (make p k) ≡ true) e (passes p) in
    (p, subst (λ (k : ℕ). find test (make p a ∷ xs) ≡ Some (make p k)) (sym e) (ap (λ (b : Bool). cond b (Some (make p a)) (find test xs)) here_is))

pub find_placed : {X : Type 0} (test : X → Bool) (make : Place → ℕ → X) (at : ℕ → Place) (a m i : ℕ) → a ≤ i → i < a + m → ((p : Place) → test (make p i) ≡ true) → ((p : Place) (j : ℕ) → j < i → test (make p j) ≡ false)
    → (p : Place) × (find test (placed make at (range_with_len a m)) ≡ Some (make p i))
find_placed test make at a zero i from to passes differs = absurd (omega arith)
find_placed test make at a (suc m) i from to passes differs =
    found_by test make (at 0) a i (placed make (λ j. at (suc j)) (range_with_len (a + 1) m)) (cases_lt a i) from passes (λ lt. differs (at 0) a lt)
    (λ lt. find_placed test make (λ j. at (suc j)) (a + 1) m i (omega arith) (omega arith) passes differs)

-- what is found passes the test, and something is found where one passes it
pub record Finds {X : Type 0} (test : X → Bool) (xs : List X) : Type 0 where
  pub member : X
  pub there : Contains xs member
  pub passes : test member ≡ true
  pub is : find test xs ≡ Some member

first_finds : {X : Type 0} (test : X → Bool) (y : X) (xs : List X) (b : Bool) → test y ≡ b → (test y ≡ false → Finds test xs) → Finds test (y ∷ xs)
first_finds test y xs true e more = record { member = y; there = here y xs; passes = e; is = ap (λ (c : Bool). cond c (Some y) (find test xs)) e }
first_finds test y xs false e more =
    let r = more e in
    record { member = r.member; there = behind y xs r.member r.there; passes = r.passes; is = ap (λ (c : Bool). cond c (Some y) (find test xs)) e ∙ r.is }

never_both : {P : Type 0} (b : Bool) → b ≡ true → b ≡ false → P
never_both true e f = absurd cc
never_both false e f = absurd cc

pub finds : {X : Type 0} (test : X → Bool) (xs : List X) (x : X) → Contains xs x → test x ≡ true → Finds test xs
finds test [] x h e = absurd (none_in x h)
finds test (y ∷ xs) x (zero, lt, is) e = first_finds test y xs (test y) refl (λ no_y. never_both (test y) (ap test is ∙ e) no_y)
finds test (y ∷ xs) x (suc k, lt, is) e = first_finds test y xs (test y) refl (λ no_y. finds test xs x (k, omega arith, is) e)

-- sums of few
pub sum_few : {X : Type 0} (f : X → ℕ) (most : ℕ) (xs : List X) → Each (λ x. f x ≤ most) xs → sum_by f xs ≤ most * length xs
sum_few f most [] h = omega arith
sum_few f most (x ∷ xs) h =
    let first = h.0 in
    let rest = sum_few f most xs h.1 in
    let cut = sum_by-cons f x xs in
    let size : most * suc (length xs) ≡ most + most * length xs = omega arith in
    omega (arith, first, rest, cut, size)
