-- Numbers in order are one list, however they stood before.
use Rattle.std.proofs.Common.{◌≡◌, ℕ, zero, suc, ◌+◌, ◌<◌, ◌≤◌, List, [], ◌∷◌, length, get_or, cond, nat_lt, refl, sym, ap, ◌∙◌, arith, inl, inr, subst, Bool}
use Rattle.std.specs.List.{sum_by}
use Rattle.std.specs.List.Sorted.{IsNonDecreasing, IsPermutation}
use Rattle.std.proofs.lemmas.Bool.{cases_lt}
use Rattle.std.specs.Bool.{Decides}
use Rattle.std.proofs.lemmas.Bool.Decides.{Decides-like}
use Rattle.std.proofs.lemmas.List.Sums.{sum_by-cons}
use Rattle.std.proofs.lemmas.List.Sorted.{IsPermutation-sym, IsPermutation-trans, sum_by-IsPermutation}

-- both lists have the same sums
abbrev HaveSameSums : List ℕ → List ℕ → Type 0
HaveSameSums xs ys = (f : ℕ → ℕ) → sum_by f xs ≡ sum_by f ys

-- 1 for each number below x
abbrev below : ℕ → ℕ → ℕ
below x v = cond (nat_lt v x) 1 0

none_below : (x : ℕ) (xs : List ℕ) → ((k : ℕ) → k < length xs → x ≤ get_or xs k 0) → sum_by (below x) xs ≡ 0
none_below x [] h = refl
none_below x (v ∷ xs) h =
    let rest : sum_by (below x) xs ≡ 0 = none_below x xs (λ k l. h (suc k) (omega arith)) in
    let least : x ≤ v = h 0 (omega arith) in
    let first : below x v ≡ 0 = grind arith in
    omega (arith, sum_by-cons (below x) v xs, rest, first)

-- the first of some numbers in order is no more than the first of the same numbers
first_least : (x y : ℕ) (xs ys : List ℕ) → IsNonDecreasing (x ∷ xs) → HaveSameSums (x ∷ xs) (y ∷ ys) → x ≤ y
first_least x y xs ys o h =
    let none : sum_by (below x) (x ∷ xs) ≡ 0 = none_below x (x ∷ xs) (λ k l. o 0 k 0 (omega arith) l) in
    let some : below x y ≡ 0 = omega (arith, none, h (below x), sum_by-cons (below x) y ys) in
    elim (cases_lt y x) [
      | inl a ↦ grind (arith, a, some)
      | inr b ↦ b
    ]

rest_sums : (x y : ℕ) (xs ys : List ℕ) → x ≡ y → HaveSameSums (x ∷ xs) (y ∷ ys) → HaveSameSums xs ys
rest_sums x y xs ys e h = λ f. let t : f x ≡ f y = ap f e in omega (arith, h f, t, sum_by-cons f x xs, sum_by-cons f y ys)

rest_order : (x : ℕ) (xs : List ℕ) → IsNonDecreasing (x ∷ xs) → IsNonDecreasing xs
rest_order x xs o = λ i j d p q. o (suc i) (suc j) d (omega arith) (omega arith)

one_order : (xs ys : List ℕ) → IsNonDecreasing xs → IsNonDecreasing ys → HaveSameSums xs ys → xs ≡ ys
one_order [] [] o p h = refl
one_order [] (y ∷ ys) o p h = absurd (omega (arith, h (λ v. 1), sum_by-cons (λ (v : ℕ). 1) y ys))
one_order (x ∷ xs) [] o p h = absurd (omega (arith, h (λ v. 1), sum_by-cons (λ (v : ℕ). 1) x xs))
one_order (x ∷ xs) (y ∷ ys) o p h =
    let a : x ≤ y = first_least x y xs ys o h in
    let b : y ≤ x = first_least y x ys xs p (λ f. sym (h f)) in
    let e : x ≡ y = omega arith in
    (λ t. e t ∷ one_order xs ys (rest_order x xs o) (rest_order y ys p) (rest_sums x y xs ys e h) t)

-- two lists whose sorted ones are equal hold the same items
same_sorted : (xs ys us vs : List ℕ) → IsPermutation xs us → IsPermutation ys vs → us ≡ vs → IsPermutation xs ys
same_sorted xs ys us vs p q e = IsPermutation-trans xs vs ys (subst (IsPermutation xs) e p) (IsPermutation-sym ys vs q)

-- numbers are the same, each as often, just where they are the same in order
pub sorted_alike : (xs ys us vs : List ℕ) (r : Bool) → IsPermutation xs us → IsPermutation ys vs → IsNonDecreasing us → IsNonDecreasing vs → Decides r (us ≡ vs) → Decides r (IsPermutation xs ys)
sorted_alike xs ys us vs r p q o s d = Decides-like r
    (λ e. same_sorted xs ys us vs p q e)
    (λ h. one_order us vs o s (λ f. sum_by-IsPermutation f xs us p ∙ sym (sum_by-IsPermutation f xs ys h) ∙ sym (sum_by-IsPermutation f ys vs q)))
    d
