-- A list that holds each number once holds none twice, so that a unit of a legal plan stands in one chain alone.
use Rattle.std.proofs.Common.{◌≡◌, ℕ, ◌+◌, ◌<◌, false, List, [], ◌∷◌, ◌++◌, length, get_or, eqb, Contains, refl, ap, arith, zero, suc}
use Rattle.std.specs.List.{concat, range_with_len, IsDistinct, AllByRecursion}
use Rattle.std.specs.List.Sorted.{IsPermutation}
use Rattle.std.proofs.lemmas.Map.Keys.{IsDistinct-IsPermutation}
use Rattle.std.proofs.lemmas.Bool.{ne_eqb, eqb-false}
use Rattle.std.proofs.lemmas.List.Elements.{All-from_recursion, All-contains, Contains-append_left, Contains-append_right}

eqb_flips : (x y : ℕ) → eqb x y ≡ eqb y x
eqb_flips x y = grind (arith)

range_differs : (a b n : ℕ) → a < b → AllByRecursion (λ y. eqb a y ≡ false) (range_with_len b n)
range_differs a b zero h = tt
range_differs a b (suc n) h = (ne_eqb a b (λ e. omega arith), range_differs a (b + 1) n (omega arith))

range_distinct : (a n : ℕ) → IsDistinct eqb (range_with_len a n)
unfolding IsDistinct
range_distinct a zero = tt
range_distinct a (suc n) = (range_differs a (a + 1) n (omega arith), range_distinct (a + 1) n)

pub distinct_from_permutation : (n : ℕ) (xs : List ℕ) → IsPermutation (range_with_len 0 n) xs → IsDistinct eqb xs
distinct_from_permutation n xs p = IsDistinct-IsPermutation eqb eqb_flips (range_with_len 0 n) xs p (range_distinct 0 n)

distinct_rest : (xs ys : List ℕ) → IsDistinct eqb (xs ++ ys) → IsDistinct eqb ys
unfolding IsDistinct
distinct_rest [] ys d = d
distinct_rest (x ∷ xs) ys d = distinct_rest xs ys d.1

-- no element stands in both parts
pub distinct_parts : (xs ys : List ℕ) (u : ℕ) → IsDistinct eqb (xs ++ ys) → Contains xs u → Contains ys u → ⊥
unfolding IsDistinct
distinct_parts [] ys u d (k, within, e) n = omega arith
distinct_parts (x ∷ xs) ys u d (zero, within, e) n =
    let differs = All-from_recursion (λ y. eqb x y ≡ false) (xs ++ ys) d.0 in
    eqb-false x u (All-contains (λ y. eqb x y ≡ false) (xs ++ ys) u differs (Contains-append_right xs ys u n)) e
distinct_parts (x ∷ xs) ys u d (suc k, within, e) n = distinct_parts xs ys u d.1 (k, omega arith, e) n

pub Contains-concat : (css : List (List ℕ)) (i u : ℕ) → i < length css → Contains (get_or css i []) u → Contains (concat css) u
Contains-concat [] i u h m = absurd (omega arith)
Contains-concat (c ∷ cs) zero u h m = Contains-append_left c (concat cs) u m
Contains-concat (c ∷ cs) (suc i) u h m = Contains-append_right c (concat cs) u (Contains-concat cs i u (omega arith) m)

pub only_chain : (css : List (List ℕ)) (u : ℕ) → IsDistinct eqb (concat css) → (i j : ℕ) → i < length css → j < length css → Contains (get_or css i []) u → Contains (get_or css j []) u → i ≡ j
only_chain [] u d i j h k m n = absurd (omega arith)
only_chain (c ∷ cs) u d zero zero h k m n = refl
only_chain (c ∷ cs) u d zero (suc j) h k m n = absurd (distinct_parts c (concat cs) u d m (Contains-concat cs j u (omega arith) n))
only_chain (c ∷ cs) u d (suc i) zero h k m n = absurd (distinct_parts c (concat cs) u d n (Contains-concat cs i u (omega arith) m))
only_chain (c ∷ cs) u d (suc i) (suc j) h k m n = ap suc (only_chain cs u (distinct_rest c (concat cs) d) i j (omega arith) (omega arith) m n)
