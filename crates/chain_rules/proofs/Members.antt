-- Units that stand in a list of lists, and lists that hold each number once.
use Rattle.std.proofs.Common.{◌≡◌, ℕ, ◌+◌, ◌<◌, ◌≤◌, Bool, true, false, nat_eq, List, [], ◌∷◌, ◌++◌, length, get_or, take, Contains, refl, sym, ◌∙◌, ap, subst, arith, length-append, ⊎_elim, remove, suc, zero, ◌||◌}
use Rattle.std.specs.List.{concat, list_any, range_with_len}
use Rattle.std.specs.List.Sorted.{IsPermutation}
use Rattle.std.proofs.lemmas.List.{take_more, append-nil, nil_from_length}
use Rattle.std.proofs.lemmas.List.Folds.{list_any_at, list_any-append, concat-append}
use Rattle.std.proofs.lemmas.List.Elements.{Contains-append_cases}
use Rattle.std.proofs.lemmas.List.Edits.{length-remove}
use Rattle.std.proofs.lemmas.List.Sorted.{IsPermutation-refl, IsPermutation-trans, IsPermutation-sym, IsPermutation-remove, IsPermutation-to_front, IsPermutation-cons, Contains-permutation, length_permutation}
use Rattle.std.proofs.lemmas.List.FromFn.{length-range_with_len, get_or-range_with_len}
use Rattle.std.proofs.lemmas.Map.Views.{Contains-from_any}
use Rattle.std.proofs.lemmas.Bool.{eqb-true, eq-eqb, or_from}

pub any_from_contains : (xs : List ℕ) (u : ℕ) → Contains xs u → list_any (λ v. nat_eq v u) xs ≡ true
any_from_contains xs u h = list_any_at (λ v. nat_eq v u) xs h.0 u h.1 (eq-eqb (get_or xs h.0 u) u h.2)

pub contains_from_any : (xs : List ℕ) (u : ℕ) → list_any (λ v. nat_eq v u) xs ≡ true → Contains xs u
contains_from_any xs u h = Contains-from_any {eq = λ q y. nat_eq y q} (λ x y e. sym (eqb-true y x e)) u xs h

pub list_any-concat : (p : ℕ → Bool) (css : List (List ℕ)) → list_any p (concat css) ≡ list_any (list_any p) css
list_any-concat p [] = refl
list_any-concat p (c ∷ cs) = list_any-append p c (concat cs) ∙ ap (λ b. list_any p c || b) (list_any-concat p cs)

pub concat_more : (css : List (List ℕ)) (i : ℕ) → i < length css → concat (take (i + 1) css) ≡ concat (take i css) ++ get_or css i []
concat_more css i h = ap concat (take_more css i [] h) ∙ (concat-append (take i css) (get_or css i [] ∷ []) ∙ ap (λ (us : List ℕ). concat (take i css) ++ us) (append-nil (get_or css i [])))

-- the units of the first chains, one chain more
pub length-concat_more : (css : List (List ℕ)) (i : ℕ) → i < length css → length (concat (take (i + 1) css)) ≡ length (concat (take i css)) + length (get_or css i [])
length-concat_more css i h = ap length (concat_more css i h) ∙ length-append (concat (take i css)) (get_or css i [])

pub length-concat_take : (css : List (List ℕ)) (i : ℕ) → length (concat (take i css)) ≤ length (concat css)
length-concat_take [] zero = omega arith
length-concat_take [] (suc i) = omega arith
length-concat_take (c ∷ cs) zero = omega arith
length-concat_take (c ∷ cs) (suc i) = omega (arith, length-append c (concat (take i cs)), length-append c (concat cs), length-concat_take cs i)

pub range_more : (a n : ℕ) → range_with_len a (suc n) ≡ range_with_len a n ++ (a + n) ∷ []
range_more a zero = ap (λ (k : ℕ). k ∷ []) (omega arith)
range_more a (suc n) =
    let e : (a + 1) + n ≡ a + suc n = omega arith in
    ap (λ (ks : List ℕ). a ∷ ks) (range_more (a + 1) n ∙ ap (λ (k : ℕ). range_with_len (a + 1) n ++ k ∷ []) e)

contains_rest : (n u : ℕ) (rest : List ℕ) → u < n → Contains (n ∷ rest) u → Contains rest u
contains_rest n u rest h m =
    ⊎_elim (λ (one : Contains (n ∷ []) u). contains_one n u h one) (λ (other : Contains rest u). other) (Contains-append_cases (n ∷ []) rest u m)
  where
    contains_one : (n u : ℕ) → u < n → Contains (n ∷ []) u → Contains rest u
    contains_one n u h (zero, within, e) = absurd (omega arith)
    contains_one n u h (suc k, within, e) = absurd (omega arith)

-- a list as long as there are numbers below n, with each of these, has each once
pub permutation_from_members : (n : ℕ) (xs : List ℕ) → length xs ≡ n → ((u : ℕ) → u < n → Contains xs u) → IsPermutation (range_with_len 0 n) xs
permutation_from_members zero xs long all = subst (λ (ys : List ℕ). IsPermutation [] ys) (sym (nil_from_length xs long)) (IsPermutation-refl [])
permutation_from_members (suc n) xs long all =
    let top = all n (omega arith) in
    let rest = remove xs top.0 in
    let taken : IsPermutation xs (n ∷ rest) = IsPermutation-remove xs top.0 n top.1 (sym top.2) in
    let long_rest : length rest ≡ n = omega (arith, length-remove xs top.0 top.1) in
    let below = permutation_from_members n rest long_rest (λ u h. contains_rest n u rest h (Contains-permutation xs (n ∷ rest) u taken (all u (omega arith)))) in
    subst (λ (ys : List ℕ). IsPermutation ys xs) (sym (range_more 0 n ∙ ap (λ (k : ℕ). range_with_len 0 n ++ k ∷ []) (omega arith)))
    (IsPermutation-trans _ _ _ (IsPermutation-to_front (range_with_len 0 n) n) (IsPermutation-trans _ _ _ (IsPermutation-cons n (range_with_len 0 n) rest below) (IsPermutation-sym xs (n ∷ rest) taken)))

pub members_from_permutation : (n : ℕ) (xs : List ℕ) → IsPermutation (range_with_len 0 n) xs → (u : ℕ) → u < n → Contains xs u
members_from_permutation n xs p u h =
    Contains-permutation (range_with_len 0 n) xs u p (u, rw (length-range_with_len 0 n) h, get_or-range_with_len 0 n u u h ∙ omega arith)

pub length_from_permutation : (n : ℕ) (xs : List ℕ) → IsPermutation (range_with_len 0 n) xs → length xs ≡ n
length_from_permutation n xs p = length_permutation (range_with_len 0 n) xs p ∙ length-range_with_len 0 n

pub list_any_fails : {X : Type 0} (p : X → Bool) (xs : List X) (d : X) → ((k : ℕ) → k < length xs → p (get_or xs k d) ≡ false) → list_any p xs ≡ false
list_any_fails p [] d none = refl
list_any_fails p (x ∷ xs) d none = or_from (p x) (list_any p xs) (none zero (omega arith)) (list_any_fails p xs d (λ k h. none (suc k) (omega arith)))
