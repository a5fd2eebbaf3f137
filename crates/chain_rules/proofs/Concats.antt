-- What an edit of one chain does to the units of all chains together.
use Rattle.std.proofs.Common.{◌≡◌, ℕ, ◌+◌, ◌-◌, ◌<◌, List, [], ◌∷◌, ◌++◌, length, get_or, set, take, drop, insert, remove, refl, sym, ◌∙◌, ap, subst, arith, zero, suc, length-append}
use Rattle.std.specs.List.{concat}
use Rattle.std.specs.List.Sorted.{IsPermutation}
use Rattle.std.proofs.lemmas.List.{set_split, set-get_or, set-append_left, set-append_right, get_or-append-add, get_or_append_left}
use Rattle.std.proofs.lemmas.List.Folds.{concat-append}
use Rattle.std.proofs.lemmas.List.Sorted.{IsPermutation-trans, IsPermutation-sym, IsPermutation-remove, IsPermutation-insert, IsPermutation-append_left, IsPermutation-append_right, IsPermutation-middle}

-- the chains before and behind a chain
abbrev pub before : List (List ℕ) → ℕ → List ℕ
before css c = concat (take c css)

abbrev pub behind : List (List ℕ) → ℕ → List ℕ
behind css c = concat (drop (suc c) css)

pub concat-set : (css : List (List ℕ)) (c : ℕ) (us : List ℕ) → c < length css → concat (set css c us) ≡ before css c ++ (us ++ behind css c)
concat-set css c us h = ap concat (set_split css c us h) ∙ concat-append (take c css) (us ∷ drop (suc c) css)

pub concat_at : (css : List (List ℕ)) (c : ℕ) → c < length css → concat css ≡ before css c ++ (get_or css c [] ++ behind css c)
concat_at css c h = sym (ap concat (set-get_or css c [])) ∙ concat-set css c (get_or css c []) h

-- other units in one chain, which are its own in another order
pub permutation_of_chain : (css : List (List ℕ)) (c : ℕ) (us : List ℕ) → c < length css → IsPermutation (get_or css c []) us → IsPermutation (concat css) (concat (set css c us))
permutation_of_chain css c us h p =
    subst (λ (xs : List ℕ). IsPermutation xs (concat (set css c us))) (sym (concat_at css c h))
    (subst (λ (ys : List ℕ). IsPermutation (before css c ++ (get_or css c [] ++ behind css c)) ys) (sym (concat-set css c us h))
    (IsPermutation-append_right (before css c) _ _ (IsPermutation-append_left (behind css c) (get_or css c []) us p)))

-- a unit is taken out of a chain
pub permutation_of_taken : (css : List (List ℕ)) (c k u : ℕ) → c < length css → k < length (get_or css c []) → u ≡ get_or (get_or css c []) k u → IsPermutation (concat css) (u ∷ concat (set css c (remove (get_or css c []) k)))
permutation_of_taken css c k u h within e =
    let us = get_or css c [] in
    subst (λ (xs : List ℕ). IsPermutation xs (u ∷ concat (set css c (remove (get_or css c []) k)))) (sym (concat_at css c h))
    (subst (λ (ys : List ℕ). IsPermutation (before css c ++ (get_or css c [] ++ behind css c)) (u ∷ ys)) (sym (concat-set css c (remove us k) h))
    (IsPermutation-trans _ _ _ (IsPermutation-append_right (before css c) _ _ (IsPermutation-append_left (behind css c) us (u ∷ remove us k) (IsPermutation-remove us k u within e)))
    (IsPermutation-middle (before css c) u (remove us k ++ behind css c))))

-- a unit is put into a chain
pub permutation_of_put : (css : List (List ℕ)) (c k u : ℕ) → c < length css → IsPermutation (u ∷ concat css) (concat (set css c (insert (get_or css c []) k u)))
permutation_of_put css c k u h =
    let us = get_or css c [] in
    subst (λ (xs : List ℕ). IsPermutation (u ∷ xs) (concat (set css c (insert (get_or css c []) k u)))) (sym (concat_at css c h))
    (subst (λ (ys : List ℕ). IsPermutation (u ∷ (before css c ++ (get_or css c [] ++ behind css c))) ys) (sym (concat-set css c (insert us k u) h))
    (IsPermutation-trans _ _ _ (IsPermutation-sym _ _ (IsPermutation-middle (before css c) u (us ++ behind css c)))
    (IsPermutation-append_right (before css c) _ _ (IsPermutation-append_left (behind css c) (u ∷ us) (insert us k u) (IsPermutation-insert us k u)))))

-- the place of a unit among all
abbrev pub flat : List (List ℕ) → ℕ → ℕ → ℕ
flat css c k = length (before css c) + k

pub get_or-flat : (css : List (List ℕ)) (c k d : ℕ) → c < length css → k < length (get_or css c []) → get_or (concat css) (flat css c k) d ≡ get_or (get_or css c []) k d
get_or-flat css c k d h within =
    ap (λ (xs : List ℕ). get_or xs (flat css c k) d) (concat_at css c h) ∙ (get_or-append-add (before css c) (get_or css c [] ++ behind css c) k d ∙ get_or_append_left (get_or css c []) (behind css c) d k within)

pub flat-below : (css : List (List ℕ)) (c k : ℕ) → c < length css → k < length (get_or css c []) → flat css c k < length (concat css)
flat-below css c k h within =
    omega (arith, ap length (concat_at css c h), length-append (before css c) (get_or css c [] ++ behind css c), length-append (get_or css c []) (behind css c))

pub set-flat : (css : List (List ℕ)) (c k u : ℕ) → c < length css → k < length (get_or css c []) → concat (set css c (set (get_or css c []) k u)) ≡ set (concat css) (flat css c k) u
set-flat css c k u h within =
    let us = get_or css c [] in
    let i : flat css c k - length (before css c) ≡ k = omega arith in
    let right = set-append_right (before css c) (us ++ behind css c) (length (before css c)) (flat css c k) u refl (omega arith) in
    concat-set css c (set us k u) h
    ∙ (ap (λ (xs : List ℕ). before css c ++ xs) (sym (set-append_left us (behind css c) k u within))
    ∙ (ap (λ (n : ℕ). before css c ++ set (us ++ behind css c) n u) (sym i)
    ∙ (sym right ∙ ap (λ (xs : List ℕ). set xs (flat css c k) u) (sym (concat_at css c h)))))

-- places stay where a chain gets as many other units
pub length-before_set : (css : List (List ℕ)) (c d : ℕ) (us : List ℕ) → length us ≡ length (get_or css c []) → length (before (set css c us) d) ≡ length (before css d)
length-before_set [] c d us e = refl
length-before_set (x ∷ xs) c zero us e = refl
length-before_set (x ∷ xs) zero (suc d) us e = length-append us (before xs d) ∙ (ap (λ (n : ℕ). n + length (before xs d)) e ∙ sym (length-append x (before xs d)))
length-before_set (x ∷ xs) (suc c) (suc d) us e = length-append x (before (set xs c us) d) ∙ (ap (λ (n : ℕ). length x + n) (length-before_set xs c d us e) ∙ sym (length-append x (before xs d)))
