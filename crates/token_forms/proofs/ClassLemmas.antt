-- Classes that are apart, and lists of classes.
use Rattle.std.proofs.Common.{◌≡◌, ℕ, Bool, true, false, not, List, [], ◌∷◌, ◌++◌, inl, inr, refl, sym, ◌∙◌, subst}
use Rattle.std.specs.List.{list_any, list_all}
use Rattle.std.specs.Str.{bytes_eq}
use Rattle.std.proofs.lemmas.List.Folds.{list_any-append}
use Rattle.std.proofs.lemmas.Bool.{and_parts, or_parts, or_cases, not-true, or_left, or_right}
use Rattle.base_types.proofs.TruthValues.{bytes_are}
use Rattle.token_forms.specs.Tokens.{Token}
use Rattle.token_forms.specs.Classes.{Class, Only, But, is_among, is_in, are_apart, is_in_any, all_apart, begins}

-- where all members pass one test, and one another, one passes and_parts
pub passes_both : {X : Type 0} (p q : X → Bool) (xs : List X) → list_all p xs ≡ true → list_any q xs ≡ true → (x : X) × (p x ≡ true) × (q x ≡ true)
passes_both p q [] a e = absurd cc
passes_both p q (x ∷ xs) a e =
    let h = and_parts (p x) (list_all p xs) a in
    elim (or_cases (q x) (list_any q xs) e) [ inl here ↦ (x, h.0, here) | inr there ↦ passes_both p q xs h.1 there ]

among_both : (us vs : List (List ℕ)) (text : List ℕ) → list_all (λ u. not (is_among vs u)) us ≡ true → is_among us text ≡ true → is_among vs text ≡ false
among_both us vs text a e =
    let h = passes_both (λ u. not (is_among vs u)) (bytes_eq text) us a e in
    not-true (is_among vs text) (subst (λ (u : List ℕ). not (is_among vs u) ≡ true) (sym (bytes_are text h.0 h.2)) h.1)

all_among : (us vs : List (List ℕ)) (text : List ℕ) → list_all (is_among vs) us ≡ true → is_among us text ≡ true → is_among vs text ≡ true
all_among us vs text a e =
    let h = passes_both (is_among vs) (bytes_eq text) us a e in
    subst (λ (u : List ℕ). is_among vs u ≡ true) (sym (bytes_are text h.0 h.2)) h.1

pub apart : (c d : Class) (text : List ℕ) → are_apart c d ≡ true → is_in c text ≡ true → is_in d text ≡ true → ⊥
apart (Only us) (Only vs) text a e f = let n = among_both us vs text a e in absurd cc
apart (Only us) (But vs) text a e f = let n = all_among us vs text a e in let m = not-true _ f in absurd cc
apart (But us) (Only vs) text a e f = let n = all_among vs us text a f in let m = not-true _ e in absurd cc
apart (But us) (But vs) text a e f = absurd cc

pub any_apart : (cs ds : List Class) (text : List ℕ) → all_apart cs ds ≡ true → is_in_any cs text ≡ true → is_in_any ds text ≡ true → ⊥
any_apart cs ds text a e f =
    let c = passes_both (λ c. list_all (are_apart c) ds) (λ c. is_in c text) cs a e in
    let d = passes_both (are_apart c.0) (λ d. is_in d text) ds c.1 f in
    apart c.0 d.0 text d.1 c.2 d.2

pub not_begins : (cs ds : List Class) (ts : List Token) → begins (cs ++ ds) ts ≡ false → (begins cs ts ≡ false) × (begins ds ts ≡ false)
not_begins cs ds [] e = (refl, refl)
not_begins cs ds (t ∷ ts) e = or_parts (is_in_any cs t.text) (is_in_any ds t.text) (sym (list_any-append (λ c. is_in c t.text) cs ds) ∙ e)

pub in_left : (cs ds : List Class) (text : List ℕ) → is_in_any cs text ≡ true → is_in_any (cs ++ ds) text ≡ true
in_left cs ds text e = list_any-append (λ c. is_in c text) cs ds ∙ or_left (is_in_any cs text) _ e

pub in_right : (cs ds : List Class) (text : List ℕ) → is_in_any ds text ≡ true → is_in_any (cs ++ ds) text ≡ true
in_right cs ds text e = list_any-append (λ c. is_in c text) cs ds ∙ or_right (is_in_any cs text) _ e
