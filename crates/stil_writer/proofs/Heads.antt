-- What stands before the brace of a block doesn't hang on what stands behind it.
use Rattle.std.proofs.Common.{◌≡◌, inl, inr, ℕ, zero, suc, ◌<◌, ◌≤◌, Bool, true, false, cond, eqb, ◌&&◌, List, [], ◌∷◌, ◌++◌, length, codes, Option, Some, None, refl, sym, ap, ◌∙◌, arith, length-append}
use Rattle.std.specs.Str.{bytes_eq}
use Rattle.std.proofs.lemmas.Bool.{cases_Bool}
use Rattle.std.proofs.lemmas.Option.{same_Some}
use Rattle.token_forms.specs.Tokens.{Token}
use Rattle.stil_syntax.specs.Names.{is_word, is_string, inner, name_at}
use Rattle.stil_syntax.specs.Shapes.{colon_at, label_by, label_at, behind_within, behind_labels}

-- a result, with more tokens behind
abbrev pub with_more : Option (List ℕ × List Token) → List Token → Option (List ℕ × List Token)
with_more None ts = None
with_more (Some n) ts = Some (n.0, n.1 ++ ts)

abbrev pub and_more : Option (List Token) → List Token → Option (List Token)
and_more None ts = None
and_more (Some r) ts = Some (r ++ ts)

pick : (w s : Bool) (x y : List ℕ) (ts : List Token) → cond w (Some (x, ts)) (cond s (Some (y, ts)) None) ≡ with_more (cond w (Some (x, [])) (cond s (Some (y, [])) None)) ts
pick true s x y ts = refl
pick false true x y ts = refl
pick false false x y ts = refl

pick_two : (w s j : Bool) (x y z : List ℕ) (u : Token) (us ts : List Token)
    → cond w (Some (x, u ∷ us ++ ts)) (cond s (Some (cond j (y, us ++ ts) (z, u ∷ us ++ ts))) None) ≡ with_more (cond w (Some (x, u ∷ us)) (cond s (Some (cond j (y, us) (z, u ∷ us))) None)) ts
pick_two true s j x y z u us ts = refl
pick_two false true true x y z u us ts = refl
pick_two false true false x y z u us ts = refl
pick_two false false j x y z u us ts = refl

module _ (b : Token) (bs : List Token) (brace : b.text ≡ 123 ∷ []) where
  no_word : is_word b.text ≡ false
  no_word = ap is_word brace

  no_string : is_string b.text ≡ false
  no_string = ap is_string brace

  pub name_on : (us : List Token) → name_at (us ++ b ∷ bs) ≡ with_more (name_at us) (b ∷ bs)
  unfolding name_at
  name_on [] = rw (no_word, no_string) refl
  name_on (t ∷ []) = rw no_word (pick (is_word t.text) (is_string t.text) t.text (inner t.text) (b ∷ bs))
  name_on (t ∷ u ∷ us) = pick_two (is_word t.text) (is_string t.text) (is_word u.text && eqb u.start t.end) t.text (inner t.text ++ u.text) (inner t.text) u us (b ∷ bs)

  colon_one : (t : Token) (ts : List Token) → cond (bytes_eq t.text (codes ":")) (Some (ts ++ b ∷ bs)) None ≡ and_more (cond (bytes_eq t.text (codes ":")) (Some ts) None) (b ∷ bs)
  colon_one t ts = elim (cases_Bool (bytes_eq t.text (codes ":"))) [ inl e ↦ rw e refl | inr e ↦ rw e refl ]

  colon_on : (us : List Token) → colon_at (us ++ b ∷ bs) ≡ and_more (colon_at us) (b ∷ bs)
  colon_on [] = ap (λ (t : List ℕ). cond (bytes_eq t (codes ":")) (Some bs) None) brace
  colon_on (t ∷ ts) = colon_one t ts

  by_name : (n : Option (List ℕ × List Token)) → label_by (with_more n (b ∷ bs)) ≡ and_more (label_by n) (b ∷ bs)
  by_name None = refl
  by_name (Some n) = colon_on n.1

  pub label_on : (us : List Token) → label_at (us ++ b ∷ bs) ≡ and_more (label_at us) (b ∷ bs)
  unfolding label_at
  label_on us = ap label_by (name_on us) ∙ by_name (name_at us)

  within_none : (n : ℕ) (ts : List Token) → label_at ts ≡ None → behind_within (suc n) ts ≡ ts
  unfolding behind_within
  within_none n ts e = rw (e, behind_within) refl

  within_some : (n : ℕ) (ts r : List Token) → label_at ts ≡ Some r → behind_within (suc n) ts ≡ behind_within n r
  unfolding behind_within
  within_some n ts r e = rw (e, behind_within) refl

  within_zero : (ts : List Token) → behind_within zero ts ≡ ts
  unfolding behind_within
  within_zero ts = refl

  within_as : (n : ℕ) (us : List Token) (o : Option (List Token)) → label_at us ≡ o → ((r : List Token) → behind_within n (r ++ b ∷ bs) ≡ behind_within n r ++ b ∷ bs) → behind_within (suc n) (us ++ b ∷ bs) ≡ behind_within (suc n) us ++ b ∷ bs
  within_as n us None e more =
      within_none n (us ++ b ∷ bs) (label_on us ∙ ap (λ (o : Option (List Token)). and_more o (b ∷ bs)) e) ∙ ap (λ (l : List Token). l ++ b ∷ bs) (sym (within_none n us e))
  within_as n us (Some r) e more =
      within_some n (us ++ b ∷ bs) (r ++ b ∷ bs) (label_on us ∙ ap (λ (o : Option (List Token)). and_more o (b ∷ bs)) e) ∙ more r ∙ ap (λ (l : List Token). l ++ b ∷ bs) (sym (within_some n us r e))

  pub within_on : (n : ℕ) (us : List Token) → behind_within n (us ++ b ∷ bs) ≡ behind_within n us ++ b ∷ bs
  within_on zero us = within_zero (us ++ b ∷ bs) ∙ ap (λ (l : List Token). l ++ b ∷ bs) (sym (within_zero us))
  within_on (suc n) us = within_as n us (label_at us) refl (within_on n)

-- a name and a label have a token
name_size : (w s j : Bool) (x y z : List ℕ) (u : Token) (us : List Token) (n : List ℕ × List Token) → cond w (Some (x, u ∷ us)) (cond s (Some (cond j (y, us) (z, u ∷ us))) None) ≡ Some n → length n.1 ≤ suc (length us)
name_size true s j x y z u us n e = let k : (x, u ∷ us) ≡ n = same_Some _ _ e in let l : length (u ∷ us) ≡ length n.1 = ap (λ (p : List ℕ × List Token). length p.1) k in omega arith
name_size false true true x y z u us n e = let k : (y, us) ≡ n = same_Some _ _ e in let l : length us ≡ length n.1 = ap (λ (p : List ℕ × List Token). length p.1) k in omega arith
name_size false true false x y z u us n e = let k : (z, u ∷ us) ≡ n = same_Some _ _ e in let l : length (u ∷ us) ≡ length n.1 = ap (λ (p : List ℕ × List Token). length p.1) k in omega arith
name_size false false j x y z u us n e = absurd cc

name_one : (w s : Bool) (x y : List ℕ) (n : List ℕ × List Token) → cond w (Some (x, [])) (cond s (Some (y, [])) None) ≡ Some n → length n.1 ≤ 0
name_one true s x y n e = let k : (x, []) ≡ n = same_Some _ _ e in let l : length {A = Token} [] ≡ length n.1 = ap (λ (p : List ℕ × List Token). length p.1) k in omega arith
name_one false true x y n e = let k : (y, []) ≡ n = same_Some _ _ e in let l : length {A = Token} [] ≡ length n.1 = ap (λ (p : List ℕ × List Token). length p.1) k in omega arith
name_one false false x y n e = absurd cc

name_shorter : (ts : List Token) (n : List ℕ × List Token) → name_at ts ≡ Some n → length n.1 < length ts
unfolding name_at
name_shorter [] n e = absurd cc
name_shorter (t ∷ []) n e = let k = name_one (is_word t.text) (is_string t.text) t.text (inner t.text) n e in omega arith
name_shorter (t ∷ u ∷ us) n e = let k = name_size (is_word t.text) (is_string t.text) (is_word u.text && eqb u.start t.end) t.text (inner t.text ++ u.text) (inner t.text) u us n e in omega arith

colon_as : (t : Bool) (ts r : List Token) → cond t (Some ts) None ≡ Some r → r ≡ ts
colon_as true ts r e = sym (same_Some _ _ e)
colon_as false ts r e = absurd cc

colon_shorter : (ts r : List Token) → colon_at ts ≡ Some r → length r < length ts
colon_shorter [] r e = absurd cc
colon_shorter (t ∷ ts) r e = let k = ap (λ (l : List Token). length l) (colon_as (bytes_eq t.text (codes ":")) ts r e) in omega arith

label_as : (ts r : List Token) (n : Option (List ℕ × List Token)) → name_at ts ≡ n → label_by n ≡ Some r → length r < length ts
label_as ts r None e h = absurd cc
label_as ts r (Some n) e h = omega (arith, name_shorter ts n e, colon_shorter n.1 r h)

pub label_shorter : (ts r : List Token) → label_at ts ≡ Some r → length r < length ts
unfolding label_at
label_shorter ts r e = label_as ts r (name_at ts) refl e

-- more fuel changes nothing
fuel_none : (n : ℕ) (ts : List Token) → label_at ts ≡ None → behind_within n ts ≡ ts
unfolding behind_within
fuel_none zero ts e = refl
fuel_none (suc n) ts e = rw (e, behind_within) refl

fuel_some : (n : ℕ) (ts r : List Token) → label_at ts ≡ Some r → behind_within (suc n) ts ≡ behind_within n r
unfolding behind_within
fuel_some n ts r e = rw (e, behind_within) refl

fuel_as : (m n : ℕ) (ts : List Token) (o : Option (List Token)) → label_at ts ≡ o → length ts ≤ suc m → length ts ≤ suc n → ((r : List Token) → length r ≤ m → length r ≤ n → behind_within m r ≡ behind_within n r) → behind_within (suc m) ts ≡ behind_within (suc n) ts
fuel_as m n ts None e a b more = fuel_none (suc m) ts e ∙ sym (fuel_none (suc n) ts e)
fuel_as m n ts (Some r) e a b more = fuel_some m ts r e ∙ more r (omega (arith, label_shorter ts r e)) (omega (arith, label_shorter ts r e)) ∙ sym (fuel_some n ts r e)

no_label : label_at [] ≡ None
unfolding label_at name_at
no_label = refl

pub fuel : (m n : ℕ) (ts : List Token) → length ts ≤ m → length ts ≤ n → behind_within m ts ≡ behind_within n ts
fuel zero n [] a b = fuel_none zero [] no_label ∙ sym (fuel_none n [] no_label)
fuel zero n (t ∷ ts) a b = absurd (omega arith)
fuel (suc m) zero [] a b = fuel_none (suc m) [] no_label ∙ sym (fuel_none zero [] no_label)
fuel (suc m) zero (t ∷ ts) a b = absurd (omega arith)
fuel (suc m) (suc n) ts a b = fuel_as m n ts (label_at ts) refl a b (λ r c d. fuel m n r c d)

-- the labels before a brace are the same whatever stands behind it
pub labels_on : (us : List Token) (b : Token) (bs : List Token) → b.text ≡ 123 ∷ [] → behind_labels (us ++ b ∷ bs) ≡ behind_labels us ++ b ∷ bs
labels_on us b bs brace =
    within_on b bs brace (length (us ++ b ∷ bs)) us ∙ ap (λ (l : List Token). l ++ b ∷ bs) (fuel (length (us ++ b ∷ bs)) (length us) us (omega (arith, length-append us (b ∷ bs))) (omega arith))
