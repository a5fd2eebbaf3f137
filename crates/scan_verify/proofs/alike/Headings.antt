-- One label of a heading.
use Rattle.std.proofs.Common.{◌≡◌, ℕ, ◌-◌, ◌<◌, zero, suc, List, [], ◌∷◌, ◌++◌, Some, refl, sym, ap, ◌∙◌, arith, append_assoc}
use Rattle.token_forms.specs.Tokens.{Token}
use Rattle.stil_syntax.specs.Names.{name_at}
use Rattle.stil_syntax.specs.Shapes.{label_at, behind_within}
use Rattle.stil_written.specs.Readings.{name_there, label_names}

names_suc : (n : ℕ) (ts rest : List Token) → label_at ts ≡ Some rest → label_names (suc n) ts ≡ name_there (name_at ts) ++ label_names n rest
unfolding label_names
names_suc n ts rest e = rw (e, label_names) refl

-- its name stands in front of those behind it
pub names_more : (n : ℕ) (ts rest : List Token) (name : List ℕ) → 0 < n → label_at ts ≡ Some rest → name_there (name_at ts) ≡ name ∷ [] → label_names n ts ≡ name ∷ label_names (n - 1) rest
names_more zero ts rest name l e f = absurd (omega arith)
names_more (suc n) ts rest name l e f =
    let fewer : n ≡ suc n - 1 = omega arith in
    names_suc n ts rest e ∙ ap (λ (q : List (List ℕ)). q ++ label_names n rest) f ∙ ap (λ (m : ℕ). name ∷ label_names m rest) fewer

behind_suc : (n : ℕ) (ts rest : List Token) → label_at ts ≡ Some rest → behind_within (suc n) ts ≡ behind_within n rest
unfolding behind_within
behind_suc n ts rest e = rw (e, behind_within) refl

-- and what is behind all of them is what is behind the others
pub behind_more : (n : ℕ) (ts rest : List Token) → 0 < n → label_at ts ≡ Some rest → behind_within n ts ≡ behind_within (n - 1) rest
behind_more zero ts rest l e = absurd (omega arith)
behind_more (suc n) ts rest l e = let fewer : n ≡ suc n - 1 = omega arith in behind_suc n ts rest e ∙ ap (λ (m : ℕ). behind_within m rest) fewer

-- a name more behind others
pub pushed : (names new rest : List (List ℕ)) (name written : List ℕ) → new ≡ names ++ written ∷ [] → written ≡ name → names ++ name ∷ rest ≡ new ++ rest
pushed names new rest name written e f = sym (ap (λ (q : List (List ℕ)). q ++ rest) e ∙ append_assoc names (written ∷ []) rest ∙ ap (λ (w : List ℕ). names ++ w ∷ rest) f)
