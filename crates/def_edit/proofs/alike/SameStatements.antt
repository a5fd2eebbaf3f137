-- How tokens of the same words are cut into statements.
use Rattle.std.proofs.Common.{◌≡◌, ℕ, zero, suc, List, [], ◌∷◌, length, take, drop, map, codes, refl, ap, subst}
use Rattle.token_forms.specs.Tokens.{Token}
use Rattle.token_forms.specs.Parts.{token_texts}
use Rattle.def_tokens.specs.DefStatements.{count_with, statement_len, statements_within, def_statements}

pub same_length : (ts us : List Token) → token_texts ts ≡ token_texts us → length ts ≡ length us
same_length [] [] e = refl
same_length [] (u ∷ us) e = absurd cc
same_length (t ∷ ts) [] e = absurd cc
same_length (t ∷ ts) (u ∷ us) e = let tail : token_texts ts ≡ token_texts us = cc in ap (λ (n : ℕ). suc n) (same_length ts us tail)

same_count : (w : List ℕ) (ts us : List Token) → token_texts ts ≡ token_texts us → count_with w ts ≡ count_with w us
same_count w [] [] e = refl
same_count w [] (u ∷ us) e = absurd cc
same_count w (t ∷ ts) [] e = absurd cc
same_count w (t ∷ ts) (u ∷ us) e =
    let here : t.text ≡ u.text = cc in
    let tail : token_texts ts ≡ token_texts us = cc in
    rw (here, same_count w ts us tail) refl

same_len : (ts us : List Token) → token_texts ts ≡ token_texts us → statement_len ts ≡ statement_len us
unfolding statement_len
same_len [] [] e = refl
same_len [] (u ∷ us) e = absurd cc
same_len (t ∷ ts) [] e = absurd cc
same_len (t ∷ ts) (u ∷ us) e =
    let here : t.text ≡ u.text = cc in
    let tail : token_texts ts ≡ token_texts us = cc in
    rw (here, same_length ts us tail, same_count (codes "ENDEXT") ts us tail, same_count (codes ";") ts us tail) refl

pub same_take : (n : ℕ) (ts us : List Token) → token_texts ts ≡ token_texts us → token_texts (take n ts) ≡ token_texts (take n us)
same_take zero ts us e = refl
same_take (suc n) [] [] e = refl
same_take (suc n) [] (u ∷ us) e = absurd cc
same_take (suc n) (t ∷ ts) [] e = absurd cc
same_take (suc n) (t ∷ ts) (u ∷ us) e =
    let here : t.text ≡ u.text = cc in
    let tail : token_texts ts ≡ token_texts us = cc in
    rw (here, same_take n ts us tail) refl

same_drop : (n : ℕ) (ts us : List Token) → token_texts ts ≡ token_texts us → token_texts (drop n ts) ≡ token_texts (drop n us)
same_drop zero ts us e = e
same_drop (suc n) [] [] e = refl
same_drop (suc n) [] (u ∷ us) e = absurd cc
same_drop (suc n) (t ∷ ts) [] e = absurd cc
same_drop (suc n) (t ∷ ts) (u ∷ us) e = let tail : token_texts ts ≡ token_texts us = cc in same_drop n ts us tail

same_within : (k : ℕ) (ts us : List Token) → token_texts ts ≡ token_texts us → map token_texts (statements_within k ts) ≡ map token_texts (statements_within k us)
unfolding statements_within
same_within zero ts us e = refl
same_within (suc k) [] [] e = refl
same_within (suc k) [] (u ∷ us) e = absurd cc
same_within (suc k) (t ∷ ts) [] e = absurd cc
same_within (suc k) (t ∷ ts) (u ∷ us) e =
    let n = statement_len (t ∷ ts) in
    let same : n ≡ statement_len (u ∷ us) = same_len (t ∷ ts) (u ∷ us) e in
    let first = same_take n (t ∷ ts) (u ∷ us) e in
    let rest = same_within k (drop n (t ∷ ts)) (drop n (u ∷ us)) (same_drop n (t ∷ ts) (u ∷ us) e) in
    subst (λ (m : ℕ). token_texts (take n (t ∷ ts)) ∷ map token_texts (statements_within k (drop n (t ∷ ts))) ≡ token_texts (take m (u ∷ us)) ∷ map token_texts (statements_within k (drop m (u ∷ us)))) same
    (rw (first, rest) refl)

pub same_cut : (ts us : List Token) → token_texts ts ≡ token_texts us → map token_texts (def_statements ts) ≡ map token_texts (def_statements us)
same_cut ts us e = subst (λ (n : ℕ). map token_texts (statements_within (length ts) ts) ≡ map token_texts (statements_within n us)) (same_length ts us e) (same_within (length ts) ts us e)
