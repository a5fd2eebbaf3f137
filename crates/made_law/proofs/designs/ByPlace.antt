-- Tokens by their texts, with their places behind functions, so that nothing computes on these.
use Rattle.std.proofs.Common.{◌≡◌, ℕ, zero, suc, ◌+◌, List, [], ◌∷◌, refl, sym, ap, ◌∙◌, arith}
use Rattle.base_types.specs.declared.span.Span.{Span}
use Rattle.token_forms.specs.Tokens.{Token}
use Rattle.token_forms.specs.Parts.{token_texts}

-- tokens of these texts, whose places are given by their numbers
abbrev pub tokens_by : (ℕ → Span) → ℕ → List (List ℕ) → List Token
tokens_by place k [] = []
tokens_by place k (w ∷ ws) = record { text = w; start = (place k).start; end = (place k).end } ∷ tokens_by place (suc k) ws

-- the places of tokens by their numbers
abbrev pub place_in : List Token → ℕ → Span
place_in [] k = record { start = 0; end = 0 }
place_in (t ∷ ts) zero = record { start = t.start; end = t.end }
place_in (t ∷ ts) (suc k) = place_in ts k

by_same : (f g : ℕ → Span) (i j : ℕ) (ws : List (List ℕ)) → ((k : ℕ) → f (k + i) ≡ g (k + j)) → tokens_by f i ws ≡ tokens_by g j ws
by_same f g i j [] same = refl
by_same f g i j (w ∷ ws) same =
    let here : f i ≡ g j = (let a : 0 + i ≡ i = omega arith in let b : 0 + j ≡ j = omega arith in sym (ap f a) ∙ same 0 ∙ ap g b) in
    ap (λ (s : Span). record { text = w; start = s.start; end = s.end } ∷ tokens_by f (suc i) ws) here
    ∙ ap (λ (l : List Token). record { text = w; start = (g j).start; end = (g j).end } ∷ l)
    (by_same f g (suc i) (suc j) ws (λ k. let a : k + suc i ≡ suc k + i = omega arith in let b : k + suc j ≡ suc k + j = omega arith in ap f a ∙ same (suc k) ∙ sym (ap g b)))

tokens_are : (ts : List Token) → ts ≡ tokens_by (place_in ts) 0 (token_texts ts)
tokens_are [] = refl
tokens_are (t ∷ ts) =
    ap (λ (l : List Token). t ∷ l)
    (tokens_are ts ∙ by_same (place_in ts) (place_in (t ∷ ts)) 0 1 (token_texts ts) (λ k. let a : k + 1 ≡ suc (k + 0) = omega arith in sym (ap (place_in (t ∷ ts)) a)))

-- any tokens of these words are such
pub tokens_of_words : (ts : List Token) (ws : List (List ℕ)) → token_texts ts ≡ ws → ts ≡ tokens_by (place_in ts) 0 ws
tokens_of_words ts ws e = tokens_are ts ∙ ap (tokens_by (place_in ts) 0) e
