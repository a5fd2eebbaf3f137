-- Taking a statement's tokens one by one, as the loop does.
use Rattle.std.proofs.Common.{◌≡◌, ℕ, List, [], ◌∷◌, ◌++◌, sym, ap, ◌∙◌, append_assoc, append-nil}
use Rattle.std.proofs.lemmas.List.{map-append}
use Rattle.base_types.specs.declared.span.Span.{Span}
use Rattle.token_forms.specs.Tokens.{Token, token_of, tokens_of}
use Rattle.token_forms.specs.declared.source.Step.{Step}
use Rattle.token_forms.specs.declared.source.Step.TheVariants.{GoesOn, Closes, Stops}
use Rattle.token_forms.specs.declared.source.Ended.TheVariants.{Closed, Stopped, Text}
use Rattle.token_forms.specs.Chunks.{Chunk, chunk_at, chunk_of}

-- the tokens that were taken before
abbrev pub with_taken : List Token → Chunk → Chunk
with_taken front chunk = record { ended = chunk.ended; taken = front ++ chunk.taken; left = chunk.left }

module _ {S : Type 0} (step : S → List ℕ → Step × S) (text : List ℕ) (front : List Span) (s : S) where
  pub at_text : (total : Chunk) → with_taken (tokens_of text front) (chunk_of step s []) ≡ total → total ≡ record { ended = Text; taken = tokens_of text front; left = [] }
  at_text total so_far = sym so_far ∙ ap (λ (l : List Token). record { ended = Text; taken = l; left = [] }) (append-nil (tokens_of text front))

  module _ (span : Span) (ts : List Token) (total : Chunk) (behind : S) (so_far : with_taken (tokens_of text front) (chunk_of step s (token_of text span ∷ ts)) ≡ total) where
    front_more : tokens_of text (front ++ span ∷ []) ≡ tokens_of text front ++ token_of text span ∷ []
    front_more = map-append (token_of text) front (span ∷ [])

    tested : (d : Step) → (d, behind) ≡ step s (token_of text span).text → with_taken (tokens_of text front) (chunk_at d (token_of text span) ts (chunk_of step behind ts)) ≡ total
    tested d e = ap (λ (p : Step × S). with_taken (tokens_of text front) (chunk_at p.0 (token_of text span) ts (chunk_of step p.1 ts))) e ∙ so_far

    pub stops : (Stops, behind) ≡ step s (token_of text span).text → total ≡ record { ended = Stopped; taken = tokens_of text front; left = ts }
    stops e = sym (tested Stops e) ∙ ap (λ (l : List Token). record { ended = Stopped; taken = l; left = ts }) (append-nil (tokens_of text front))

    pub closes : (Closes, behind) ≡ step s (token_of text span).text → total ≡ record { ended = Closed; taken = tokens_of text (front ++ span ∷ []); left = ts }
    closes e = sym (tested Closes e) ∙ ap (λ (l : List Token). record { ended = Closed; taken = l; left = ts }) (sym front_more)

    pub goes_on : (GoesOn, behind) ≡ step s (token_of text span).text → with_taken (tokens_of text (front ++ span ∷ [])) (chunk_of step behind ts) ≡ total
    goes_on e =
        ap (λ (l : List Token). record { ended = (chunk_of step behind ts).ended; taken = l; left = (chunk_of step behind ts).left })
        (ap (λ (l : List Token). l ++ (chunk_of step behind ts).taken) front_more ∙ append_assoc (tokens_of text front) (token_of text span ∷ []) ((chunk_of step behind ts).taken))
        ∙ tested GoesOn e
