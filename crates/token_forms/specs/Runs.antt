-- Runs of tokens that stand one behind the other in a text.
use Rattle.std.specs.Prelude.{◌≡◌, ℕ, List, [], ◌∷◌, map}
use Rattle.base_types.specs.declared.span.Span.{Span}
use Rattle.token_forms.specs.Tokens.{token_of}

-- the bytes at a span
abbrev pub bytes_of : List ℕ → Span → List ℕ
bytes_of text s = (token_of text s).text

-- the bytes at each of some spans
abbrev pub texts_of : List ℕ → List Span → List (List ℕ)
texts_of text ss = map (bytes_of text) ss

-- where the last of some spans ends
abbrev pub end_of : Span → List Span → ℕ
end_of s [] = s.end
end_of s (t ∷ ts) = end_of t ts

-- the place of some tokens, or of none before the next one
abbrev pub IsRun : Span → List Span → Span → Type 0
IsRun place [] next = (place.start ≡ next.start) × (place.end ≡ next.start)
IsRun place (s ∷ ss) next = (place.start ≡ s.start) × (place.end ≡ end_of s ss)
