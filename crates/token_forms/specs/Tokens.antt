-- Tokens, as their texts and places.
use Rattle.std.specs.Prelude.{ℕ, ◌≤◌, ◌-◌, List, [], ◌∷◌, take, drop, map, length, All}
use Rattle.base_types.specs.declared.span.Span.{Span}

-- a token: its bytes, and the places where it begins and ends
pub record Token : Type 0 where
  pub text : List ℕ
  pub start : ℕ
  pub end : ℕ

-- the token at a span
abbrev pub token_of : List ℕ → Span → Token
token_of text s = record { text = take (s.end - s.start) (drop s.start text); start = s.start; end = s.end }

-- the tokens at some spans
abbrev pub tokens_of : List ℕ → List Span → List Token
tokens_of text spans = map (token_of text) spans

-- the span lies in the text
pub record IsSpanOf (text : List ℕ) (s : Span) : Type 0 where
  pub ordered : s.start ≤ s.end
  pub within : s.end ≤ length text

-- each of the spans lies in the text
abbrev pub AreSpansOf : List ℕ → List Span → Type 0
AreSpansOf text spans = All (IsSpanOf text) spans

-- a text, and the spans of the tokens of it that are still to come
pub record Tokenized : Type 0 where
  pub source : List ℕ
  pub spans : List Span

-- the tokens that are still to come
abbrev pub tokens_left : Tokenized → List Token
tokens_left source = tokens_of source.source source.spans

-- where the last of some tokens ends
abbrev pub last_end_of : Token → List Token → ℕ
last_end_of t [] = t.end
last_end_of t (u ∷ us) = last_end_of u us

-- from the first token to the last one; of none, nowhere
abbrev pub place_of : List Token → Span
place_of [] = record { start = 0; end = 0 }
place_of (t ∷ ts) = record { start = t.start; end = last_end_of t ts }

-- from the first token of a run to the last one; of none, the empty place where what stands behind begins
abbrev pub run_place : List Token → List Token → Span
run_place [] [] = record { start = 0; end = 0 }
run_place [] (t ∷ ts) = record { start = t.start; end = t.start }
run_place (t ∷ ts) behind = record { start = t.start; end = last_end_of t ts }

-- the tokens that stand in front of the rest
abbrev pub front_of : List Token → List Token → List Token
front_of ts rest = take (length ts - length rest) ts
