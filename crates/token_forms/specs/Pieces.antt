-- How a text is cut into tokens, for any form of tokens. A form says what stands at the front of a text: blanks of so
-- many bytes, or a token of so many bytes.
use Rattle.std.specs.Prelude.{ℕ, zero, suc, ◌+◌, ◌-◌, List, [], ◌∷◌, ◌++◌, take}
use Rattle.base_types.specs.declared.span.Span.{Span}
use Rattle.token_forms.specs.declared.piece.Piece.{Piece}
use Rattle.token_forms.specs.declared.piece.Piece.TheVariants.{Blank, Token}

-- how many bytes a piece has
abbrev pub piece_len : Piece → ℕ
piece_len (Blank n) = n
piece_len (Token n) = n

-- the span of a piece that begins at a place, where it is a token
abbrev pub span_of : ℕ → Piece → List Span
span_of at (Blank n) = []
span_of at (Token n) = record { start = at; end = at + n } ∷ []

-- the bytes of a piece at the front of a text, where it is a token
abbrev pub text_of : Piece → List ℕ → List (List ℕ)
text_of (Blank n) bs = []
text_of (Token n) bs = take n bs ∷ []

-- the tokens of a text that begins at a place of the file, after so many bytes of a piece before it
unfoldable pub tokens_from : (List ℕ → Piece) → ℕ → ℕ → List ℕ → List Span
tokens_from piece_at at inside [] = []
tokens_from piece_at at (suc inside) (b ∷ bs) = tokens_from piece_at (at + 1) inside bs
tokens_from piece_at at zero (b ∷ bs) =
    let piece = piece_at (b ∷ bs) in
    span_of at piece ++ tokens_from piece_at (at + 1) (piece_len piece - 1) bs

-- their bytes alone
unfoldable pub texts_from : (List ℕ → Piece) → ℕ → List ℕ → List (List ℕ)
texts_from piece_at inside [] = []
texts_from piece_at (suc inside) (b ∷ bs) = texts_from piece_at inside bs
texts_from piece_at zero (b ∷ bs) =
    let piece = piece_at (b ∷ bs) in
    text_of piece (b ∷ bs) ++ texts_from piece_at (piece_len piece - 1) bs
