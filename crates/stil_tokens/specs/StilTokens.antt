-- How a STIL text is cut into tokens (IEEE 1450-1999, clause 6): what stands at the front of a text. What a token is without
-- saying how it is found stands in StilSplit, and that both agree in proofs/StilSplitLaw.
use Rattle.std.specs.Prelude.{ℕ, ◌+◌, Bool, false, ◌&&◌, ◌||◌, not, ◌==◌, if◌then◌else◌, List, [], ◌∷◌}
use Rattle.std.specs.List.{prefix_len}
use Rattle.base_types.specs.declared.span.Span.{Span}
use Rattle.token_forms.specs.declared.piece.Piece.{Piece}
use Rattle.token_forms.specs.declared.piece.Piece.TheVariants.{Blank, Token}
use Rattle.token_forms.specs.Pieces.{tokens_from}
use Rattle.token_forms.specs.Tokens.{Token as token, tokens_of}

-- space, tab, line feed and carriage return
abbrev pub is_blank : ℕ → Bool
is_blank b = b == 32 || b == 9 || b == 10 || b == 13

-- " and '
abbrev pub is_quote : ℕ → Bool
is_quote b = b == 34 || b == 39

-- = : !
abbrev pub other_mark : ℕ → Bool
other_mark b = b == 61 || b == 58 || b == 33

-- { } ; = : !
abbrev pub is_mark : ℕ → Bool
is_mark b = b == 123 || (b == 125 || (b == 59 || other_mark b))

-- any other byte, which may stand in a run
abbrev pub is_run : ℕ → Bool
is_run b = not (is_blank b || (is_quote b || is_mark b))

-- how many bytes up to and with the next such quote; all where there is none
abbrev pub quoted_len : ℕ → List ℕ → ℕ
quoted_len quote [] = 0
quoted_len quote (b ∷ bs) = if b == quote then 1 else 1 + quoted_len quote bs

-- how many bytes up to and with the first such byte behind a *; all where there is none; star tells whether a * stands
-- before the first byte
abbrev pub closed_len : ℕ → Bool → List ℕ → ℕ
closed_len closing star [] = 0
closed_len closing star (b ∷ bs) = if star && b == closing then 1 else 1 + closed_len closing (b == 42) bs

-- whether there is one
abbrev pub has_close : ℕ → Bool → List ℕ → Bool
has_close closing star [] = false
has_close closing star (b ∷ bs) = (star && b == closing) || has_close closing (b == 42) bs

-- the bytes before the next line feed
abbrev pub line_len : List ℕ → ℕ
line_len bs = prefix_len (λ b. not (b == 10)) bs

-- at an opening brace: an annotation, or the mark
unfoldable pub brace_piece : List ℕ → Piece
brace_piece [] = Token 1
brace_piece (b ∷ bs) = if b == 42 then Token (2 + closed_len 125 false bs) else Token 1

-- at a slash: a comment, or a run
unfoldable pub slash_piece : List ℕ → Piece
slash_piece [] = Token 1
slash_piece (b ∷ bs) =
    if b == 47 then Blank (2 + line_len bs)
    else (if b == 42 then Blank (2 + closed_len 47 false bs)
    else Token (1 + prefix_len is_run (b ∷ bs)))

-- a blank, a comment or the token at the front of a text
unfoldable pub piece_at : List ℕ → Piece
piece_at [] = Blank 0
piece_at (b ∷ bs) =
    if is_blank b then Blank 1
    else (if is_quote b then Token (1 + quoted_len b bs)
    else (if b == 123 then brace_piece bs
    else (if is_mark b then Token 1
    else (if b == 47 then slash_piece bs
    else Token (1 + prefix_len is_run bs)))))

-- the text is cut into pieces from its beginning; the tokens are those that aren't blank
abbrev pub stil_tokens : List ℕ → List Span
stil_tokens text = tokens_from piece_at 0 0 text

-- the tokens of a text, as their bytes and places
abbrev pub tokens_in : List ℕ → List token
tokens_in text = tokens_of text (stil_tokens text)
