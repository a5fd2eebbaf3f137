-- How a text of LEF or DEF is cut into tokens (LEF/DEF 5.8): what stands at the front of a text. What a token is without
-- saying how it is found stands in DefSplit, and that both agree in proofs/DefSplitLaw.
use Rattle.std.specs.Prelude.{ℕ, ◌+◌, ◌-◌, Bool, ◌&&◌, ◌||◌, not, nat_le, ◌==◌, if◌then◌else◌, min, List, [], ◌∷◌, length, take, slice_index}
use Rattle.std.specs.List.{prefix_len}
use Rattle.base_types.specs.declared.span.Span.{Span}
use Rattle.token_forms.specs.declared.piece.Piece.{Piece}
use Rattle.token_forms.specs.declared.piece.Piece.TheVariants.{Blank, Token}
use Rattle.token_forms.specs.Pieces.{tokens_from}
use Rattle.token_forms.specs.Tokens.{Token as token, tokens_of}

-- space, tab, line feed and carriage return
abbrev pub is_blank : ℕ → Bool
is_blank b = b == 32 || b == 9 || b == 10 || b == 13

-- any other byte
abbrev pub is_black : ℕ → Bool
is_black b = not (is_blank b)

-- how many bytes stand up to and with the first such byte; all where there is none
abbrev pub len_with : ℕ → List ℕ → ℕ
len_with byte bs = min (prefix_len (λ b. not (b == byte)) bs + 1) (length bs)

-- a semicolon ends the run and is a token of its own: it isn't the whole run, and no backslash stands before it
abbrev pub has_end : List ℕ → Bool
has_end run = nat_le 2 (length run) && (slice_index run (length run - 1) == 59 && not (slice_index run (length run - 2) == 92))

-- the token that a run of so many bytes behind its first gives: the run, or what stands before the semicolon that ends it
abbrev pub run_piece : List ℕ → ℕ → Piece
run_piece bs n = if has_end (take (n + 1) bs) then Token n else Token (n + 1)

-- the blanks, or the token, at the front of a text: a comment runs up to and with the line's end, a quoted text up to and
-- with the next quote, and any other token as far as no blank stands
unfoldable pub piece_at : List ℕ → Piece
piece_at [] = Blank 0
piece_at (b ∷ bs) =
    if is_blank b then Blank (1 + prefix_len is_blank bs)
    else (if b == 35 then Blank (1 + len_with 10 bs)
    else (if b == 34 then Token (1 + len_with 34 bs)
    else run_piece (b ∷ bs) (prefix_len is_black bs)))

-- the text is cut into pieces from its beginning; the tokens are those that aren't blank
abbrev pub def_tokens : List ℕ → List Span
def_tokens text = tokens_from piece_at 0 0 text

-- the tokens of a text, as their bytes and places
abbrev pub tokens_in : List ℕ → List token
tokens_in text = tokens_of text (def_tokens text)
