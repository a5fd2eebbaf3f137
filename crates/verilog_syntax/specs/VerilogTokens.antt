-- How a Verilog text is cut into tokens (IEEE 1364-2005, section 3): what stands at the front of a text, byte by byte.
-- What a token is without saying how it is found stands in VerilogSplit, and that both agree in proofs/VerilogSplitLaw.
use Rattle.std.specs.Prelude.{ℕ, ◌+◌, Bool, false, ◌&&◌, ◌||◌, not, nat_le, nat_lt, ◌==◌, if◌then◌else◌, min, List, [], ◌∷◌, length, take, drop, codes}
use Rattle.std.specs.List.{prefix_len}
use Rattle.std.specs.Str.{bytes_eq}
use Rattle.base_types.specs.declared.span.Span.{Span}
use Rattle.token_forms.specs.declared.piece.Piece.{Piece}
use Rattle.token_forms.specs.declared.piece.Piece.TheVariants.{Blank, Token}
use Rattle.token_forms.specs.Pieces.{tokens_from, texts_from}

-- space, tab, line feed and carriage return
abbrev pub is_blank : ℕ → Bool
is_blank b = b == 32 || b == 9 || b == 10 || b == 13

-- a decimal digit
abbrev pub is_digit : ℕ → Bool
is_digit b = nat_le 48 b && nat_le b 57

-- a letter or _
abbrev pub is_word_start : ℕ → Bool
is_word_start b = nat_le 97 b && nat_le b 122 || nat_le 65 b && nat_le b 90 || b == 95

-- a letter, a digit, _ or $
abbrev pub is_word : ℕ → Bool
is_word b = is_word_start b || is_digit b || b == 36

-- a line feed
abbrev pub is_line_feed : ℕ → Bool
is_line_feed b = b == 10

-- x, z or ?
abbrev pub is_unknown : ℕ → Bool
is_unknown c = c == 120 || c == 122 || c == 88 || c == 90 || c == 63

-- a hexadecimal digit
abbrev pub is_hex_digit : ℕ → Bool
is_hex_digit c = is_digit c || nat_le 97 c && nat_le c 102 || nat_le 65 c && nat_le c 70

-- a digit of a constant with this base letter, b, o, d or h of either case
unfoldable pub is_digit_of : ℕ → ℕ → Bool
is_digit_of base c =
    if base == 98 || base == 66 then c == 48 || c == 49 || is_unknown c
    else (if base == 111 || base == 79 then nat_le 48 c && nat_le c 55 || is_unknown c
    else (if base == 100 || base == 68 then is_digit c
    else (if base == 104 || base == 72 then is_hex_digit c || is_unknown c
    else false)))

-- how far the digits go on, with _ between two of them
abbrev pub digits_len : ℕ → List ℕ → ℕ
digits_len base [] = 0
digits_len base (c ∷ cs) =
    if is_digit_of base c then 1 + digits_len base cs
    else (if c == 95 && nat_lt 0 (digits_len base cs) then 1 + digits_len base cs else 0)

-- behind a decimal: the quote, the base letter and the digits that make it a constant; 0 where none stand there
unfoldable pub based_len : List ℕ → ℕ
based_len [] = 0
based_len (q ∷ []) = 0
based_len (q ∷ base ∷ []) = 0
based_len (q ∷ base ∷ c ∷ cs) = if q == 39 && is_digit_of base c then 3 + digits_len base cs else 0

-- behind a digit: the digits of the decimal, and what makes it a constant
unfoldable pub number_len : List ℕ → ℕ
number_len bs = prefix_len is_digit bs + based_len (drop (prefix_len is_digit bs) bs)

-- how many bytes up to and with the first * before this byte, or all where there is none
abbrev pub closed_len : ℕ → List ℕ → ℕ
closed_len closing [] = 0
closed_len closing (b ∷ []) = 1
closed_len closing (b ∷ c ∷ bs) = if b == 42 && c == closing then 2 else 1 + closed_len closing (c ∷ bs)

-- the bytes before the next line feed
abbrev pub line_len : List ℕ → ℕ
line_len bs = prefix_len (λ c. not (is_line_feed c)) bs

-- the words that make a directive behind a backtick
abbrev pub is_directive : List ℕ → Bool
is_directive w = bytes_eq w (codes "timescale") || bytes_eq w (codes "celldefine") || bytes_eq w (codes "endcelldefine") || bytes_eq w (codes "default_nettype") || bytes_eq w (codes "resetall")

-- what stands at a slash: a comment, or else the slash is a token by itself
unfoldable pub slash_piece : List ℕ → Piece
slash_piece [] = Token 1
slash_piece (b ∷ bs) =
    if b == 47 then Blank (2 + line_len bs)
    else (if b == 42 then Blank (2 + closed_len 47 bs)
    else Token 1)

-- what stands at an opening parenthesis: an attribute, or else the mark
unfoldable pub open_piece : List ℕ → Piece
open_piece [] = Token 1
open_piece (b ∷ bs) = if b == 42 then Blank (2 + closed_len 41 bs) else Token 1

-- what stands at a backtick: a directive up to the line's end, or else the backtick is a token by itself
unfoldable pub tick_piece : List ℕ → Piece
tick_piece bs =
    let n = prefix_len is_word bs in
    if is_directive (take n bs) then Blank (1 + (n + line_len (drop n bs))) else Token 1

-- what stands at a backslash: an escaped identifier, which has bytes that aren't blanks, and the one blank after them
unfoldable pub escaped_piece : List ℕ → Piece
escaped_piece bs =
    let n = prefix_len (λ c. not (is_blank c)) bs in
    if n == 0 then Token 1 else Token (1 + min (n + 1) (length bs))

-- the blanks, or the longest token, at the front of a text
unfoldable pub piece_at : List ℕ → Piece
piece_at [] = Blank 0
piece_at (b ∷ bs) =
    if is_blank b then Blank (1 + prefix_len is_blank bs)
    else (if is_word_start b then Token (1 + prefix_len is_word bs)
    else (if is_digit b then Token (1 + number_len bs)
    else (if b == 92 then escaped_piece bs
    else (if b == 47 then slash_piece bs
    else (if b == 40 then open_piece bs
    else (if b == 96 then tick_piece bs
    else Token 1))))))

-- the text is cut into pieces from its beginning; the tokens are those that aren't blank
abbrev pub verilog_tokens : List ℕ → List Span
verilog_tokens text = tokens_from piece_at 0 0 text

-- their bytes alone
abbrev pub texts : List ℕ → List (List ℕ)
texts text = texts_from piece_at 0 text
