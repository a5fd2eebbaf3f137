-- What the tokens of a Verilog text are, without saying how they are found (IEEE 1364-2005, section 3).
use Rattle.std.specs.Prelude.{◌≡◌, ℕ, suc, ◌+◌, ◌<◌, ◌≤◌, Bool, false, true, ◌&&◌, ◌||◌, not, nat_lt, nat_le, ◌==◌, if◌then◌else◌, List, [], ◌∷◌, length, take, drop, slice_index}
use Rattle.std.specs.List.{list_all, prefix_len}
use Rattle.base_types.specs.declared.span.Span.{Span}
use Rattle.token_forms.specs.Splits.{SplitFrom}
use Rattle.verilog_syntax.specs.VerilogTokens.{is_blank, is_digit, is_word_start, is_word, is_digit_of, is_directive, line_len, verilog_tokens}

-- digits of this base, with _ before any but the first
abbrev pub are_digits_of : ℕ → List ℕ → Bool
are_digits_of base [] = false
are_digits_of base (c ∷ []) = is_digit_of base c
are_digits_of base (c ∷ d ∷ cs) = (is_digit_of base c || c == 95) && are_digits_of base (d ∷ cs)

-- a quote, a base letter, and digits of the base that begin and end with one
abbrev pub is_based : List ℕ → Bool
is_based [] = false
is_based (q ∷ []) = false
is_based (q ∷ base ∷ []) = false
is_based (q ∷ base ∷ c ∷ cs) = (q == 39 && is_digit_of base c) && are_digits_of base (c ∷ cs)

-- behind a digit: digits alone, which make a decimal, or digits and what makes them a constant
abbrev pub is_number : List ℕ → Bool
is_number bs = prefix_len is_digit bs == length bs || is_based (drop (prefix_len is_digit bs) bs)

-- behind a backslash: one or more bytes that aren't blanks, and one blank or the end
abbrev pub is_escaped : List ℕ → Bool
is_escaped bs = nat_lt 0 (prefix_len (λ c. not (is_blank c)) bs) && nat_le (length bs) (prefix_len (λ c. not (is_blank c)) bs + 1)

-- the bytes are an identifier, a decimal or a constant, an escaped identifier, or one byte that isn't a blank
abbrev pub is_token : List ℕ → Bool
is_token [] = false
is_token (b ∷ bs) =
    if is_blank b then false
    else (if is_word_start b then list_all is_word bs
    else (if is_digit b then is_number bs
    else (b == 92 && is_escaped bs || length bs == 0)))

-- these two bytes stand first
abbrev pub begins_with_two : ℕ → ℕ → List ℕ → Bool
begins_with_two first second [] = false
begins_with_two first second (b ∷ []) = false
begins_with_two first second (b ∷ c ∷ bs) = b == first && c == second

-- a backtick and the word of a directive
abbrev pub begins_directive : List ℕ → Bool
begins_directive [] = false
begins_directive (b ∷ bs) = b == 96 && is_directive (take (prefix_len is_word bs) bs)

-- a comment, an attribute or a directive begins
abbrev pub begins_remark : List ℕ → Bool
begins_remark text = begins_with_two 47 47 text || (begins_with_two 47 42 text || (begins_with_two 40 42 text || begins_directive text))

-- a token of n bytes begins the text, no longer one does, and no comment, attribute or directive does
pub record IsLongestToken (text : List ℕ) (n : ℕ) : Type 0 where
  pub is : is_token (take n text) ≡ true
  pub longest : (m : ℕ) → n < m → m ≤ length text → is_token (take m text) ≡ false
  pub no_remark : begins_remark text ≡ false

-- at a place stand a * and this byte
abbrev pub closes_at : ℕ → List ℕ → ℕ → Bool
closes_at closing text i = slice_index text i == 42 && slice_index text (suc i) == closing

-- behind an opening: the bytes up to and with the first * before this byte, or all where there is none
pub data IsClosed (closing : ℕ) (text : List ℕ) (n : ℕ) : Type 0 where
  Closed : (i : ℕ) → n ≡ suc (suc i) → closes_at closing text i ≡ true → ((j : ℕ) → j < i → closes_at closing text j ≡ false) → IsClosed closing text n
  Unclosed : n ≡ length text → ((j : ℕ) → closes_at closing text j ≡ false) → IsClosed closing text n

-- the first n bytes count as blanks: a blank; a comment // or a directive up to the line's end; a comment /* */ or an
-- attribute (* *), which runs to the end of the text where it isn't closed
pub data IsBlankPart (text : List ℕ) (n : ℕ) : Type 0 where
  Space : (b : ℕ) (bs : List ℕ) → text ≡ b ∷ bs → is_blank b ≡ true → n ≡ 1 → IsBlankPart text n
  LineComment : begins_with_two 47 47 text ≡ true → n ≡ line_len text → IsBlankPart text n
  Directive : begins_directive text ≡ true → n ≡ line_len text → IsBlankPart text n
  Comment : (m : ℕ) (bs : List ℕ) → text ≡ 47 ∷ 42 ∷ bs → IsClosed 47 bs m → n ≡ 2 + m → IsBlankPart text n
  Attribute : (m : ℕ) (bs : List ℕ) → text ≡ 40 ∷ 42 ∷ bs → IsClosed 41 bs m → n ≡ 2 + m → IsBlankPart text n

-- the spans are the tokens of the text
abbrev pub IsTokenSplit : List ℕ → List Span → Type 0
IsTokenSplit text spans = SplitFrom IsBlankPart IsLongestToken text 0 spans

-- no other spans are
abbrev pub OnlyLaw : Type 0
OnlyLaw = (text : List ℕ) (spans : List Span) → IsTokenSplit text spans → spans ≡ verilog_tokens text
