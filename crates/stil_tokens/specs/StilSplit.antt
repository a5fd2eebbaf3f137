-- What the tokens of a STIL text are, without saying how they are found (IEEE 1450-1999, clause 6).
use Rattle.std.specs.Prelude.{◌≡◌, ℕ, suc, ◌+◌, ◌<◌, ◌≤◌, Bool, true, false, ◌&&◌, ◌||◌, ◌==◌, List, [], ◌∷◌, length, take, drop, slice_index}
use Rattle.std.specs.List.{list_all}
use Rattle.base_types.specs.declared.span.Span.{Span}
use Rattle.token_forms.specs.Splits.{SplitFrom}
use Rattle.stil_tokens.specs.StilTokens.{is_blank, is_quote, is_mark, is_run, quoted_len, line_len, stil_tokens}

-- these two bytes stand first
abbrev pub begins_with_two : ℕ → ℕ → List ℕ → Bool
begins_with_two first second [] = false
begins_with_two first second (b ∷ []) = false
begins_with_two first second (b ∷ c ∷ bs) = b == first && c == second

-- a comment begins
abbrev pub begins_comment : List ℕ → Bool
begins_comment text = begins_with_two 47 47 text || begins_with_two 47 42 text

-- a byte of a run stands first
abbrev pub goes_on : List ℕ → Bool
goes_on [] = false
goes_on (b ∷ bs) = is_run b

-- at a place stand a * and this byte
abbrev pub closes_at : ℕ → List ℕ → ℕ → Bool
closes_at closing text i = slice_index text i == 42 && slice_index text (suc i) == closing

-- behind an opening: the bytes up to and with the first * before this byte, or all where there is none
pub data IsClosed (closing : ℕ) (text : List ℕ) (n : ℕ) : Type 0 where
  Closed : (i : ℕ) → n ≡ suc (suc i) → closes_at closing text i ≡ true → ((j : ℕ) → j < i → closes_at closing text j ≡ false) → IsClosed closing text n
  Unclosed : n ≡ length text → ((j : ℕ) → closes_at closing text j ≡ false) → IsClosed closing text n

-- one or more bytes of a run, and behind them another byte or the end
pub record IsRun (text : List ℕ) (n : ℕ) : Type 0 where
  pub some : 0 < n
  pub within : n ≤ length text
  pub each : list_all is_run (take n text) ≡ true
  pub ends : goes_on (drop n text) ≡ false

-- the first n bytes count as blanks: a blank, a comment // up to the line's end, or a comment /* */
pub data IsBlankPart (text : List ℕ) (n : ℕ) : Type 0 where
  Space : (b : ℕ) (bs : List ℕ) → text ≡ b ∷ bs → is_blank b ≡ true → n ≡ 1 → IsBlankPart text n
  LineComment : (bs : List ℕ) → text ≡ 47 ∷ 47 ∷ bs → n ≡ 2 + line_len bs → IsBlankPart text n
  Comment : (m : ℕ) (bs : List ℕ) → text ≡ 47 ∷ 42 ∷ bs → IsClosed 47 bs m → n ≡ 2 + m → IsBlankPart text n

-- the first n bytes are the token there: a text up to and with the quote that it begins with; an annotation; a mark that
-- begins none; or a run that begins no comment
pub data IsToken (text : List ℕ) (n : ℕ) : Type 0 where
  Quoted : (quote : ℕ) (bs : List ℕ) → text ≡ quote ∷ bs → is_quote quote ≡ true → n ≡ 1 + quoted_len quote bs → IsToken text n
  Note : (m : ℕ) (bs : List ℕ) → text ≡ 123 ∷ 42 ∷ bs → IsClosed 125 bs m → n ≡ 2 + m → IsToken text n
  Mark : (b : ℕ) (bs : List ℕ) → text ≡ b ∷ bs → is_mark b ≡ true → begins_with_two 123 42 text ≡ false → n ≡ 1 → IsToken text n
  Run : IsRun text n → begins_comment text ≡ false → IsToken text n

-- the spans are the tokens of the text
abbrev pub IsTokenSplit : List ℕ → List Span → Type 0
IsTokenSplit text spans = SplitFrom IsBlankPart IsToken text 0 spans

-- no other spans are
abbrev pub OnlyLaw : Type 0
OnlyLaw = (text : List ℕ) (spans : List Span) → IsTokenSplit text spans → spans ≡ stil_tokens text
