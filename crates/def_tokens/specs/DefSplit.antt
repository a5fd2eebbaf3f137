-- What the tokens of a text of LEF or DEF are, without saying how they are found (LEF/DEF 5.8).
use Rattle.std.specs.Prelude.{◌≡◌, ℕ, ◌+◌, ◌≤◌, Bool, true, false, ◌||◌, not, ◌==◌, List, [], ◌∷◌, length, take, drop}
use Rattle.std.specs.List.{list_all}
use Rattle.base_types.specs.declared.span.Span.{Span}
use Rattle.token_forms.specs.Splits.{SplitFrom}
use Rattle.def_tokens.specs.DefTokens.{is_blank, is_black, len_with, has_end, def_tokens}

-- the first byte is no blank, no # and no quote
abbrev pub begins_run : List ℕ → Bool
begins_run [] = false
begins_run (b ∷ bs) = not (is_blank b || (b == 35 || b == 34))

-- a byte that is no blank stands first
abbrev pub goes_on : List ℕ → Bool
goes_on [] = false
goes_on (b ∷ bs) = is_black b

-- n bytes that aren't blanks, and behind them a blank or the end
pub record IsRun (text : List ℕ) (n : ℕ) : Type 0 where
  pub begins : begins_run text ≡ true
  pub within : n ≤ length text
  pub black : list_all is_black (take n text) ≡ true
  pub ends : goes_on (drop n text) ≡ false

-- the first n bytes count as blanks: a blank, or a comment up to and with the line's end
pub data IsBlankPart (text : List ℕ) (n : ℕ) : Type 0 where
  Space : (b : ℕ) (bs : List ℕ) → text ≡ b ∷ bs → is_blank b ≡ true → n ≡ 1 → IsBlankPart text n
  Comment : (bs : List ℕ) → text ≡ 35 ∷ bs → n ≡ 1 + len_with 10 bs → IsBlankPart text n

-- the first n bytes are the token there: a quoted text up to and with the next quote; a run; or a run without the
-- semicolon that ends it
pub data IsToken (text : List ℕ) (n : ℕ) : Type 0 where
  Quoted : (bs : List ℕ) → text ≡ 34 ∷ bs → n ≡ 1 + len_with 34 bs → IsToken text n
  Whole : IsRun text n → has_end (take n text) ≡ false → IsToken text n
  Before : IsRun text (n + 1) → has_end (take (n + 1) text) ≡ true → IsToken text n

-- the spans are the tokens of the text
abbrev pub IsTokenSplit : List ℕ → List Span → Type 0
IsTokenSplit text spans = SplitFrom IsBlankPart IsToken text 0 spans

-- no other spans are
abbrev pub OnlyLaw : Type 0
OnlyLaw = (text : List ℕ) (spans : List Span) → IsTokenSplit text spans → spans ≡ def_tokens text
