-- What stands before and behind some tokens of a Verilog text that are replaced: nothing else changes.
use Rattle.std.specs.Prelude.{◌≡◌, ℕ, Bool, false, true, ◌&&◌, ◌||◌, not, nat_lt, ◌==◌, List, [], ◌∷◌, ◌++◌, length, take, drop}
use Rattle.std.specs.List.{list_all, prefix_len}
use Rattle.base_types.specs.declared.span.Span.{Span}
use Rattle.token_forms.specs.Runs.{bytes_of, texts_of, IsRun}
use Rattle.verilog_syntax.specs.VerilogTokens.{is_blank, is_digit, is_word_start, is_word, texts, verilog_tokens}

-- ( ) [ ] { } , ; : . =
abbrev pub is_mark : ℕ → Bool
is_mark m = m == 40 || (m == 41 || (m == 91 || (m == 93 || (m == 123 || (m == 125 || (m == 44 || (m == 59 || (m == 58 || (m == 46 || m == 61)))))))))

-- the token is a mark
pub record IsMarkAt (text : List ℕ) (s : Span) : Type 0 where
  pub mark : ℕ
  pub is : is_mark mark ≡ true
  pub only : bytes_of text s ≡ mark ∷ []

-- a text that begins with a byte that is no blank and no star, so that it joins no blank and no mark before it
pub record Starts (z : List ℕ) : Type 0 where
  pub first : ℕ
  pub behind : List ℕ
  pub is : z ≡ first ∷ behind
  pub black : is_blank first ≡ false
  pub no_star : (first == 42) ≡ false

-- a new text that has its own tokens wherever no byte behind it goes on with a word
pub record IsReady (new : List ℕ) : Type 0 where
  pub starts : Starts new
  pub goes : (z : List ℕ) → prefix_len is_word z ≡ 0 → texts (new ++ z) ≡ texts new ++ texts z

-- the tokens' bytes are those at their spans
abbrev pub TextsLaw : Type 0
TextsLaw = (text : List ℕ) → texts text ≡ texts_of text (verilog_tokens text)

-- where a ready text replaces the tokens between two marks, its tokens replace theirs, and all others stay
abbrev pub ReplacedLaw : Type 0
ReplacedLaw = (text new : List ℕ) (place : Span) (front : List Span) (mark : Span) (run : List Span) (next : Span) (behind : List Span)
    → verilog_tokens text ≡ front ++ mark ∷ (run ++ next ∷ behind) → IsMarkAt text mark → IsMarkAt text next → IsRun place run next → IsReady new
    → texts (take place.start text ++ (new ++ drop place.end text)) ≡ texts_of text (front ++ mark ∷ []) ++ (texts new ++ texts_of text (next ∷ behind))

-- a plain identifier
abbrev pub is_identifier : List ℕ → Bool
is_identifier [] = false
is_identifier (b ∷ bs) = is_word_start b && list_all is_word bs

-- a name that an escape makes an identifier: bytes that aren't blanks
abbrev pub is_escapable : List ℕ → Bool
is_escapable w = nat_lt 0 (length w) && list_all (λ c. not (is_blank c)) w

-- one digit or more, and nothing else
abbrev pub is_decimal : List ℕ → Bool
is_decimal w = nat_lt 0 (length w) && list_all is_digit w

-- a new text, and its tokens
pub record HasTexts (new : List ℕ) (ws : List (List ℕ)) : Type 0 where
  pub ready : IsReady new
  pub are : texts new ≡ ws

-- a plain identifier is one token, and a bit of it has four
abbrev pub PlainLaw : Type 0
PlainLaw = (w : List ℕ) → is_identifier w ≡ true → HasTexts w (w ∷ [])

-- the text of a bit of a vector with a plain name has these tokens
abbrev pub PlainBitLaw : Type 0
PlainBitLaw = (w d : List ℕ) → is_identifier w ≡ true → is_decimal d ≡ true → HasTexts (w ++ 91 ∷ (d ++ 93 ∷ [])) (w ∷ (91 ∷ []) ∷ d ∷ (93 ∷ []) ∷ [])

-- so it is with an escaped one and the blank behind it
abbrev pub EscapedLaw : Type 0
EscapedLaw = (w : List ℕ) → is_escapable w ≡ true → HasTexts (92 ∷ (w ++ 32 ∷ [])) ((92 ∷ (w ++ 32 ∷ [])) ∷ [])

-- the text of a bit of a vector with an escaped name has these tokens
abbrev pub EscapedBitLaw : Type 0
EscapedBitLaw = (w d : List ℕ) → is_escapable w ≡ true → is_decimal d ≡ true
    → HasTexts (92 ∷ (w ++ 32 ∷ (91 ∷ (d ++ 93 ∷ [])))) ((92 ∷ (w ++ 32 ∷ [])) ∷ (91 ∷ []) ∷ d ∷ (93 ∷ []) ∷ [])
