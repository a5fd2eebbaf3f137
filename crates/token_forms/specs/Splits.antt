-- When some spans are the tokens of a text, without saying how they are found. A form of tokens says which fronts of a
-- text, of so many bytes, count as blanks (IsBlank), and which are the longest token there (IsToken).
use Rattle.std.specs.Prelude.{◌≡◌, ℕ, ◌+◌, ◌-◌, ◌<◌, ◌≤◌, List, [], ◌∷◌, length, drop}
use Rattle.base_types.specs.declared.span.Span.{Span}

-- what counts as blanks stands, one behind the other in these lengths, from one place up to another
abbrev pub BlanksOf : (List ℕ → ℕ → Type 0) → List ℕ → ℕ → List ℕ → ℕ → Type 0
BlanksOf IsBlank text from [] to = from ≡ to
BlanksOf IsBlank text from (n ∷ ns) to = IsBlank (drop from text) n × BlanksOf IsBlank text (from + n) ns to

-- from here to there the text is blank
pub record AreBlanks (IsBlank : List ℕ → ℕ → Type 0) (text : List ℕ) (from to : ℕ) : Type 0 where
  pub lengths : List ℕ
  pub each : BlanksOf IsBlank text from lengths to
  pub ordered : from ≤ to

-- the span is in the text, and has the longest token at its place
pub record IsTokenSpan (IsToken : List ℕ → ℕ → Type 0) (text : List ℕ) (s : Span) : Type 0 where
  pub some : s.start < s.end
  pub within : s.end ≤ length text
  pub token : IsToken (drop s.start text) (s.end - s.start)

-- behind a place: the spans in order, and only blanks before the first, between two of them, and behind the last
abbrev pub SplitFrom : (List ℕ → ℕ → Type 0) → (List ℕ → ℕ → Type 0) → List ℕ → ℕ → List Span → Type 0
SplitFrom IsBlank IsToken text at [] = AreBlanks IsBlank text at (length text)
SplitFrom IsBlank IsToken text at (s ∷ ss) = AreBlanks IsBlank text at s.start × IsTokenSpan IsToken text s × SplitFrom IsBlank IsToken text s.end ss
