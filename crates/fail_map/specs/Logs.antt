-- The text of a log of fails: a line for each, of four decimals with one blank between two.
use Rattle.std.specs.Prelude.{◌≡◌, ◌⊎◌, ℕ, ◌+◌, ◌≤◌, ◌==◌, if◌then◌else◌, List, [], ◌∷◌, ◌++◌, length, decimal, slice_get, Some}
use Rattle.std.specs.List.{flat_map}
use Rattle.base_types.specs.Faults.{at_line}
use Rattle.base_types.specs.declared.fault.Fault.{Fault}
use Rattle.base_types.specs.declared.fault.FileKind.TheVariants.{Log}
use Rattle.base_types.specs.declared.kind.Kind.TheVariants.{LogSyntax}
use Rattle.fail_map.specs.declared.line.LogLine.{LogLine}

-- the greatest number that may stand in a log
abbrev pub most_number : ℕ
most_number = 9223372036854775807

-- no number of a line is greater
pub record HasSmallNumbers (line : LogLine) : Type 0 where
  pub pattern : line.pattern ≤ most_number
  pub scan : line.scan ≤ most_number
  pub chain : line.chain ≤ most_number
  pub index : line.index ≤ most_number

-- the numbers of a line, decimals without a sign or a leading zero, with these bytes between them
abbrev pub parted : ℕ → ℕ → ℕ → LogLine → List ℕ
parted first second third line = decimal line.pattern ++ first ∷ decimal line.scan ++ second ∷ decimal line.chain ++ third ∷ decimal line.index

-- the bytes of a line as it is written, without its line feed: with spaces
abbrev pub row_of : LogLine → List ℕ
row_of line = parted 32 32 32 line

-- the text of a log as it is written, each line with its line feed
abbrev pub log_text : List LogLine → List ℕ
log_text log = flat_map (λ line. row_of line ++ 10 ∷ []) log

-- a byte in front of the first of some rows
abbrev pub with_byte : ℕ → List (List ℕ) → List (List ℕ)
with_byte byte [] = (byte ∷ []) ∷ []
with_byte byte (row ∷ rows) = (byte ∷ row) ∷ rows

-- the lines of a text, each without its line feed, which the last one may lack; an empty text has none
abbrev pub rows_of : List ℕ → List (List ℕ)
rows_of [] = []
rows_of (byte ∷ bytes) = if byte == 10 then [] ∷ rows_of bytes else with_byte byte (rows_of bytes)

-- a space or a tab
abbrev pub IsBlank : ℕ → Type 0
IsBlank byte = (byte ≡ 32) ⊎ (byte ≡ 9)

-- these bytes say this line: one blank stands between two of its numbers
pub record IsLogLine (row : List ℕ) (line : LogLine) : Type 0 where
  pub first : ℕ
  pub second : ℕ
  pub third : ℕ
  pub blanks : IsBlank first × IsBlank second × IsBlank third
  pub is : row ≡ parted first second third line
  pub small : HasSmallNumbers line

-- the text says these lines, one after the other
pub record IsLogText (text : List ℕ) (log : List LogLine) : Type 0 where
  pub count : length log ≡ length (rows_of text)
  pub each : (k : ℕ) (row : List ℕ) (line : LogLine) → slice_get (rows_of text) k ≡ Some row → slice_get log k ≡ Some line → IsLogLine row line

-- LogSyntax: a line isn't of this form
pub record HoldsInLog (text : List ℕ) (fault : Fault) : Type 0 where
  pub at : ℕ
  pub row : List ℕ
  pub there : slice_get (rows_of text) at ≡ Some row
  pub no_line : (line : LogLine) → IsLogLine row line → ⊥
  pub is : fault ≡ at_line LogSyntax Log (at + 1)
