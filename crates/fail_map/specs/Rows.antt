-- How the numbers and lines of a log's text are found, from place to place.
use Rattle.std.specs.Prelude.{◌≡◌, ℕ, ◌+◌, ◌-◌, ◌*◌, ◌<◌, ◌≤◌, ⊤, false, List, [], ◌∷◌, ◌++◌, length, drop, decimal}
use Rattle.std.specs.Char.{is_ascii_digit}
use Rattle.fail_map.specs.declared.line.LogLine.{LogLine}
use Rattle.fail_map.specs.Logs.{most_number, IsBlank, IsLogLine, rows_of}

-- the number that digits say behind another one
abbrev pub value_behind : ℕ → List ℕ → ℕ
value_behind number [] = number
value_behind number (digit ∷ digits) = value_behind (number * 10 + (digit - 48)) digits

-- the number that digits say
abbrev pub value_of : List ℕ → ℕ
value_of digits = value_behind 0 digits

-- no digit stands in front
abbrev pub StopsDigits : List ℕ → Type 0
StopsDigits [] = ⊤
StopsDigits (byte ∷ bytes) = is_ascii_digit byte ≡ false

-- a decimal stands in front, of a number that may stand in a log
pub record HasNumber (bytes : List ℕ) : Type 0 where
  pub number : ℕ
  pub tail : List ℕ
  pub small : number ≤ most_number
  pub stops : StopsDigits tail
  pub is : bytes ≡ decimal number ++ tail

-- and a blank before it
pub record HasNumberBehind (bytes : List ℕ) : Type 0 where
  pub blank : ℕ
  pub is_blank : IsBlank blank
  pub rest : List ℕ
  pub is : bytes ≡ blank ∷ rest
  pub number : HasNumber rest

-- that decimal stands from a place on up to another one
pub record IsNumberAt (bytes : List ℕ) (at number end : ℕ) : Type 0 where
  pub some : at < end
  pub within : end ≤ length bytes
  pub small : number ≤ most_number
  pub stops : StopsDigits (drop end bytes)
  pub is : drop at bytes ≡ decimal number ++ drop end bytes

-- and so it does behind a blank
pub record IsNumberBehind (bytes : List ℕ) (at number end : ℕ) : Type 0 where
  pub some : at < end
  pub within : end ≤ length bytes
  pub small : number ≤ most_number
  pub stops : StopsDigits (drop end bytes)
  pub blank : ℕ
  pub is_blank : IsBlank blank
  pub is : drop at bytes ≡ blank ∷ decimal number ++ drop end bytes

-- a line feed stands in front, or nothing
abbrev pub EndsRow : List ℕ → Type 0
EndsRow [] = ⊤
EndsRow (byte ∷ bytes) = byte ≡ 10

-- a line of a log stands in front
pub record HasRow (bytes : List ℕ) : Type 0 where
  pub line : LogLine
  pub row : List ℕ
  pub says : IsLogLine row line
  pub tail : List ℕ
  pub ends : EndsRow tail
  pub is : bytes ≡ row ++ tail

-- that line stands from a place on up to another one
pub record IsRowAt (bytes : List ℕ) (at : ℕ) (line : LogLine) (end : ℕ) : Type 0 where
  pub some : at < end
  pub within : end ≤ length bytes
  pub row : List ℕ
  pub says : IsLogLine row line
  pub ends : EndsRow (drop end bytes)
  pub is : drop at bytes ≡ row ++ drop end bytes

-- these rows say these lines, one for one
abbrev pub SayLines : List (List ℕ) → List LogLine → Type 0
SayLines [] [] = ⊤
SayLines [] (line ∷ log) = ⊥
SayLines (row ∷ rows) [] = ⊥
SayLines (row ∷ rows) (line ∷ log) = IsLogLine row line × SayLines rows log

-- the rows up to a place say these lines
pub record AreReadTo (bytes : List ℕ) (at : ℕ) (log : List LogLine) : Type 0 where
  pub rows : List (List ℕ)
  pub say : SayLines rows log
  pub is : rows_of bytes ≡ rows ++ rows_of (drop at bytes)
