-- The lines of a log in the order of their places, each with its number in the log, from 0.
use Rattle.std.specs.Prelude.{◌≡◌, ◌⊎◌, ℕ, ◌+◌, ◌<◌, ◌≤◌, nat_lt, nat_eq, ◌&&◌, ◌||◌, Bool, min, List, length, map, slice_index_or, Option, None, Some}
use Rattle.std.specs.List.Sorted.{IsPermutation}
use Rattle.fail_map.specs.declared.line.LogLine.{LogLine}
use Rattle.fail_map.specs.FailLogs.{ComesBefore}

-- a line with its number
abbrev pub Numbered : Type 0
Numbered = LogLine × ℕ

-- what is read where there is no line
abbrev pub no_line : LogLine
no_line = record { pattern = 0; scan = 0; chain = 0; index = 0 }

-- a line of a log
abbrev pub line_of : List LogLine → ℕ → LogLine
line_of log k = slice_index_or log k no_line

-- one of a list of them
abbrev pub numbered_at : List Numbered → ℕ → Numbered
numbered_at lines k = slice_index_or lines k (no_line, 0)

-- its line
abbrev pub line_at : List Numbered → ℕ → LogLine
line_at lines k = (numbered_at lines k).0

-- its number
abbrev pub number_at : List Numbered → ℕ → ℕ
number_at lines k = (numbered_at lines k).1

-- one comes before the other: by its place, and of equal ones by its number
abbrev pub StandsBefore : Numbered → Numbered → Type 0
StandsBefore a b = ComesBefore a.0 b.0 ⊎ ((a.0 ≡ b.0) × (a.1 < b.1))

-- each comes before those behind it
abbrev pub AreInOrder : List Numbered → Type 0
AreInOrder lines = (j k : ℕ) → j < k → k < length lines → StandsBefore (numbered_at lines j) (numbered_at lines k)

-- the lines of a log with their numbers, in order
pub record AreLinesOf (log : List LogLine) (lines : List Numbered) : Type 0 where
  pub count : length lines ≡ length log
  pub within : (k : ℕ) → k < length lines → number_at lines k < length log
  pub is : (k : ℕ) → k < length lines → line_of log (number_at lines k) ≡ line_at lines k
  pub every : (n : ℕ) → n < length log → (k : ℕ) × (k < length lines) × (number_at lines k ≡ n)
  pub in_order : AreInOrder lines
  pub those : IsPermutation log (map (λ line. line.0) lines)

-- a line is one of an earlier scan call than that of this number in this Pattern
abbrev pub IsEarlier : ℕ → ℕ → LogLine → Type 0
IsEarlier pattern scan line = (line.pattern < pattern) ⊎ ((line.pattern ≡ pattern) × (line.scan < scan))

-- whether it is
abbrev pub is_earlier : ℕ → ℕ → LogLine → Bool
is_earlier pattern scan line = nat_lt line.pattern pattern || (nat_eq line.pattern pattern && nat_lt line.scan scan)

-- the least of the numbers of the lines at some places before an end
pub record IsLeastNumber (P : ℕ → Type 0) (lines : List Numbered) (end number : ℕ) : Type 0 where
  pub at : ℕ
  pub within : at < end
  pub holds : P at
  pub is : number_at lines at ≡ number
  pub least : (k : ℕ) → k < end → P k → number ≤ number_at lines k

-- the lesser of two numbers, of which the first may be missing
abbrev pub lesser : Option ℕ → ℕ → ℕ
lesser None number = number
lesser (Some least) number = min least number

-- what was found for a line
abbrev pub mapped_at : List (Option LogLine) → ℕ → Option LogLine
mapped_at mapped k = slice_index_or mapped k None

-- nothing was
abbrev pub IsUnmapped : List (Option LogLine) → ℕ → Type 0
IsUnmapped mapped k = mapped_at mapped k ≡ None

-- a line is equal to the one before it
pub record IsRepeated (lines : List Numbered) (k : ℕ) : Type 0 where
  pub before : ℕ
  pub next : k ≡ before + 1
  pub same : line_at lines before ≡ line_at lines k
