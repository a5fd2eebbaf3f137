-- When two sets of patterns are the same but for the data of scan calls that do the same (IEEE 1450-1999, Pattern statements).
use Rattle.std.specs.Prelude.{◌≡◌, ℕ, ◌<◌, ◌^◌, ⊤, nat_eq, min, List, length, take, slice_get, count_by, All, Option, Some, None}
use Rattle.stil_types.specs.declared.statement.ScanCall.{ScanCall}
use Rattle.stil_types.specs.declared.statement.PatternStatement.{PatternStatement}
use Rattle.stil_types.specs.declared.statement.PatternStatement.TheVariants.{Scan, Other, Loop}
use Rattle.stil_types.specs.Statements.{IsPlacedIn}
use Rattle.stil_tester.specs.declared.chains.Chains.{Chains}
use Rattle.stil_tester.specs.Shifting.{IsCallFor}
use Rattle.stil_tester.specs.Meaning.{AreAlike, StatementsShowSame}
use Rattle.stil_written.specs.Readings.{reading}
use Rattle.retarget.specs.Judging.{IsAccepted}

-- a scan call, where there is one, fits the chains and isn't refused
abbrev pub IsReadyCall : Chains → Option ScanCall → Type 0
IsReadyCall chains None = ⊤
IsReadyCall chains (Some call) = IsCallFor chains call × IsAccepted chains call

-- so do those of a statement, whose text is of less than 4 GiB and holds the statements in its block
abbrev pub IsReady : Chains → PatternStatement → Type 0
IsReady chains (Scan pattern text call line) = (length text < 2 ^ 32) × IsReadyCall chains (Some call)
IsReady chains (Other pattern text) = length text < 2 ^ 32
IsReady chains (Loop pattern text times body line) = (length text < 2 ^ 32) × All (IsPlacedIn text) body × All (λ s. IsReadyCall chains s.call) body

-- two statements are alike, and show the same
abbrev pub AreSameStatements : Chains → Chains → PatternStatement → PatternStatement → Type 0
AreSameStatements old new a b = AreAlike reading a b × StatementsShowSame old new a b

-- at a place of two lists stand two such statements, or none in either
abbrev pub IsSamePlace : Chains → Chains → Option PatternStatement → Option PatternStatement → Type 0
IsSamePlace old new None None = ⊤
IsSamePlace old new None (Some b) = ⊥
IsSamePlace old new (Some a) None = ⊥
IsSamePlace old new (Some a) (Some b) = AreSameStatements old new a b

-- the number of a statement's Pattern
abbrev pub pattern_of : PatternStatement → ℕ
pattern_of (Scan pattern text call line) = pattern
pattern_of (Other pattern text) = pattern
pattern_of (Loop pattern text times body line) = pattern

-- the Pattern that differs: that of the one statement, or the first of those of both
abbrev pub differing : Option PatternStatement → Option PatternStatement → ℕ
differing None None = 0
differing None (Some b) = pattern_of b
differing (Some a) None = pattern_of a
differing (Some a) (Some b) = min (pattern_of a) (pattern_of b)

-- the first place of two lists at which the statements aren't the same, with the Pattern that differs there, and how many of its statements stand before
pub record IsDifference (old new : Chains) (a b : List PatternStatement) (pattern place : ℕ) : Type 0 where
  pub at : ℕ
  pub before : (k : ℕ) → k < at → IsSamePlace old new (slice_get a k) (slice_get b k)
  pub differs : ¬ IsSamePlace old new (slice_get a at) (slice_get b at)
  pub pattern_is : pattern ≡ differing (slice_get a at) (slice_get b at)
  pub place_is : place ≡ count_by (λ s. nat_eq pattern (pattern_of s)) (take at a)
