-- How two sets of patterns compare.
use Rattle.std.specs.Prelude.{◌≡◌, ◌≢◌, ℕ, ◌<◌, ◌≤◌, List, length, slice_get}
use Rattle.stil_types.specs.declared.statement.PatternStatement.{PatternStatement}
use Rattle.stil_tester.specs.declared.chains.Chains.{Chains}
use Rattle.stil_tester.specs.Meaning.{AllAlike, AllShowSame}
use Rattle.scan_verify.specs.declared.patterns.Sameness.{Sameness}
use Rattle.scan_verify.specs.declared.patterns.Sameness.TheVariants.{Same, Patterns, At}
use Rattle.stil_written.specs.Readings.{reading}
use Rattle.scan_verify.specs.Patterns.{IsSamePlace, IsDifference}

-- a place before which all is the same: behind both lists, or the statements there aren't the same
pub record IsPlace (old new : Chains) (a b : List PatternStatement) (at : ℕ) : Type 0 where
  pub first : at ≤ length a
  pub second : at ≤ length b
  pub before : (k : ℕ) → k < at → IsSamePlace old new (slice_get a k) (slice_get b k)
  pub differs : IsSamePlace old new (slice_get a at) (slice_get b at) → (at ≡ length a) × (at ≡ length b)

-- the names are equal, the statements are alike at each place, and their calls show the same
pub record AreSamePatterns (old new : Chains) (names : List (List ℕ)) (a : List PatternStatement) (others : List (List ℕ)) (b : List PatternStatement) : Type 0 where
  pub names_are : names ≡ others
  pub alike : AllAlike reading a b
  pub show_same : AllShowSame old new a b

-- what each answer says
abbrev pub IsSameness : Chains → Chains → List (List ℕ) → List PatternStatement → List (List ℕ) → List PatternStatement → Sameness → Type 0
IsSameness old new names a others b Same = AreSamePatterns old new names a others b
IsSameness old new names a others b Patterns = names ≢ others
IsSameness old new names a others b (At pattern place) = (names ≡ others) × IsDifference old new a b pattern place
