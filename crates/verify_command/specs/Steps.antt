-- Two texts of patterns, taken statement by statement beside each other.
use Rattle.std.specs.Prelude.{◌≡◌, ℕ, ◌<◌, nat_eq, List, [], ◌∷◌, drop, take, length, count_by, slice_get, Option, Some, None, IfSome}
use Rattle.stil_types.specs.declared.statement.PatternStatement.{PatternStatement}
use Rattle.stil_reader.specs.Cursors.{Ahead, IsReadable}
use Rattle.stil_tester.specs.declared.chains.Chains.{Chains}
use Rattle.stil_tester.specs.Meaning.{Patterns, HaveSameMeaning}
use Rattle.stil_written.specs.Readings.{reading}
use Rattle.scan_verify.specs.Patterns.{IsReady, IsSamePlace, IsDifference, differing, pattern_of}
use Rattle.same_files.specs.Sets.{ReadSet, meant_by}
use Rattle.same_files.specs.Cells.{HaveSameScanCells}
use Rattle.path_chains.specs.Ranked.{bits_of_all}
use Rattle.verify_command.specs.declared.places.Difference.{Difference}
use Rattle.verify_command.specs.declared.places.Place.{Place}
use Rattle.verify_command.specs.declared.statement_notes.Unlike.{Unlike}

-- names were passed, and no statement
pub record Passes (old new : Ahead) : Type 0 where
  pub head : new.head ≡ old.head
  pub statements : new.statements ≡ old.statements
  pub sound : new.fault ≡ None

-- the statement comes first of those that are left, and the others are left behind it
pub record TakesStatement (old : Ahead) (statement : PatternStatement) (new : Ahead) : Type 0 where
  pub first : old.statements ≡ statement ∷ new.statements
  pub head : new.head ≡ old.head
  pub sound : new.fault ≡ None
  pub readable : IsReadable old.head statement

-- the next statement, or none is left
abbrev pub TakesNext : Ahead → Option PatternStatement → Ahead → Type 0
TakesNext old None new = old.statements ≡ []
TakesNext old (Some statement) new = TakesStatement old statement new

-- the first place of two lists at which the statements aren't the same, with the Pattern that differs there
pub record DiffersAt (old new : Chains) (a b : List PatternStatement) (d : Difference) : Type 0 where
  pub before : (k : ℕ) → k < d.at → IsSamePlace old new (slice_get a k) (slice_get b k)
  pub differs : ¬ IsSamePlace old new (slice_get a d.at) (slice_get b d.at)
  pub pattern_is : d.pattern ≡ differing (slice_get a d.at) (slice_get b d.at)

-- the first difference, or all places are the same
abbrev pub IsFound : Chains → Chains → List PatternStatement → List PatternStatement → Option Difference → Type 0
IsFound old new a b None = (k : ℕ) → IsSamePlace old new (slice_get a k) (slice_get b k)
IsFound old new a b (Some d) = DiffersAt old new a b d

-- so many statements of both are the same, and these are left
pub record AreSameUpTo (old new : Chains) (a b : List PatternStatement) (at : ℕ) (more others : List PatternStatement) : Type 0 where
  pub before : (k : ℕ) → k < at → IsSamePlace old new (slice_get a k) (slice_get b k)
  pub first : drop at a ≡ more
  pub second : drop at b ≡ others

-- so many statements of both are the same, and those behind them are left
pub record AreBeside (chains others : Chains) (old new : Ahead) (at : ℕ) (more rest : Ahead) : Type 0 where
  pub same : AreSameUpTo chains others old.statements new.statements at more.statements rest.statements
  pub old_head : more.head ≡ old.head
  pub new_head : rest.head ≡ new.head
  pub old_sound : more.fault ≡ None
  pub new_sound : rest.fault ≡ None

-- so many statements were passed, of which so many are of a Pattern
pub record AreCounted (pattern : ℕ) (all : Ahead) (passed count : ℕ) (more : Ahead) : Type 0 where
  pub is : count ≡ count_by (λ s. nat_eq pattern (pattern_of s)) (take passed all.statements)
  pub left : drop passed all.statements ≡ more.statements
  pub sound : more.fault ≡ None

-- the first difference, with how many statements of its Pattern stand before; or all places are the same
abbrev pub IsPlaceOf : Patterns → Patterns → Option Place → Type 0
IsPlaceOf old new None = (k : ℕ) → IsSamePlace old.chains new.chains (slice_get old.statements k) (slice_get new.statements k)
IsPlaceOf old new (Some p) = IsDifference old.chains new.chains old.statements new.statements p.pattern p.before

-- two sets have as many chains, and the same scan cells
abbrev pub AreAlikeSets : ReadSet → ReadSet → Type 0
AreAlikeSets a b = (length a.bits ≡ length b.bits) × HaveSameScanCells a.netlist b.netlist (bits_of_all a.bits) (bits_of_all b.bits)

-- two sets, each with its text of patterns, are the same: their cells are alike, and their patterns have the same meaning
pub record AreSameSets (old : ReadSet) (stil : List ℕ) (new : ReadSet) (new_stil : List ℕ) : Type 0 where
  pub cells : AreAlikeSets old new
  pub meaning : HaveSameMeaning reading (meant_by old stil) (meant_by new new_stil)

-- the patterns go on, and nothing is wrong with what is left of them
pub record GoOn (first left : Ahead) : Type 0 where
  pub head : left.head ≡ first.head
  pub sound : left.fault ≡ None

-- the statements that differ fit the chains
pub record AreReady (old new : Chains) (u : Unlike) : Type 0 where
  pub first : IfSome u.old (IsReady old)
  pub second : IfSome u.new (IsReady new)
