-- What `verify` says of two sets of files.
use Rattle.std.specs.Prelude.{◌≡◌, ◌≢◌, ℕ, ◌+◌, List, [], ◌∷◌, ◌++◌, codes, decimal, slice_index_or}
use Rattle.base_types.specs.Names.{plain_name}
use Rattle.stil_tester.specs.Meaning.{PatternText, HaveSameMeaning}
use Rattle.stil_written.specs.Readings.{reading}
use Rattle.scan_verify.specs.Patterns.{IsDifference}
use Rattle.same_files.specs.Sets.{FileSet, IsFileSet}
use Rattle.same_files.specs.Same.{HaveCellsAlike}

-- `same`
abbrev pub same_text : List ℕ
same_text = codes "same" ++ 10 ∷ []

-- `differs` and what does
abbrev pub differs_text : List ℕ → List ℕ
differs_text what = codes "differs " ++ what ++ 10 ∷ []

-- `NAME K`: the plain name of a Pattern, and the place from 1 of a statement among those of this Pattern
abbrev pub place_text : List ℕ → ℕ → List ℕ
place_text name place = plain_name name ++ 32 ∷ decimal (place + 1)

-- What is said of two texts of patterns, whose scan cells are alike or not: `same`, or the first of the others that holds. The heads are
-- compared but for lengths, inversions and cells; K tells of the first statement that differs, or that one text has alone.
pub data Says (old new : PatternText) (alike : Type 0) : List ℕ → Type 0 where
  Same : alike → HaveSameMeaning reading old new → Says old new alike same_text
  Head : old.head ≢ new.head → Says old new alike (differs_text (codes "head"))
  Cells : old.head ≡ new.head → ¬ alike → Says old new alike (differs_text (codes "cells"))
  Patterns : old.head ≡ new.head → alike → old.names ≢ new.names → Says old new alike (differs_text (codes "patterns"))
  At : (pattern place : ℕ) → old.head ≡ new.head → alike → old.names ≡ new.names
      → IsDifference old.played.chains new.played.chains old.played.statements new.played.statements pattern place
      → Says old new alike (differs_text (place_text (slice_index_or old.names pattern []) place))

-- what is said of two sets of files, by one table
pub record IsVerifyText (table verilog stil new_verilog new_stil said : List ℕ) : Type 0 where
  pub old : FileSet
  pub new : FileSet
  pub read : IsFileSet table verilog stil old
  pub again : IsFileSet table new_verilog new_stil new
  pub says : Says old.meant new.meant (HaveCellsAlike old new) said
