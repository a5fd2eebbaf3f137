-- Two texts of patterns that are the same, passed pair by pair.
use Rattle.std.specs.Prelude.{◌≡◌, List, [], ◌++◌, None}
use Rattle.stil_types.specs.declared.statement.PatternStatement.{PatternStatement}
use Rattle.stil_reader.specs.Cursors.{Ahead}
use Rattle.stil_tester.specs.declared.chains.Chains.{Chains}
use Rattle.stil_tester.specs.Meaning.{AllAlike, AllShowSame}
use Rattle.stil_written.specs.Readings.{reading}
use Rattle.fail_map.specs.declared.line.LogLine.{LogLine}
use Rattle.fail_map.specs.Progress.{Progress, AreMappedSoFar}

-- some statements of both were passed, by which a log is mapped that was mapped by none when it began; those behind them are left, and are the
-- same pair by pair
pub record ArePassed (chains others : Chains) (old new : Ahead) (begun : Progress) (more rest : Ahead) (state : Progress) : Type 0 where
  pub passed : List PatternStatement
  pub beside : List PatternStatement
  pub old_is : old.statements ≡ passed ++ more.statements
  pub new_is : new.statements ≡ beside ++ rest.statements
  pub old_head : more.head ≡ old.head
  pub new_head : rest.head ≡ new.head
  pub old_sound : more.fault ≡ None
  pub new_sound : rest.fault ≡ None
  pub alike : AllAlike reading more.statements rest.statements
  pub show_same : AllShowSame chains others more.statements rest.statements
  pub mapped : (log : List LogLine) → AreMappedSoFar chains others [] [] log begun → AreMappedSoFar chains others passed beside log state
