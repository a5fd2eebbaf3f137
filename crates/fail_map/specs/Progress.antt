-- How far a log is mapped, where some statements of both sets of patterns were passed.
use Rattle.std.specs.Prelude.{◌≡◌, ℕ, ◌+◌, ◌<◌, nat_eq, All, List, length, count_by, slice_index_or, Option, None, Some}
use Rattle.stil_types.specs.declared.statement.ScanCall.{ScanCall}
use Rattle.stil_types.specs.declared.statement.PatternStatement.{PatternStatement}
use Rattle.stil_tester.specs.declared.chains.Chains.{Chains}
use Rattle.stil_tester.specs.Meaning.{Patterns, AllAlike, AllShowSame}
use Rattle.stil_written.specs.Readings.{reading}
use Rattle.retarget.specs.Retargeting.{HaveSameCells}
use Rattle.scan_verify.specs.Patterns.{IsReady}
use Rattle.fail_map.specs.declared.line.LogLine.{LogLine}
use Rattle.fail_map.specs.FailLogs.{IsPlace, patterns_run}
use Rattle.fail_map.specs.Carried.{carried}
use Rattle.fail_map.specs.Numbered.{Numbered, AreInOrder, AreLinesOf, line_at, mapped_at, number_at}

-- the lines of a log in order, for each of them the line that it is carried back to where that is found, and how many scan calls of each Pattern were passed
pub record Progress : Type 0 where
  pub lines : List Numbered
  pub mapped : List (Option LogLine)
  pub counts : List ℕ

-- the lines are in order, their numbers are below their count, and there is a place for what is found for each
pub record IsProgress (state : Progress) : Type 0 where
  pub in_order : AreInOrder state.lines
  pub numbers : (k : ℕ) → k < length state.lines → number_at state.lines k < length state.lines
  pub long : length state.mapped ≡ length state.lines

-- statements on chains
abbrev pub played : Chains → List PatternStatement → Patterns
played chains statements = record { chains = chains; statements = statements }

-- what is known of a line: it names no comparison of the new statements, or it does, and the line that it is carried back to is found
abbrev pub IsFoundIn : Chains → Chains → List PatternStatement → LogLine → Option LogLine → Type 0
IsFoundIn chains others new line None = (call : ScanCall) → IsPlace (played others new) line call → ⊥
IsFoundIn chains others new line (Some mapped) = ((call : ScanCall) × IsPlace (played others new) line call) × (mapped ≡ carried chains others line)

-- how many scan calls of each Pattern the statements run, by its number from 0
abbrev pub AreCountsOf : List PatternStatement → List ℕ → Type 0
AreCountsOf statements counts = (pattern : ℕ) → slice_index_or counts pattern 0 ≡ count_by (nat_eq (pattern + 1)) (patterns_run statements)

-- these statements were passed on chains of the same cells, two by two the same, and of each line of the log it is known whether they have its place
pub record AreMappedSoFar (chains others : Chains) (old new : List PatternStatement) (log : List LogLine) (state : Progress) : Type 0 where
  pub cells : HaveSameCells chains others
  pub old_ready : All (IsReady chains) old
  pub new_ready : All (IsReady others) new
  pub alike : AllAlike reading old new
  pub show_same : AllShowSame chains others old new
  pub lines : AreLinesOf log state.lines
  pub long : length state.mapped ≡ length state.lines
  pub counts : AreCountsOf new state.counts
  pub each : (k : ℕ) → k < length state.lines → IsFoundIn chains others new (line_at state.lines k) (mapped_at state.mapped k)
