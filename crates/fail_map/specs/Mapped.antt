-- A log of fails of one set of patterns, carried back to another one that does the same; and what may be wrong with its lines.
use Rattle.std.specs.Prelude.{◌≡◌, ◌↔◌, ℕ, ◌+◌, ◌<◌, List, length, Contains, slice_get, Some}
use Rattle.base_types.specs.Faults.{at_line}
use Rattle.base_types.specs.declared.fault.Fault.{Fault}
use Rattle.base_types.specs.declared.fault.FileKind.TheVariants.{Log}
use Rattle.base_types.specs.declared.kind.Kind.TheVariants.{LogPlace, LogTwice}
use Rattle.stil_types.specs.declared.statement.ScanCall.{ScanCall}
use Rattle.stil_tester.specs.declared.symbol.Symbol.{Symbol}
use Rattle.stil_tester.specs.Shifting.{HasCells}
use Rattle.stil_tester.specs.Runs.{Answer, AreAnswersFor}
use Rattle.stil_tester.specs.Meaning.{Patterns}
use Rattle.fail_map.specs.declared.line.LogLine.{LogLine}
use Rattle.fail_map.specs.FailLogs.{IsPlace, IsFail, AreRising, IsFailLog}

-- A line names no comparison of the patterns, or one whose expectation is X; or it stood before.
pub data HoldsInLines (p : Patterns) (log : List LogLine) (fault : Fault) : Type 0 where
  NoPlace : (at : ℕ) (line : LogLine) → slice_get log at ≡ Some line → ((call : ScanCall) → IsPlace p line call → ⊥) → fault ≡ at_line LogPlace Log (at + 1) → HoldsInLines p log fault
  Twice : (before at : ℕ) (line : LogLine) → before < at → slice_get log before ≡ Some line → slice_get log at ≡ Some line → fault ≡ at_line LogTwice Log (at + 1) → HoldsInLines p log fault

-- one line stands for another: from whatever cells and with whatever answers the one is a fail of the first patterns exactly where the other
-- is one of the second
abbrev pub StandsFor : Patterns → Patterns → LogLine → LogLine → Type 0
StandsFor first second a b =
    (cells : List Symbol) (answers : List Answer) → HasCells first.chains cells → AreAnswersFor first.chains first.statements answers → IsFail first cells answers a ↔ IsFail second cells answers b

-- each line of a log has a mapped line of its own that stands for it
pub record HaveOwnLines (first second : Patterns) (log mapped : List LogLine) : Type 0 where
  pub own : ℕ → ℕ
  pub apart : (j k : ℕ) → j < length log → k < length log → own j ≡ own k → j ≡ k
  pub within : (k : ℕ) → k < length log → own k < length mapped
  pub stands : (k : ℕ) (b a : LogLine) → slice_get log k ≡ Some b → slice_get mapped (own k) ≡ Some a → StandsFor first second a b

-- where the lines of a log are those of the log of a run of the second patterns, in any order, the mapped ones are the log of that run of the first
abbrev pub MapsWholeLogs : Patterns → Patterns → List LogLine → List LogLine → Type 0
MapsWholeLogs first second log mapped =
    (cells : List Symbol) (answers : List Answer) → HasCells first.chains cells → AreAnswersFor first.chains first.statements answers
    → ((line : LogLine) → Contains log line ↔ IsFail second cells answers line) → IsFailLog first cells answers mapped

-- the log of the first patterns that a log of the second ones stands for
pub record IsMappedLog (first second : Patterns) (log mapped : List LogLine) : Type 0 where
  pub count : length mapped ≡ length log
  pub rising : AreRising mapped
  pub own_lines : HaveOwnLines first second log mapped
  pub whole : MapsWholeLogs first second log mapped
