-- The fails of a run of patterns, as a tester logs them.
use Rattle.std.specs.Prelude.{◌≡◌, ◌↔◌, ◌⊎◌, ℕ, ◌+◌, ◌<◌, ⊤, nat_eq, List, [], ◌∷◌, length, replicate, take, count_by, Contains, slice_get, Some}
use Rattle.std.specs.List.{flat_map}
use Rattle.stil_types.specs.declared.statement.ScanCall.{ScanCall}
use Rattle.stil_types.specs.declared.statement.PatternStatement.{PatternStatement}
use Rattle.stil_tester.specs.declared.symbol.Symbol.{Symbol}
use Rattle.stil_tester.specs.declared.chains.Chains.{Chains}
use Rattle.stil_tester.specs.Shifting.{scan_call}
use Rattle.stil_tester.specs.Runs.{Event, Tells, Shifts, Answer, events_of, all_events}
use Rattle.stil_tester.specs.Meaning.{Patterns}
use Rattle.scan_verify.specs.Patterns.{pattern_of}
use Rattle.fail_map.specs.declared.line.LogLine.{LogLine}
use Rattle.fail_map.specs.Fails.{Fails, IsCompared}

-- the scan calls that events run, one after the other
abbrev pub calls_in : List Event → List ScanCall
calls_in [] = []
calls_in (Tells telling ∷ events) = calls_in events
calls_in (Shifts call ∷ events) = call ∷ calls_in events

-- for each scan call that statements run the number of its Pattern, from 1
abbrev pub patterns_run : List PatternStatement → List ℕ
patterns_run statements = flat_map (λ statement. replicate (length (calls_in (events_of statement))) (pattern_of statement + 1)) statements

-- a scan call of all that statements run, from 0, is that of this number in this Pattern, both from 1
pub record IsScanOf (statements : List PatternStatement) (at pattern scan : ℕ) : Type 0 where
  pub of_pattern : slice_get (patterns_run statements) at ≡ Some pattern
  pub number : scan ≡ count_by (nat_eq pattern) (take at (patterns_run statements)) + 1

-- the cells before the shifts of each scan call that events run
abbrev pub cells_run : Chains → List Event → List Symbol → List Answer → List (List Symbol)
cells_run chains [] cells answers = []
cells_run chains (Tells telling ∷ events) cells [] = []
cells_run chains (Tells telling ∷ events) cells (answer ∷ answers) = cells_run chains events answer.cells answers
cells_run chains (Shifts call ∷ events) cells answers = cells ∷ cells_run chains events (scan_call chains cells call).loaded answers

-- a line names a comparison of patterns, of a scan call: its Pattern, its number there and its chain from 1, and the index of the compare from 0
pub record IsPlace (p : Patterns) (line : LogLine) (call : ScanCall) : Type 0 where
  pub at : ℕ
  pub scan_is : IsScanOf p.statements at line.pattern line.scan
  pub call_is : slice_get (calls_in (all_events p.statements)) at ≡ Some call
  pub chain : ℕ
  pub chain_is : line.chain ≡ chain + 1
  pub compared : IsCompared p.chains call chain line.index

-- it names a comparison that isn't met in a run from these cells and with these answers of a device
pub record IsFail (p : Patterns) (cells : List Symbol) (answers : List Answer) (line : LogLine) : Type 0 where
  pub at : ℕ
  pub scan_is : IsScanOf p.statements at line.pattern line.scan
  pub call : ScanCall
  pub call_is : slice_get (calls_in (all_events p.statements)) at ≡ Some call
  pub before : List Symbol
  pub before_is : slice_get (cells_run p.chains (all_events p.statements) cells answers) at ≡ Some before
  pub chain : ℕ
  pub chain_is : line.chain ≡ chain + 1
  pub fails : Fails p.chains before call chain line.index

-- the order of lines: by pattern, scan, chain and index
abbrev pub ComesBefore : LogLine → LogLine → Type 0
ComesBefore a b =
    (a.pattern < b.pattern) ⊎ ((a.pattern ≡ b.pattern) × (a.scan < b.scan)) ⊎ ((a.pattern ≡ b.pattern) × (a.scan ≡ b.scan) × (a.chain < b.chain))
    ⊎ ((a.pattern ≡ b.pattern) × (a.scan ≡ b.scan) × (a.chain ≡ b.chain) × (a.index < b.index))

-- lines in strictly rising order
abbrev pub AreRising : List LogLine → Type 0
AreRising [] = ⊤
AreRising (a ∷ []) = ⊤
AreRising (a ∷ b ∷ lines) = ComesBefore a b × AreRising (b ∷ lines)

-- the log of a run: exactly the comparisons that aren't met, in rising order
pub record IsFailLog (p : Patterns) (cells : List Symbol) (answers : List Answer) (log : List LogLine) : Type 0 where
  pub rising : AreRising log
  pub each : (line : LogLine) → Contains log line ↔ IsFail p cells answers line
