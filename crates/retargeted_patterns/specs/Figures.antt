-- What is counted of patterns that are written for other chains.
use Rattle.std.specs.Prelude.{ℕ, ◌+◌, ◌*◌, List, Option}
use Rattle.stil_types.specs.declared.statement.ScanCall.{ScanCall}
use Rattle.stil_types.specs.declared.statement.BodyStatement.{BodyStatement}
use Rattle.stil_types.specs.declared.statement.PatternStatement.{PatternStatement}
use Rattle.stil_tester.specs.declared.chains.Chains.{Chains}
use Rattle.retarget.specs.Moved.{moved_call}
use Rattle.pattern_laws.specs.Sums.{call_sum, body_sum, statement_sum, calls_in, shifts_read, shifts_written}
use Rattle.retargeted_patterns.specs.declared.figures.PatternFigures.{PatternFigures}

-- nothing was counted
abbrev pub nothing : PatternFigures
nothing = record { calls = 0; shifts_read = 0; shifts_written = 0 }

-- what was counted of both
abbrev pub plus : PatternFigures → PatternFigures → PatternFigures
plus a b = record { calls = a.calls + b.calls; shifts_read = a.shifts_read + b.shifts_read; shifts_written = a.shifts_written + b.shifts_written }

-- what is counted of so many rounds
abbrev pub times : ℕ → PatternFigures → PatternFigures
times count round = record { calls = count * round.calls; shifts_read = count * round.shifts_read; shifts_written = count * round.shifts_written }

-- of a scan call: it is one, and shifts so often as it is read, and so often once it is moved
abbrev pub call_figures : Chains → Chains → ScanCall → PatternFigures
call_figures old new call = record { calls = 1; shifts_read = call.shifts; shifts_written = (moved_call old new call).shifts }

-- by a sum over scan calls
abbrev pub figures_by : Chains → Chains → ((ScanCall → ℕ) → ℕ) → PatternFigures
figures_by old new sum = record { calls = sum (λ call. 1); shifts_read = sum (λ call. call.shifts); shifts_written = sum (λ call. (moved_call old new call).shifts) }

-- of a statement in the block of a Loop, by its scan call, where it has one
abbrev pub part_figures : Chains → Chains → Option ScanCall → PatternFigures
part_figures old new call = figures_by old new (λ f. call_sum f call)

-- of one round of the block of a Loop
abbrev pub body_figures : Chains → Chains → List BodyStatement → PatternFigures
body_figures old new body = figures_by old new (λ f. body_sum f body)

-- of a statement, a Loop as often as it runs
abbrev pub statement_figures : Chains → Chains → PatternStatement → PatternFigures
statement_figures old new statement = figures_by old new (λ f. statement_sum f statement)

-- of some statements
abbrev pub figures_of : Chains → Chains → List PatternStatement → PatternFigures
figures_of old new statements = record { calls = calls_in statements; shifts_read = shifts_read statements; shifts_written = shifts_written (moved_call old new) statements }
