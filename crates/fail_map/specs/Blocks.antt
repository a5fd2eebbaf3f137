-- The scan calls that a statement runs, round after round (IEEE 1450-1999, Loop).
use Rattle.std.specs.Prelude.{ℕ, ◌-◌, ◌%◌, List, [], ◌∷◌, length, map, slice_index_or, Option, None, Some}
use Rattle.std.specs.Borrow.{Bor}
use Rattle.stil_types.specs.declared.statement.ScanCall.{ScanCall}
use Rattle.stil_types.specs.declared.statement.BodyStatement.{BodyStatement}
use Rattle.stil_types.specs.declared.statement.PatternStatement.{PatternStatement}
use Rattle.stil_types.specs.declared.statement.PatternStatement.TheVariants.{Scan, Other, Loop}
use Rattle.stil_tester.specs.declared.chains.Chains.{Chains}
use Rattle.stil_tester.specs.Shifting.{IsCallFor}
use Rattle.stil_tester.specs.Meaning.{ShowSame}
use Rattle.retarget.specs.Judging.{IsAccepted}
use Rattle.fail_map.specs.declared.line.LogLine.{LogLine}

-- a scan call, where there is one, in front of others
abbrev pub with_call : Option ScanCall → List ScanCall → List ScanCall
with_call None calls = calls
with_call (Some call) calls = call ∷ calls

-- the scan calls in the block of a Loop
abbrev pub calls_among : List BodyStatement → List ScanCall
calls_among [] = []
calls_among (statement ∷ statements) = with_call statement.call (calls_among statements)

-- the scan calls of one round of a statement
abbrev pub round_calls : PatternStatement → List ScanCall
round_calls (Scan pattern text call line) = call ∷ []
round_calls (Other pattern text) = []
round_calls (Loop pattern text times body line) = calls_among body

-- how many rounds a statement runs
abbrev pub times_of : PatternStatement → ℕ
times_of (Scan pattern text call line) = 1
times_of (Other pattern text) = 1
times_of (Loop pattern text times body line) = times

-- scan calls as the references to them are read
abbrev pub read_calls : List (Bor ScanCall) → List ScanCall
read_calls calls = map (λ call. call.now) calls

-- what is read where there is no scan call
abbrev pub no_call : ScanCall
no_call = record { shifts = 0; loads = []; compares = [] }

-- a scan call by its number, from 0
abbrev pub call_at : List ScanCall → ℕ → ScanCall
call_at calls k = slice_index_or calls k no_call

-- the scan call of a line, where so many of its Pattern run before these, round after round
abbrev pub call_of_round : List ScanCall → ℕ → LogLine → ScanCall
call_of_round calls before line = call_at calls ((line.scan - before - 1) % length calls)

-- two scan calls that aren't refused do the same
pub record AreSameCalls (old new : Chains) (a b : ScanCall) : Type 0 where
  pub old_call : IsCallFor old a
  pub old_accepted : IsAccepted old a
  pub new_call : IsCallFor new b
  pub new_accepted : IsAccepted new b
  pub same : ShowSame old new a b
