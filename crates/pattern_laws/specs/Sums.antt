-- Numbers of scan calls, summed up over a run of patterns.
use Rattle.std.specs.Prelude.{ℕ, ◌+◌, ◌*◌, List, [], ◌∷◌, Option, Some, None}
use Rattle.stil_types.specs.declared.statement.ScanCall.{ScanCall}
use Rattle.stil_types.specs.declared.statement.BodyStatement.{BodyStatement}
use Rattle.stil_types.specs.declared.statement.PatternStatement.{PatternStatement}
use Rattle.stil_types.specs.declared.statement.PatternStatement.TheVariants.{Scan, Other, Loop}
use Rattle.stil_tester.specs.Runs.{Event, Tells, Shifts}

-- over what happens: each scan call as often as it shifts
abbrev pub summed : (ScanCall → ℕ) → List Event → ℕ
summed f [] = 0
summed f (Tells telling ∷ events) = summed f events
summed f (Shifts call ∷ events) = f call + summed f events

-- of a scan call, where there is one
abbrev pub call_sum : (ScanCall → ℕ) → Option ScanCall → ℕ
call_sum f None = 0
call_sum f (Some call) = f call

-- over the block of a Loop, once
abbrev pub body_sum : (ScanCall → ℕ) → List BodyStatement → ℕ
body_sum f [] = 0
body_sum f (b ∷ bs) = call_sum f b.call + body_sum f bs

-- of a statement
abbrev pub statement_sum : (ScanCall → ℕ) → PatternStatement → ℕ
statement_sum f (Scan pattern text call line) = f call
statement_sum f (Other pattern text) = 0
statement_sum f (Loop pattern text times body line) = times * body_sum f body

-- of some statements
abbrev pub sum_of : (ScanCall → ℕ) → List PatternStatement → ℕ
sum_of f [] = 0
sum_of f (s ∷ ss) = statement_sum f s + sum_of f ss

-- how many scan calls are run
abbrev pub calls_in : List PatternStatement → ℕ
calls_in statements = sum_of (λ call. 1) statements

-- how often the calls shift as they are read
abbrev pub shifts_read : List PatternStatement → ℕ
shifts_read statements = sum_of (λ call. call.shifts) statements

-- how often they shift once each is moved to other chains
abbrev pub shifts_written : (ScanCall → ScanCall) → List PatternStatement → ℕ
shifts_written move statements = sum_of (λ call. (move call).shifts) statements
