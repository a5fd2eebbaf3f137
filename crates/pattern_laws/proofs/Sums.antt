-- What is summed up over a run, by its statements.
use Rattle.std.proofs.Common.{◌≡◌, ℕ, zero, suc, ◌+◌, ◌*◌, List, [], ◌∷◌, ◌++◌, Option, Some, None, refl, ap, ◌∙◌, arith}
use Rattle.stil_types.specs.declared.statement.ScanCall.{ScanCall}
use Rattle.stil_types.specs.declared.statement.BodyStatement.{BodyStatement}
use Rattle.stil_types.specs.declared.statement.PatternStatement.{PatternStatement}
use Rattle.stil_types.specs.declared.statement.PatternStatement.TheVariants.{Scan, Other, Loop}
use Rattle.stil_tester.specs.Runs.{Event, Tells, Shifts, bytes_in, run_of, round_of, times_over, events_in, events_of, all_events}
use Rattle.pattern_laws.specs.Sums.{summed, call_sum, body_sum, statement_sum}
use Rattle.pattern_laws.specs.Laws.{SumsLaw}

module _ (f : ScanCall → ℕ) where
  append_sum : (xs ys : List Event) → summed f (xs ++ ys) ≡ summed f xs + summed f ys
  append_sum [] ys = omega arith
  append_sum (Tells t ∷ xs) ys = append_sum xs ys
  append_sum (Shifts c ∷ xs) ys = omega (arith, append_sum xs ys)

  runs_sum : (rs ss : List (List Event)) → summed f (events_in (rs ++ ss)) ≡ summed f (events_in rs) + summed f (events_in ss)
  runs_sum [] ss = omega arith
  runs_sum (r ∷ rs) ss = omega (arith, append_sum r (events_in (rs ++ ss)), append_sum r (events_in rs), runs_sum rs ss)

  run_sum : (text : List ℕ) (o : Option ScanCall) → summed f (run_of text o) ≡ call_sum f o
  run_sum text None = refl
  run_sum text (Some c) = omega arith

  round_sum : (text : List ℕ) (body : List BodyStatement) → summed f (events_in (round_of text body)) ≡ body_sum f body
  round_sum text [] = refl
  round_sum text (b ∷ bs) = omega (arith, append_sum (run_of (bytes_in text b) b.call) (events_in (round_of text bs)), run_sum (bytes_in text b) b.call, round_sum text bs)

  product : (n m : ℕ) → m + n * m ≡ suc n * m
  product n m = grind arith

  times_sum : (n : ℕ) (rs : List (List Event)) → summed f (events_in (times_over n rs)) ≡ n * summed f (events_in rs)
  times_sum zero rs = grind arith
  times_sum (suc n) rs = runs_sum rs (times_over n rs) ∙ ap (λ (k : ℕ). summed f (events_in rs) + k) (times_sum n rs) ∙ product n (summed f (events_in rs))

  one_sum : (s : PatternStatement) → summed f (events_of s) ≡ statement_sum f s
  one_sum (Scan pattern text call line) = omega (arith, append_sum (run_of text (Some call)) [], run_sum text (Some call))
  one_sum (Other pattern text) = refl
  one_sum (Loop pattern text times body line) = times_sum times (round_of text body) ∙ ap (λ (k : ℕ). times * k) (round_sum text body)

pub sums_law : SumsLaw
sums_law f [] = refl
sums_law f (s ∷ ss) = omega (arith, append_sum f (events_of s) (all_events ss), one_sum f s, sums_law f ss)
