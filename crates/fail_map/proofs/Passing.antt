-- How far a log is mapped, one pair of statements after the other.
use Rattle.std.proofs.Common.{◌≡◌, ℕ, ◌+◌, ◌*◌, ◌<◌, ◌≤◌, ◌⊎◌, List, [], ◌∷◌, ◌++◌, length, replicate, get_or, refl, sym, ap, ◌∙◌, arith, subst, inl, inr, ⊎_elim, zero, suc, Option, None}
use Rattle.std.proofs.lemmas.Bool.{cases_lt}
use Rattle.std.proofs.lemmas.List.{length-replicate}
use Rattle.std.proofs.lemmas.List.Elements.{All-append, All-cons, All-nil}
use Rattle.stil_types.specs.declared.statement.ScanCall.{ScanCall}
use Rattle.stil_types.specs.declared.statement.PatternStatement.{PatternStatement}
use Rattle.stil_tester.specs.declared.chains.Chains.{Chains}
use Rattle.stil_tester.specs.Meaning.{AreAlike, AllAlike, StatementsShowSame, AllShowSame}
use Rattle.stil_written.specs.Readings.{reading}
use Rattle.retarget.specs.Retargeting.{HaveSameCells}
use Rattle.scan_verify.specs.Patterns.{IsReady, AreSameStatements, pattern_of}
use Rattle.fail_map.specs.declared.line.LogLine.{LogLine}
use Rattle.fail_map.specs.FailLogs.{IsPlace}
use Rattle.fail_map.specs.Blocks.{call_of_round, round_calls, times_of}
use Rattle.fail_map.specs.Carried.{IsTried}
use Rattle.fail_map.specs.Numbered.{Numbered, AreLinesOf, IsEarlier, line_at, mapped_at}
use Rattle.fail_map.specs.Progress.{Progress, played, IsFoundIn, AreMappedSoFar}
use Rattle.fail_map.proofs.Places.{before_it, counts_more, found_stays, found_tried, in_stretch, not_before_stretch, not_behind_stretch, IsRunHere}

-- ---- at the start

none_there : (n k : ℕ) → mapped_at (replicate n None) k ≡ None
none_there zero k = refl
none_there (suc n) zero = refl
none_there (suc n) (suc k) = none_there n k

pub begun : (chains others : Chains) (log : List LogLine) (lines : List Numbered) → HaveSameCells chains others → AreLinesOf log lines
    → AreMappedSoFar chains others [] [] log (record { lines = lines; mapped = replicate (length lines) None; counts = [] })
begun chains others log lines cells are = record {
  cells = cells;
  old_ready = All-nil (IsReady chains);
  new_ready = All-nil (IsReady others);
  alike = tt;
  show_same = tt;
  lines = are;
  long = length-replicate (length lines) None;
  counts = λ pattern. refl;
  each = λ k l. subst (IsFoundIn chains others [] (line_at lines k)) (sym (none_there (length lines) k)) (λ (call : ScanCall) (p : IsPlace (played others []) (line_at lines k) call). let none = p.call_is in absurd cc);
}

-- ---- a stretch of lines

-- the lines of a stretch are of these scan calls of the Pattern
pub record IsWithin (pattern before behind : ℕ) (line : LogLine) : Type 0 where
  pub pattern_is : line.pattern ≡ pattern
  pub above : before < line.scan
  pub upto : line.scan ≤ behind

pub within_stretch : (pattern before behind : ℕ) (line : LogLine) → (IsEarlier pattern (before + 1) line → ⊥) → IsEarlier pattern (behind + 1) line → IsWithin pattern before behind line
within_stretch pattern before behind line late (inl p) = absurd (late (inl p))
within_stretch pattern before behind line late (inr p) =
    ⊎_elim (λ (l : line.scan < before + 1). absurd (late (inr (p.0, l)))) (λ (g : before + 1 ≤ line.scan). record { pattern_is = p.0; above = omega (arith, g); upto = omega (arith, p.1) }) (cases_lt line.scan (before + 1))

-- a statement with such a line runs a scan call
pub some_calls : (before behind times calls : ℕ) → behind ≡ before + times * calls → before < behind → 0 < calls
some_calls before behind times calls e l =
    ⊎_elim (λ (some : 0 < calls). some)
    (λ (none : calls ≤ 0).
    let zero_calls : calls ≡ 0 = omega (arith, none) in
    let product : times * calls ≡ times * 0 = ap (λ n. times * n) zero_calls in
    absurd (omega (arith, e, l, product)))
    (cases_lt 0 calls)

-- ---- one pair more

alike_push : (as' bs : List PatternStatement) (a b : PatternStatement) → AllAlike reading as' bs → AreAlike reading a b → AllAlike reading (as' ++ a ∷ []) (bs ++ b ∷ [])
alike_push [] [] a b h e = (e, tt)
alike_push [] (y ∷ ys) a b h e = absurd h
alike_push (x ∷ xs) [] a b h e = absurd h
alike_push (x ∷ xs) (y ∷ ys) a b h e = (h.0, alike_push xs ys a b h.1 e)

show_push : (old new : Chains) (as' bs : List PatternStatement) (a b : PatternStatement) → AllShowSame old new as' bs → StatementsShowSame old new a b → AllShowSame old new (as' ++ a ∷ []) (bs ++ b ∷ [])
show_push old new [] [] a b h e = (e, tt)
show_push old new [] (y ∷ ys) a b h e = absurd h
show_push old new (x ∷ xs) [] a b h e = absurd h
show_push old new (x ∷ xs) (y ∷ ys) a b h e = (h.0, show_push old new xs ys a b h.1 e)

-- what a pass of a statement of this Pattern does to the lines and the counts
pub record IsPass (chains others : Chains) (b : PatternStatement) (pattern before behind first end : ℕ) (lines : List Numbered) (mapped mapped' : List (Option LogLine)) (counts counts' : List ℕ) : Type 0 where
  pub count : before ≡ get_or counts pattern 0
  pub runs : behind ≡ before + times_of b * length (round_calls b)
  pub early : (k : ℕ) → k < first → IsEarlier (pattern + 1) (before + 1) (line_at lines k)
  pub not_early : (k : ℕ) → first ≤ k → k < length lines → IsEarlier (pattern + 1) (before + 1) (line_at lines k) → ⊥
  pub inside : (k : ℕ) → k < end → IsEarlier (pattern + 1) (behind + 1) (line_at lines k)
  pub not_inside : (k : ℕ) → end ≤ k → k < length lines → IsEarlier (pattern + 1) (behind + 1) (line_at lines k) → ⊥
  pub long : length mapped' ≡ length lines
  pub outside : (k : ℕ) → k < first ⊎ end ≤ k → mapped_at mapped' k ≡ mapped_at mapped k
  pub tried : (k : ℕ) → first ≤ k → k < end → IsTried chains others (call_of_round (round_calls b) before (line_at lines k)) (line_at lines k) (mapped_at mapped k) (mapped_at mapped' k)
  pub here : get_or counts' pattern 0 ≡ behind
  pub others_stay : (k : ℕ) → (k ≡ pattern → ⊥) → get_or counts' k 0 ≡ get_or counts k 0

module _ (chains others : Chains) (old new : List PatternStatement) (log : List LogLine) (s : Progress) (a b : PatternStatement) (before behind first end : ℕ) (mapped' : List (Option LogLine)) (counts' : List ℕ)
    (far : AreMappedSoFar chains others old new log s) (pass : IsPass chains others b (pattern_of b) before behind first end s.lines s.mapped mapped' s.counts counts') where
  before_is : before ≡ before_it new b
  before_is = pass.count ∙ far.counts (pattern_of b)

  first_is : before + 1 ≡ before_it new b + 1
  first_is = ap (λ n. n + 1) before_is

  end_is : behind + 1 ≡ before_it new b + times_of b * length (round_calls b) + 1
  end_is = ap (λ n. n + 1) (pass.runs ∙ ap (λ n. n + times_of b * length (round_calls b)) before_is)

  line_found : (k : ℕ) → k < length s.lines → IsFoundIn chains others (new ++ b ∷ []) (line_at s.lines k) (mapped_at mapped' k)
  line_found k l =
      ⊎_elim (λ (p : k < first).
      subst (IsFoundIn chains others (new ++ b ∷ []) (line_at s.lines k)) (sym (pass.outside k (inl p)))
      (found_stays chains others new b (line_at s.lines k) (mapped_at s.mapped k) (far.each k l) (not_before_stretch new b (line_at s.lines k) (before + 1) first_is (pass.early k p))))
      (λ (p : first ≤ k).
      ⊎_elim (λ (q : k < end).
      let here : IsRunHere new b (line_at s.lines k) = in_stretch new b (line_at s.lines k) (before + 1) (behind + 1) first_is end_is (pass.not_early k p l) (pass.inside k q) in
      let some : 0 < length (round_calls b) = some_calls (before_it new b) (before_it new b + times_of b * length (round_calls b)) (times_of b) (length (round_calls b)) refl (omega (arith, here.above, here.upto)) in
      found_tried chains others new b (line_at s.lines k) (mapped_at s.mapped k) (mapped_at mapped' k) (far.each k l) here some
      (subst (λ (n : ℕ). IsTried chains others (call_of_round (round_calls b) n (line_at s.lines k)) (line_at s.lines k) (mapped_at s.mapped k) (mapped_at mapped' k)) before_is (pass.tried k p q)))
      (λ (q : end ≤ k).
      subst (IsFoundIn chains others (new ++ b ∷ []) (line_at s.lines k)) (sym (pass.outside k (inr q)))
      (found_stays chains others new b (line_at s.lines k) (mapped_at s.mapped k) (far.each k l) (not_behind_stretch new b (line_at s.lines k) (behind + 1) end_is (pass.not_inside k q l))))
      (cases_lt k end))
      (cases_lt k first)

  pub passed : IsReady chains a → IsReady others b → AreSameStatements chains others a b → AreMappedSoFar chains others (old ++ a ∷ []) (new ++ b ∷ []) log (record { lines = s.lines; mapped = mapped'; counts = counts' })
  passed ready ready' same = record {
    cells = far.cells;
    old_ready = All-append (IsReady chains) old (a ∷ []) far.old_ready (All-cons (IsReady chains) a [] ready (All-nil (IsReady chains)));
    new_ready = All-append (IsReady others) new (b ∷ []) far.new_ready (All-cons (IsReady others) b [] ready' (All-nil (IsReady others)));
    alike = alike_push old new a b far.alike same.0;
    show_same = show_push chains others old new a b far.show_same same.1;
    lines = far.lines;
    long = pass.long;
    counts = counts_more new b s.counts counts' far.counts (pass.here ∙ pass.runs ∙ ap (λ n. n + times_of b * length (round_calls b)) before_is) pass.others_stay;
    each = line_found;
  }

-- ---- whole lists

pub as_many : (as' bs : List PatternStatement) → AllAlike reading as' bs → length as' ≡ length bs
as_many [] [] h = refl
as_many [] (y ∷ ys) h = absurd h
as_many (x ∷ xs) [] h = absurd h
as_many (x ∷ xs) (y ∷ ys) h = ap suc (as_many xs ys h.1)

-- the statements of a number are the same
pub same_there : (old new : Chains) (as' bs : List PatternStatement) → AllAlike reading as' bs → AllShowSame old new as' bs → (k : ℕ) (d e : PatternStatement) → k < length as' → AreSameStatements old new (get_or as' k d) (get_or bs k e)
same_there old new [] [] alike show k d e l = absurd (omega arith)
same_there old new [] (y ∷ ys) alike show k d e l = absurd alike
same_there old new (x ∷ xs) [] alike show k d e l = absurd alike
same_there old new (x ∷ xs) (y ∷ ys) alike show zero d e l = (alike.0, show.0)
same_there old new (x ∷ xs) (y ∷ ys) alike show (suc k) d e l = same_there old new xs ys alike.1 show.1 k d e (omega arith)
