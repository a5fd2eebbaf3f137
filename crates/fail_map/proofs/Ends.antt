-- What the lines of a log are refused for.
use Rattle.std.proofs.Common.{◌≡◌, ℕ, ◌+◌, ◌<◌, ◌≤◌, List, length, refl, sym, ap, ◌∙◌, arith, subst, ⊎_elim, Option, Some, None}
use Rattle.std.specs.Prelude.{slice_get}
use Rattle.std.proofs.lemmas.Bool.{cases_lt}
use Rattle.std.proofs.lemmas.Option.{slice_get-get_or, slice_get_within, get_or_from_slice_get}
use Rattle.base_types.specs.Faults.{at_line, number_of}
use Rattle.base_types.specs.declared.fault.Fault.{Fault}
use Rattle.base_types.specs.declared.fault.FileKind.TheVariants.{Log}
use Rattle.base_types.specs.declared.kind.Kind.TheVariants.{LogPlace, LogTwice}
use Rattle.base_types.specs.FirstFault.{ComesBefore, IsFirstFault}
use Rattle.base_types.proofs.FirstFaults.{later}
use Rattle.stil_types.specs.declared.statement.ScanCall.{ScanCall}
use Rattle.stil_types.specs.declared.statement.PatternStatement.{PatternStatement}
use Rattle.stil_tester.specs.declared.chains.Chains.{Chains}
use Rattle.fail_map.specs.declared.line.LogLine.{LogLine}
use Rattle.fail_map.specs.FailLogs.{IsPlace}
use Rattle.fail_map.specs.Mapped.{HoldsInLines, NoPlace, Twice}
use Rattle.fail_map.specs.Numbered.{Numbered, no_line, line_of, numbered_at, line_at, number_at, mapped_at, AreLinesOf, IsLeastNumber, IsRepeated, IsUnmapped}
use Rattle.fail_map.specs.Progress.{played, IsFoundIn}
use Rattle.fail_map.proofs.FaultLines.{place_before, twice_before}
use Rattle.fail_map.proofs.Orders.{repeated, equal_order}

module _ (chains others : Chains) (new : List PatternStatement) (log : List LogLine) (lines : List Numbered) (mapped : List (Option LogLine)) (are : AreLinesOf log lines)
    (each : (k : ℕ) → k < length lines → IsFoundIn chains others new (line_at lines k) (mapped_at mapped k)) where
  line_there : (k : ℕ) → k < length lines → slice_get log (number_at lines k) ≡ Some (line_at lines k)
  line_there k l = slice_get-get_or log (number_at lines k) no_line (are.within k l) ∙ ap Some (are.is k l)

  -- a line without a place isn't found
  unmapped : (k : ℕ) → k < length lines → ((call : ScanCall) → IsPlace (played others new) (line_at lines k) call → ⊥) → IsUnmapped mapped k
  unmapped k l none = by_case (mapped_at mapped k) (each k l)
    where
      by_case : (m : Option LogLine) → IsFoundIn chains others new (line_at lines k) m → m ≡ None
      by_case None f = refl
      by_case (Some x) f = absurd (none f.0.0 f.0.1)

  -- the place in order of a line of the log
  placed : (n : ℕ) (line : LogLine) → slice_get log n ≡ Some line → (k : ℕ) × (k < length lines) × (number_at lines k ≡ n) × (line_at lines k ≡ line)
  placed n line e =
      let every = are.every n (slice_get_within log n line e) in
      (every.0, every.1, every.2, sym (are.is every.0 every.1) ∙ ap (line_of log) every.2 ∙ get_or_from_slice_get log n line no_line e)

  -- where a line is equal to an earlier one, it is equal to the one before it in order
  twice_repeated : (before at : ℕ) (line : LogLine) → before < at → slice_get log before ≡ Some line → slice_get log at ≡ Some line → (k : ℕ) × (k < length lines) × (number_at lines k ≡ at) × IsRepeated lines k
  twice_repeated before at line l e f =
      let p = placed before line e in
      let q = placed at line f in
      let same : line_at lines p.0 ≡ line_at lines q.0 = p.3 ∙ sym q.3 in
      let first : p.0 < q.0 =
      ⊎_elim (λ (m : p.0 < q.0). m)
      (λ (g : q.0 ≤ p.0).
      ⊎_elim (λ (m : q.0 < p.0).
      let number : number_at lines q.0 < number_at lines p.0 = equal_order (numbered_at lines q.0) (numbered_at lines p.0) (are.in_order q.0 p.0 m p.1) (sym same) in
      absurd (omega (arith, number, p.2, q.2, l)))
      (λ (n : p.0 ≤ q.0).
      let one : p.0 ≡ q.0 = omega (arith, g, n) in
      absurd (omega (arith, ap (number_at lines) one, p.2, q.2, l)))
      (cases_lt q.0 p.0))
      (cases_lt p.0 q.0) in
      (q.0, q.1, q.2, repeated lines are.in_order p.0 q.0 first q.1 same)

  pub first_place : (number : ℕ) (fault : Fault) → fault ≡ at_line LogPlace Log (number + 1) → IsLeastNumber (IsUnmapped mapped) lines (length lines) number → IsFirstFault (HoldsInLines (played others new) log) fault
  first_place number fault is first = record {
    holds = NoPlace number (line_at lines first.at) (ap (slice_get log) (sym first.is) ∙ line_there first.at first.within)
        (subst (λ (m : Option LogLine). IsFoundIn chains others new (line_at lines first.at) m) first.holds (each first.at first.within)) is;
    least = none_before;
  }
    where
      none_before : (g : Fault) → HoldsInLines (played others new) log g → ComesBefore g fault → ⊥
      none_before g (NoPlace at line there none e) before =
          let p = placed at line there in
          let least : number ≤ number_at lines p.0 = first.least p.0 p.1 (unmapped p.0 p.1 (subst (λ (x : LogLine). (call : ScanCall) → IsPlace (played others new) x call → ⊥) (sym p.3) none)) in
          let lines' : at + 1 < number + 1 = place_before (at + 1) (number + 1) (subst (λ (f : Fault). ComesBefore (at_line LogPlace Log (at + 1)) f) is (subst (λ (f : Fault). ComesBefore f fault) e before)) in
          omega (arith, least, p.2, lines')
      none_before g (Twice earlier at line l there here e) before =
          later fault g (omega (arith, ap (λ (f : Fault). number_of f.kind) is, ap (λ (f : Fault). number_of f.kind) e)) before

  pub first_twice : (number : ℕ) (fault : Fault) → fault ≡ at_line LogTwice Log (number + 1) → ((k : ℕ) → k < length lines → IsUnmapped mapped k → ⊥) → IsLeastNumber (IsRepeated lines) lines (length lines) number
      → IsFirstFault (HoldsInLines (played others new) log) fault
  first_twice number fault is all first =
      let earlier : ℕ = first.holds.before in
      let within : earlier < length lines = omega (arith, first.within, first.holds.next) in
      let number' : number_at lines earlier < number_at lines first.at
      = equal_order (numbered_at lines earlier) (numbered_at lines first.at) (are.in_order earlier first.at (omega (arith, first.holds.next)) first.within) first.holds.same in
      record {
        holds = Twice (number_at lines earlier) number (line_at lines first.at) (omega (arith, number', first.is)) (line_there earlier within ∙ ap Some first.holds.same)
            (ap (slice_get log) (sym first.is) ∙ line_there first.at first.within) is;
        least = none_before;
      }
    where
      none_before : (g : Fault) → HoldsInLines (played others new) log g → ComesBefore g fault → ⊥
      none_before g (NoPlace at line there none e) before =
          let p = placed at line there in
          all p.0 p.1 (unmapped p.0 p.1 (subst (λ (x : LogLine). (call : ScanCall) → IsPlace (played others new) x call → ⊥) (sym p.3) none))
      none_before g (Twice earlier at line l there here e) before =
          let p = twice_repeated earlier at line l there here in
          let least : number ≤ number_at lines p.0 = first.least p.0 p.1 p.3 in
          let lines' : at + 1 < number + 1 = twice_before (at + 1) (number + 1) (subst (λ (f : Fault). ComesBefore (at_line LogTwice Log (at + 1)) f) is (subst (λ (f : Fault). ComesBefore f fault) e before)) in
          omega (arith, least, p.2, lines')

  pub no_fault : ((k : ℕ) → k < length lines → IsUnmapped mapped k → ⊥) → ((k : ℕ) → k < length lines → IsRepeated lines k → ⊥) → (fault : Fault) → HoldsInLines (played others new) log fault → ⊥
  no_fault all apart fault (NoPlace at line there none e) =
      let p = placed at line there in
      all p.0 p.1 (unmapped p.0 p.1 (subst (λ (x : LogLine). (call : ScanCall) → IsPlace (played others new) x call → ⊥) (sym p.3) none))
  no_fault all apart fault (Twice earlier at line l there here e) =
      let p = twice_repeated earlier at line l there here in
      apart p.0 p.1 p.3
