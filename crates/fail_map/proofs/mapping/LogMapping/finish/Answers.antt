use Rattle.std.proofs.Common.{◌≡◌, ℕ, ◌+◌, ◌<◌, List, length, map, refl, sym, ◌∙◌, subst, Option, Some}
use Rattle.base_types.specs.Faults.{at_line}
use Rattle.base_types.specs.declared.fault.FileKind.TheVariants.{Log}
use Rattle.base_types.specs.declared.kind.Kind.TheVariants.{LogPlace, LogTwice}
use Rattle.fail_map.specs.declared.line.LogLine.{LogLine}
use Rattle.fail_map.specs.Numbered.{Numbered, IsLeastNumber, IsUnmapped, IsRepeated}
use Rattle.fail_map.specs.Progress.{Progress, AreMappedSoFar}
use Rattle.fail_map.proofs.Whole.{mapped_log}
use Rattle.fail_map.proofs.Ends.{first_place, first_twice, no_fault}
use Rattle.fail_map.proofs.mapping.LogMapping.finish.Goals as goal

pub returns-in-Some-clause-fault : goal.returns-in-Some-clause-fault
returns-in-Some-clause-fault c =
    let lines : List Numbered = c.self.inside.lines.items in
    let mapped : List (Option LogLine) = c.self.inside.mapped.items in
    let number : ℕ = c.in-Some.number in
    let first : IsLeastNumber (IsUnmapped mapped) lines (length lines) number
    = subst (λ (L : List Numbered). IsLeastNumber (IsUnmapped mapped) L (length L) number) c.as_slice.ensures.value
    (subst (λ (M : List (Option LogLine)). IsLeastNumber (IsUnmapped M) c.as_slice.result.now (length c.as_slice.result.now) number) c.as_slice-2.ensures.value c.in-Some.ensures.value) in
    rw c.fault_at.ensures.value
    (λ chains others old new log far.
    let far' : AreMappedSoFar chains others old new log (record { lines = lines; mapped = mapped; counts = c.self.inside.counts.items }) = subst (λ (s : Progress). AreMappedSoFar chains others old new log s) (sym c.self.view_is) far in
    first_place chains others new log lines mapped far'.lines far'.each number (at_line LogPlace Log (number + 1)) refl first)

pub returns-in-Some-first_repeated-clause-fault : goal.returns-in-Some-first_repeated-clause-fault
returns-in-Some-first_repeated-clause-fault c =
    let lines : List Numbered = c.self.inside.lines.items in
    let mapped : List (Option LogLine) = c.self.inside.mapped.items in
    let number : ℕ = c.in-Some-first_repeated.number in
    let all : (k : ℕ) → k < length lines → IsUnmapped mapped k → ⊥
    = subst (λ (L : List Numbered). (k : ℕ) → k < length L → IsUnmapped mapped k → ⊥) c.as_slice.ensures.value
    (subst (λ (M : List (Option LogLine)). (k : ℕ) → k < length c.as_slice.result.now → IsUnmapped M k → ⊥) c.as_slice-2.ensures.value c.in_default.ensures.value) in
    let first : IsLeastNumber (IsRepeated lines) lines (length lines) number
    = subst (λ (L : List Numbered). IsLeastNumber (IsRepeated L) L (length L) number) c.as_slice-3.ensures.value c.in-Some-first_repeated.ensures.value in
    rw c.fault_at-in-Some-first_repeated.ensures.value
    (λ chains others old new log far.
    let far' : AreMappedSoFar chains others old new log (record { lines = lines; mapped = mapped; counts = c.self.inside.counts.items }) = subst (λ (s : Progress). AreMappedSoFar chains others old new log s) (sym c.self.view_is) far in
    first_twice chains others new log lines mapped far'.lines far'.each number (at_line LogTwice Log (number + 1)) refl all first)

pub returns : goal.returns
returns c =
    let lines : List Numbered = c.self.inside.lines.items in
    let mapped : List (Option LogLine) = c.self.inside.mapped.items in
    let all : (k : ℕ) → k < length lines → IsUnmapped mapped k → ⊥
    = subst (λ (L : List Numbered). (k : ℕ) → k < length L → IsUnmapped mapped k → ⊥) c.as_slice.ensures.value
    (subst (λ (M : List (Option LogLine)). (k : ℕ) → k < length c.as_slice.result.now → IsUnmapped M k → ⊥) c.as_slice-2.ensures.value c.in_default.ensures.value) in
    let apart : (k : ℕ) → k < length lines → IsRepeated lines k → ⊥
    = subst (λ (L : List Numbered). (k : ℕ) → k < length L → IsRepeated L k → ⊥) c.as_slice-3.ensures.value c.in_default-first_repeated.ensures.value in
    let found : map Some c.in_ok-mapped.mapped.items ≡ mapped = c.in_ok-mapped.ensures.value ∙ c.as_slice-4.ensures.value in
    record {
      mapped = λ chains others old new log far.
          let far' = subst (λ (s : Progress). AreMappedSoFar chains others old new log s) (sym c.self.view_is) far in
          mapped_log chains others old new log (record { lines = lines; mapped = mapped; counts = c.self.inside.counts.items }) far' c.in_ok-mapped.mapped.items c.sort_unstable.new.self.items found apart
          c.sort_unstable.ensures.permutation c.sort_unstable.ensures.sorted;
      fault = tt;
      no_fault = λ chains others old new log far.
          let far' : AreMappedSoFar chains others old new log (record { lines = lines; mapped = mapped; counts = c.self.inside.counts.items }) = subst (λ (s : Progress). AreMappedSoFar chains others old new log s) (sym c.self.view_is) far in
          no_fault chains others new log lines mapped far'.lines far'.each all apart;
    }
