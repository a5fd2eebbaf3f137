-- The lines of a stretch are tried, one after the other.
use Rattle.std.proofs.Common.{◌≡◌, ℕ, ◌+◌, ◌<◌, ◌≤◌, ◌⊎◌, List, length, set, refl, sym, ap, ◌∙◌, arith, subst, inl, inr, ⊎_elim, true, false, Option, Some, None}
use Rattle.std.specs.Option.{is_some}
use Rattle.std.proofs.lemmas.Bool.{false≢true, cases_lt}
use Rattle.std.proofs.lemmas.List.{length-set, get_or-set_same, get_or-set_other, set-get_or}
use Rattle.stil_types.specs.declared.statement.ScanCall.{ScanCall}
use Rattle.stil_tester.specs.declared.chains.Chains.{Chains}
use Rattle.fail_map.specs.declared.line.LogLine.{LogLine}
use Rattle.fail_map.specs.Blocks.{call_of_round}
use Rattle.fail_map.specs.Carried.{IsCarried, IsTried}
use Rattle.fail_map.specs.Numbered.{Numbered, line_at, mapped_at}

-- what was found is kept where it is something
pub tried_some : (old new : Chains) (call : ScanCall) (line : LogLine) (before found : Option LogLine) → IsCarried old new call line found → is_some found ≡ true → IsTried old new call line before found
tried_some old new call line before None h e = absurd (false≢true e)
tried_some old new call line before (Some mapped) h e = inr (h.0, ap Some h.1)

pub tried_none : (old new : Chains) (call : ScanCall) (line : LogLine) (before found : Option LogLine) → IsCarried old new call line found → is_some found ≡ false → IsTried old new call line before before
tried_none old new call line before None h e = inl (h, refl)
tried_none old new call line before (Some mapped) h e = absurd (false≢true (sym e))

-- the lines from the first up to a place are tried
pub record AreTried (old new : Chains) (calls : List ScanCall) (before : ℕ) (lines : List Numbered) (first at : ℕ) (initial mapped : List (Option LogLine)) : Type 0 where
  pub long : length mapped ≡ length lines
  pub others : (k : ℕ) → k < first ⊎ at ≤ k → mapped_at mapped k ≡ mapped_at initial k
  pub found : (k : ℕ) → first ≤ k → k < at → IsTried old new (call_of_round calls before (line_at lines k)) (line_at lines k) (mapped_at initial k) (mapped_at mapped k)

pub tried_more : (old new : Chains) (calls : List ScanCall) (before : ℕ) (lines : List Numbered) (first at : ℕ) (initial mapped mapped' : List (Option LogLine)) (x : Option LogLine) → AreTried old new calls before lines first at initial mapped
    → first ≤ at → at < length lines → IsTried old new (call_of_round calls before (line_at lines at)) (line_at lines at) (mapped_at mapped at) x → mapped' ≡ set mapped at x → AreTried old new calls before lines first (at + 1) initial mapped'
tried_more old new calls before lines first at initial mapped mapped' x are l m tried e = record {
  long = ap length e ∙ length-set mapped at x ∙ are.long;
  others = λ k out.
      let apart : k ≡ at → ⊥ = λ same. ⊎_elim (λ (p : k < first). omega (arith, p, l, same)) (λ (p : at + 1 ≤ k). omega (arith, p, same)) out in
      let still : k < first ⊎ at ≤ k = ⊎_elim (λ (p : k < first). inl p) (λ (p : at + 1 ≤ k). inr (omega (arith, p))) out in
      ap (λ ms. mapped_at ms k) e ∙ get_or-set_other mapped at k x None apart ∙ are.others k still;
  found = λ k p q.
      ⊎_elim (λ (before_it : k < at).
      let same : mapped_at mapped' k ≡ mapped_at mapped k = ap (λ ms. mapped_at ms k) e ∙ get_or-set_other mapped at k x None (λ f. omega (arith, f, before_it)) in
      subst (λ (o : Option LogLine). IsTried old new (call_of_round calls before (line_at lines k)) (line_at lines k) (mapped_at initial k) o) (sym same) (are.found k p before_it))
      (λ (behind_it : at ≤ k).
      let here : at ≡ k = omega (arith, q, behind_it) in
      let now : mapped_at mapped' at ≡ x = ap (λ ms. mapped_at ms at) e ∙ get_or-set_same mapped at x None (omega (arith, m, are.long)) in
      let then : mapped_at mapped at ≡ mapped_at initial at = are.others at (inr (omega arith)) in
      subst (λ (n : ℕ). IsTried old new (call_of_round calls before (line_at lines n)) (line_at lines n) (mapped_at initial n) (mapped_at mapped' n)) here
      (subst (λ (o : Option LogLine). IsTried old new (call_of_round calls before (line_at lines at)) (line_at lines at) (mapped_at initial at) o) (sym now)
      (subst (λ (o : Option LogLine). IsTried old new (call_of_round calls before (line_at lines at)) (line_at lines at) o x) then tried)))
      (cases_lt k at);
}

-- a line that stays as it was
pub stays : (mapped : List (Option LogLine)) (at : ℕ) → mapped ≡ set mapped at (mapped_at mapped at)
stays mapped at = sym (set-get_or mapped at None)
