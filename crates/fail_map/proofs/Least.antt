-- The least number among some lines.
use Rattle.std.proofs.Common.{◌≡◌, ℕ, ◌+◌, ◌<◌, ◌≤◌, ◌⊎◌, List, min, Option, Some, None, refl, sym, arith, subst, inl, inr, ⊎_elim}
use Rattle.std.specs.Prelude.{MatchOption}
use Rattle.std.proofs.lemmas.Bool.{cases_lt}
use Rattle.fail_map.specs.Numbered.{Numbered, number_at, IsLeastNumber, lesser}

-- what is known before an end
abbrev pub IsLeast : (ℕ → Type 0) → List Numbered → ℕ → Option ℕ → Type 0
IsLeast P lines end least = MatchOption least ((k : ℕ) → k < end → P k → ⊥) (IsLeastNumber P lines end)

cases_next : (k end : ℕ) → k < end + 1 → (k < end) ⊎ (k ≡ end)
cases_next k end l = ⊎_elim (λ (m : k < end). inl m) (λ (g : end ≤ k). inr (omega arith)) (cases_lt k end)

-- one place more that counts
pub least_more : (P : ℕ → Type 0) (lines : List Numbered) (end : ℕ) (least : Option ℕ) → IsLeast P lines end least → P end → IsLeastNumber P lines (end + 1) (lesser least (number_at lines end))
least_more P lines end None none h = record {
  at = end;
  within = omega arith;
  holds = h;
  is = refl;
  least = λ k l p.
      ⊎_elim (λ (m : k < end). absurd (none k m p)) (λ (e : k ≡ end). subst (λ (n : ℕ). number_at lines end ≤ number_at lines n) (sym e) (omega arith)) (cases_next k end l);
}
least_more P lines end (Some number) first h =
    ⊎_elim (λ (keep : number < number_at lines end).
    record {
      at = first.at;
      within = omega (arith, first.within);
      holds = first.holds;
      is = omega (arith, first.is, keep);
      least = λ k l p.
          ⊎_elim (λ (m : k < end). omega (arith, first.least k m p)) (λ (e : k ≡ end). subst (λ (n : ℕ). min number (number_at lines end) ≤ number_at lines n) (sym e) (omega arith)) (cases_next k end l);
    })
    (λ (take : number_at lines end ≤ number).
    record {
      at = end;
      within = omega arith;
      holds = h;
      is = omega (arith, take);
      least = λ k l p.
          ⊎_elim (λ (m : k < end). omega (arith, first.least k m p)) (λ (e : k ≡ end). subst (λ (n : ℕ). min number (number_at lines end) ≤ number_at lines n) (sym e) (omega arith)) (cases_next k end l);
    })
    (cases_lt number (number_at lines end))

-- one that doesn't
pub least_same : (P : ℕ → Type 0) (lines : List Numbered) (end : ℕ) (least : Option ℕ) → IsLeast P lines end least → (P end → ⊥) → IsLeast P lines (end + 1) least
least_same P lines end None none h = λ k l p. ⊎_elim (λ (m : k < end). none k m p) (λ (e : k ≡ end). h (subst P e p)) (cases_next k end l)
least_same P lines end (Some number) first h = record {
  at = first.at;
  within = omega (arith, first.within);
  holds = first.holds;
  is = first.is;
  least = λ k l p. ⊎_elim (λ (m : k < end). first.least k m p) (λ (e : k ≡ end). absurd (h (subst P e p))) (cases_next k end l);
}
