-- One more chain's bounds behind those of the chains before it.
use Rattle.std.proofs.Common.{◌≡◌, ℕ, ℤ, pos, ◌+◌, ◌<◌, List, [], ◌∷◌, ◌++◌, length, sym, ap, ◌∙◌, subst, arith, inl, inr}
use Rattle.std.specs.Prelude.{◌≤ℤ◌}
use Rattle.std.proofs.lemmas.Bool.{cases_lt}
use Rattle.std.proofs.Math.ListN.{get_or-append}
use Rattle.std.proofs.lemmas.List.{get_or-append-add}
use Rattle.wire_cost.specs.Lengths.{ChainEnds}
use Rattle.length_bound.specs.declared.certificate.Potentials.{Potentials}
use Rattle.length_bound.specs.Certificates.{AreLeast, total}
use Rattle.length_bound.proofs.Totals.{total_pos}
use Rattle.bound_command.specs.declared.chains.ChainBound.{ChainBound}
use Rattle.bound_command.specs.Bounds.{bound_at, no_bound}

pub bound_pushed : (P : ℕ → ChainBound → Type 0) (xs ys : List ChainBound) (n : ℕ) (x : ChainBound) → length xs ≡ n → ys ≡ xs ++ x ∷ [] → ((k : ℕ) → k < n → P k (bound_at xs k)) → P n x → (k : ℕ) → k < n + 1 → P k (bound_at ys k)
bound_pushed P xs ys n x count is old new k lt =
    elim (cases_lt k n) [
      | inl below ↦
          let same : bound_at ys k ≡ bound_at xs k = ap (λ (l : List ChainBound). bound_at l k) is ∙ get_or-append xs (x ∷ []) no_bound k (omega arith) in
          subst (P k) (sym same) (old k below)
      | inr above ↦
          let here : length xs + 0 ≡ k = omega arith in
          let last : bound_at ys k ≡ x = ap (λ (l : List ChainBound). bound_at l k) is ∙ ap (λ (i : ℕ). bound_at (xs ++ x ∷ []) i) (sym here) ∙ get_or-append-add xs (x ∷ []) 0 no_bound in
          let at : n ≡ k = omega arith in
          subst (P k) (sym last) (subst (λ (i : ℕ). P i x) at new)
    ]

-- least links are no negative numbers
pub least_some : (w : ChainEnds) (us : List ℕ) (p : Potentials) → AreLeast w us p → pos 0 ≤ℤ total p.enter
least_some w us p least = subst (λ (l : List ℤ). pos 0 ≤ℤ total l) (sym least.enter) (total_pos least.into)
