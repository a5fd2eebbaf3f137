-- A fault of a layer is the first of all where no layer before it has one, and none of its own comes before it.
use Rattle.std.proofs.Common.{◌≡◌, ◌⊎◌, ℕ, zero, suc, ◌+◌, ◌-◌, ◌<◌, ◌≤◌, inl, inr, ⊎_elim, sym, ap, ◌∙◌, subst, arith}
use Rattle.std.proofs.lemmas.Bool.{cases_order}
use Rattle.base_types.specs.declared.fault.Fault.{Fault}
use Rattle.base_types.specs.Faults.{number_of}
use Rattle.base_types.specs.FirstFault.{ComesBefore, IsFirstFault}
use Rattle.base_types.proofs.FirstFaults.{later}
use Rattle.design_files.specs.Files.{Texts}
use Rattle.design_files.specs.Faults.{HoldsInFiles, IsFilesFault}
use Rattle.design_files.proofs.Layers.{least_number, rises, Layer, layered}
use Rattle.design_files.proofs.LayerKinds.{among}

module _ (t : Texts) where
  -- no layer before this one has a fault
  abbrev pub NoneBefore : ℕ → Type 0
  NoneBefore k = (j : ℕ) (f : Fault) → j < k → Layer t j f → ⊥

  pub none_before_more : (k : ℕ) → NoneBefore k → ((f : Fault) → Layer t k f → ⊥) → NoneBefore (suc k)
  none_before_more k none here j f lt h =
      ⊎_elim
      (λ (same : j ≡ k). here f (subst (λ (i : ℕ). Layer t i f) same h))
      (λ (far : (j < k) ⊎ (k < j)). ⊎_elim (λ (below : j < k). none j f below h) (λ (above : k < j). absurd (omega arith)) far)
      (cases_order j k)

  -- a fault of a layer behind comes later
  behind : (k j : ℕ) (f g : Fault) → k < j → Layer t k f → Layer t j g → ComesBefore g f → ⊥
  behind k j f g lt here there =
      let low = among t k f here in
      let high = among t j g there in
      let below = low.high in
      let above = high.low in
      let rise = rises (suc k) j (omega arith) in
      later f g (omega arith)

  pub first_at : (k : ℕ) (f : Fault) → HoldsInFiles t f → Layer t k f → NoneBefore k → ((g : Fault) → Layer t k g → ComesBefore g f → ⊥) → IsFilesFault t f
  first_at k f holds here none least = record {
    holds = holds;
    least = λ g h e.
        let l = layered t g h in
        ⊎_elim
        (λ (same : l.number ≡ k). least g (subst (λ (i : ℕ). Layer t i g) same l.here) e)
        (λ (far : (l.number < k) ⊎ (k < l.number)). ⊎_elim (λ (below : l.number < k). none l.number g below l.here) (λ (above : k < l.number). behind k l.number f g above here l.here e) far)
        (cases_order l.number k);
  }

  -- there are thirteen layers
  beyond : (j : ℕ) (f : Fault) → 12 < j → Layer t j f → ⊥
  beyond zero f lt h = absurd (omega arith)
  beyond (suc zero) f lt h = absurd (omega arith)
  beyond (suc (suc zero)) f lt h = absurd (omega arith)
  beyond (suc (suc (suc zero))) f lt h = absurd (omega arith)
  beyond (suc (suc (suc (suc zero)))) f lt h = absurd (omega arith)
  beyond (suc (suc (suc (suc (suc zero))))) f lt h = absurd (omega arith)
  beyond (suc (suc (suc (suc (suc (suc zero)))))) f lt h = absurd (omega arith)
  beyond (suc (suc (suc (suc (suc (suc (suc zero))))))) f lt h = absurd (omega arith)
  beyond (suc (suc (suc (suc (suc (suc (suc (suc zero)))))))) f lt h = absurd (omega arith)
  beyond (suc (suc (suc (suc (suc (suc (suc (suc (suc zero))))))))) f lt h = absurd (omega arith)
  beyond (suc (suc (suc (suc (suc (suc (suc (suc (suc (suc zero)))))))))) f lt h = absurd (omega arith)
  beyond (suc (suc (suc (suc (suc (suc (suc (suc (suc (suc (suc zero))))))))))) f lt h = absurd (omega arith)
  beyond (suc (suc (suc (suc (suc (suc (suc (suc (suc (suc (suc (suc zero)))))))))))) f lt h = absurd (omega arith)
  beyond (suc (suc (suc (suc (suc (suc (suc (suc (suc (suc (suc (suc (suc k))))))))))))) f lt h = h

  -- no fault at all where no layer has one
  pub none_at_all : NoneBefore 13 → (f : Fault) → HoldsInFiles t f → ⊥
  none_at_all none f h =
      let l = layered t f h in
      elim (cases_order l.number 12) [
        | inl same ↦ none l.number f (omega arith) l.here
        | inr far ↦ elim far [ inl below ↦ none l.number f (omega arith) l.here | inr above ↦ beyond l.number f above l.here ]
      ]
