-- The first fault of what the chains of a design name.
use Rattle.std.proofs.Common.{◌≡◌, ℕ, ◌++◌, ◌∷◌, [], nat_lt, inl, inr, List, Option, None, refl, sym, ap, ◌∙◌, subst, arith}
use Rattle.base_types.specs.declared.fault.Fault.{Fault}
use Rattle.base_types.specs.declared.kind.Kind.TheVariants.{ElementUnknown, ElementTwice, ElementUnplaced, ElementPin, BitsDiffer, NoMacro, TooManyElements}
use Rattle.cell_table.specs.Cells.{Cells}
use Rattle.lef_pins.specs.Macros.{NamedMacros}
use Rattle.def_reader.specs.declared.design.Component.{Component}
use Rattle.def_reader.specs.declared.design.ScanChainText.{ScanChainText}
use Rattle.def_reader.specs.declared.design.Design.{Design}
use Rattle.def_reader.specs.Faults.{StandsAgain}
use Rattle.list_laws.specs.Leasts.{IsLeast}
use Rattle.design_elements.specs.declared.judge.Judgement.TheVariants as judgements
use Rattle.design_elements.specs.CellPins.{elements_of, cells_of}
use Rattle.design_elements.specs.Faults.{is_unknown, is_unplaced, has_no_path, has_no_macro, has_other_bits, FailsIn, all_rows, element_count, AreTooMany, HoldsInElements, Unknown, Twice, Unplaced, Pin, Bits, Macro, TooMany}
use Rattle.design_elements.specs.FirstOf.{fault_or, IsFirstIn}
use Rattle.design_elements.specs.Judging.{chain_fails, IsBadChain}
use Rattle.design_elements.proofs.Judged.{fails_least, any_cells, any_elements, crowded_least}
use Rattle.design_elements.proofs.Stages.{Then, Never, Above, above_never, above_then, stage, same_first}

-- the least lines of each kind, as the code finds them
pub record AreLeasts (cells : Cells) (macros : NamedMacros) (components : List Component) (chains : List ScanChainText) (unknown twice unplaced pin bits no_macro crowded : Option ℕ) : Type 0 where
  pub unknown_is : IsLeast (IsBadChain (λ _ chain. chain_fails judgements.Unknown cells macros components chain) chains) unknown
  pub twice_is : IsLeast (StandsAgain (all_rows cells components chains)) twice
  pub unplaced_is : IsLeast (IsBadChain (λ _ chain. chain_fails judgements.Unplaced cells macros components chain) chains) unplaced
  pub pin_is : IsLeast (IsBadChain (λ _ chain. chain_fails judgements.Pin cells macros components chain) chains) pin
  pub bits_is : IsLeast (IsBadChain (λ _ chain. chain_fails judgements.Bits cells macros components chain) chains) bits
  pub macro_is : IsLeast (IsBadChain (λ _ chain. chain_fails judgements.Macro cells macros components chain) chains) no_macro
  pub crowded_is : IsLeast (IsBadChain (λ front chain. nat_lt 65536 (element_count (front ++ chain ∷ []))) chains) crowded

module _ (cells : Cells) (macros : NamedMacros) (d : Design) where
  abbrev From39 : Fault → Type 0
  From39 = Then TooManyElements (AreTooMany d.chains) Never

  abbrev From38 : Fault → Type 0
  From38 = Then NoMacro (FailsIn cells_of (has_no_macro macros d.components) d.chains) From39

  abbrev From37 : Fault → Type 0
  From37 = Then BitsDiffer (FailsIn elements_of (has_other_bits cells d.components) d.chains) From38

  abbrev From36 : Fault → Type 0
  From36 = Then ElementPin (FailsIn cells_of (has_no_path cells d.components) d.chains) From37

  abbrev From35 : Fault → Type 0
  From35 = Then ElementUnplaced (FailsIn cells_of (is_unplaced d.components) d.chains) From36

  abbrev From34 : Fault → Type 0
  From34 = Then ElementTwice (StandsAgain (all_rows cells d.components d.chains)) From35

  abbrev From33 : Fault → Type 0
  From33 = Then ElementUnknown (FailsIn cells_of (is_unknown cells d.components) d.chains) From34

  above39 : Above 38 From39
  above39 = above_then 38 TooManyElements (AreTooMany d.chains) Never (omega arith) (above_never 39)

  above38 : Above 37 From38
  above38 = above_then 37 NoMacro (FailsIn cells_of (has_no_macro macros d.components) d.chains) From39 (omega arith) above39

  above37 : Above 36 From37
  above37 = above_then 36 BitsDiffer (FailsIn elements_of (has_other_bits cells d.components) d.chains) From38 (omega arith) above38

  above36 : Above 35 From36
  above36 = above_then 35 ElementPin (FailsIn cells_of (has_no_path cells d.components) d.chains) From37 (omega arith) above37

  above35 : Above 34 From35
  above35 = above_then 34 ElementUnplaced (FailsIn cells_of (is_unplaced d.components) d.chains) From36 (omega arith) above36

  above34 : Above 33 From34
  above34 = above_then 33 ElementTwice (StandsAgain (all_rows cells d.components d.chains)) From35 (omega arith) above35

  there : (f : Fault) → From33 f → HoldsInElements cells macros d f
  there f (inl a) = subst (HoldsInElements cells macros d) (sym a.is) (Unknown a.line a.holds)
  there f (inr (inl a)) = subst (HoldsInElements cells macros d) (sym a.is) (Twice a.line a.holds)
  there f (inr (inr (inl a))) = subst (HoldsInElements cells macros d) (sym a.is) (Unplaced a.line a.holds)
  there f (inr (inr (inr (inl a)))) = subst (HoldsInElements cells macros d) (sym a.is) (Pin a.line a.holds)
  there f (inr (inr (inr (inr (inl a))))) = subst (HoldsInElements cells macros d) (sym a.is) (Bits a.line a.holds)
  there f (inr (inr (inr (inr (inr (inl a)))))) = subst (HoldsInElements cells macros d) (sym a.is) (Macro a.line a.holds)
  there f (inr (inr (inr (inr (inr (inr (inl a))))))) = subst (HoldsInElements cells macros d) (sym a.is) (TooMany a.line a.holds)
  there f (inr (inr (inr (inr (inr (inr (inr never))))))) = absurd never

  back : (f : Fault) → HoldsInElements cells macros d f → From33 f
  back _ (Unknown line h) = inl (record { line = line; holds = h; is = refl })
  back _ (Twice line h) = inr (inl (record { line = line; holds = h; is = refl }))
  back _ (Unplaced line h) = inr (inr (inl (record { line = line; holds = h; is = refl })))
  back _ (Pin line h) = inr (inr (inr (inl (record { line = line; holds = h; is = refl }))))
  back _ (Bits line h) = inr (inr (inr (inr (inl (record { line = line; holds = h; is = refl })))))
  back _ (Macro line h) = inr (inr (inr (inr (inr (inl (record { line = line; holds = h; is = refl }))))))
  back _ (TooMany line h) = inr (inr (inr (inr (inr (inr (inl (record { line = line; holds = h; is = refl })))))))

  module _ (unknown twice unplaced pin bits no_macro crowded : Option ℕ) (leasts : AreLeasts cells macros d.components d.chains unknown twice unplaced pin bits no_macro crowded) where
    first39 : IsFirstIn From39 (fault_or TooManyElements crowded None)
    first39 = stage TooManyElements (AreTooMany d.chains) Never (above_never 39) crowded None (crowded_least d.chains crowded leasts.crowded_is) (λ f h. absurd h)

    first38 : IsFirstIn From38 (fault_or NoMacro no_macro (fault_or TooManyElements crowded None))
    first38 =
        stage NoMacro (FailsIn cells_of (has_no_macro macros d.components) d.chains) From39 above39 no_macro (fault_or TooManyElements crowded None)
        (fails_least cells_of (has_no_macro macros d.components) (chain_fails judgements.Macro cells macros d.components) (any_cells (has_no_macro macros d.components)) d.chains no_macro leasts.macro_is) first39

    first37 : IsFirstIn From37 (fault_or BitsDiffer bits (fault_or NoMacro no_macro (fault_or TooManyElements crowded None)))
    first37 =
        stage BitsDiffer (FailsIn elements_of (has_other_bits cells d.components) d.chains) From38 above38 bits _
        (fails_least elements_of (has_other_bits cells d.components) (chain_fails judgements.Bits cells macros d.components) (any_elements (has_other_bits cells d.components)) d.chains bits leasts.bits_is) first38

    first36 : IsFirstIn From36 (fault_or ElementPin pin (fault_or BitsDiffer bits (fault_or NoMacro no_macro (fault_or TooManyElements crowded None))))
    first36 =
        stage ElementPin (FailsIn cells_of (has_no_path cells d.components) d.chains) From37 above37 pin _
        (fails_least cells_of (has_no_path cells d.components) (chain_fails judgements.Pin cells macros d.components) (any_cells (has_no_path cells d.components)) d.chains pin leasts.pin_is) first37

    first35 : IsFirstIn From35 (fault_or ElementUnplaced unplaced (fault_or ElementPin pin (fault_or BitsDiffer bits (fault_or NoMacro no_macro (fault_or TooManyElements crowded None)))))
    first35 =
        stage ElementUnplaced (FailsIn cells_of (is_unplaced d.components) d.chains) From36 above36 unplaced _
        (fails_least cells_of (is_unplaced d.components) (chain_fails judgements.Unplaced cells macros d.components) (any_cells (is_unplaced d.components)) d.chains unplaced leasts.unplaced_is) first36

    first34 : IsFirstIn From34 (fault_or ElementTwice twice (fault_or ElementUnplaced unplaced (fault_or ElementPin pin (fault_or BitsDiffer bits (fault_or NoMacro no_macro (fault_or TooManyElements crowded None))))))
    first34 = stage ElementTwice (StandsAgain (all_rows cells d.components d.chains)) From35 above35 twice _ leasts.twice_is first35

    first33 : IsFirstIn From33 (fault_or ElementUnknown unknown (fault_or ElementTwice twice (fault_or ElementUnplaced unplaced (fault_or ElementPin pin (fault_or BitsDiffer bits (fault_or NoMacro no_macro (fault_or TooManyElements crowded None)))))))
    first33 =
        stage ElementUnknown (FailsIn cells_of (is_unknown cells d.components) d.chains) From34 above34 unknown _
        (fails_least cells_of (is_unknown cells d.components) (chain_fails judgements.Unknown cells macros d.components) (any_cells (is_unknown cells d.components)) d.chains unknown leasts.unknown_is) first34

    first : IsFirstIn (HoldsInElements cells macros d)
        (fault_or ElementUnknown unknown (fault_or ElementTwice twice (fault_or ElementUnplaced unplaced (fault_or ElementPin pin (fault_or BitsDiffer bits (fault_or NoMacro no_macro (fault_or TooManyElements crowded None)))))))
    first = same_first From33 (HoldsInElements cells macros d) _ there back first33

-- the first fault of a design of these components and chains
pub first_of_design : (cells : Cells) (macros : NamedMacros) (components : List Component) (chains : List ScanChainText) (d : Design) (unknown twice unplaced pin bits no_macro crowded : Option ℕ) → d.components ≡ components → d.chains ≡ chains
    → AreLeasts cells macros components chains unknown twice unplaced pin bits no_macro crowded → IsFirstIn (HoldsInElements cells macros d)
    (fault_or ElementUnknown unknown (fault_or ElementTwice twice (fault_or ElementUnplaced unplaced (fault_or ElementPin pin (fault_or BitsDiffer bits (fault_or NoMacro no_macro (fault_or TooManyElements crowded None)))))))
first_of_design cells macros components chains d unknown twice unplaced pin bits no_macro crowded same_components same_chains leasts =
    first cells macros d unknown twice unplaced pin bits no_macro crowded
    (subst (λ (cs : List Component). AreLeasts cells macros cs d.chains unknown twice unplaced pin bits no_macro crowded) (sym same_components)
    (subst (λ (cs : List ScanChainText). AreLeasts cells macros components cs unknown twice unplaced pin bits no_macro crowded) (sym same_chains) leasts))

-- the same beside the table and the design that the cells were made of
pub first_beside : (cells : Cells × List Component) (table : Cells) (macros : NamedMacros) (d : Design) (components : List Component) (chains : List ScanChainText) (o : Option Fault) → ◌≡◌ {A = Cells × List Component} cells (table, components) → components ≡ d.components
    → chains ≡ d.chains → ((e : Design) → e.components ≡ cells.1 → e.chains ≡ chains → IsFirstIn (HoldsInElements cells.0 macros e) o) → IsFirstIn (HoldsInElements table macros d) o
first_beside cells table macros d components chains o made same_components same_chains first =
    subst (λ (t : Cells). IsFirstIn (HoldsInElements t macros d) o) (ap (λ (c : Cells × List Component). c.0) made)
    (first d (sym (ap (λ (c : Cells × List Component). c.1) made ∙ same_components)) (sym same_chains))
