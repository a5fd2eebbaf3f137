-- The faults of a DEF text: what is answered is the first of them, and where nothing is refused there is none.
use Rattle.std.proofs.Common.{◌≡◌, ℕ, ◌≤◌, List, Some, None, Equal, refl, sym, ap, ◌∙◌, subst, arith}
use Rattle.std.specs.Prelude.{Ok, Err}
use Rattle.std.specs.Ordering.{nat_cmp}
use Rattle.base_types.specs.Lines.{line_at}
use Rattle.base_types.specs.Faults.{at_line}
use Rattle.base_types.specs.FirstFault.{ComesBefore, IsFirstFault, IfFault}
use Rattle.base_types.specs.declared.fault.Fault.{Fault}
use Rattle.base_types.specs.declared.fault.FileKind.TheVariants.{Def}
use Rattle.base_types.specs.declared.fault.ReadFault.{ReadFault}
use Rattle.base_types.specs.declared.fault.ReadFault.TheVariants as faults
use Rattle.base_types.specs.declared.kind.Kind.TheVariants.{DefSyntax, DefNumber, DefTwice}
use Rattle.base_types.proofs.FirstFaults.{itself, later}
use Rattle.def_syntax.specs.Designs.{IsDesignText, IsExactDesign, IsFirstFault as IsFirstOfForm}
use Rattle.def_syntax.specs.declared.design.DesignText.{DesignText}
use Rattle.def_reader.specs.Faults.{NumberAt, TwiceAt, HoldsInDesign, Form, Number, Twice}
use Rattle.list_laws.specs.Leasts.{IsLeast}
use Rattle.list_laws.proofs.LeastLines.{line_case}

-- a fault of a kind on a greater line doesn't come before
number_line : (a b : ℕ) → a ≤ b → ComesBefore (at_line DefNumber Def b) (at_line DefNumber Def a) → ⊥
number_line a b le e = line_case a b (nat_cmp b a) Equal refl le refl e

twice_line : (a b : ℕ) → a ≤ b → ComesBefore (at_line DefTwice Def b) (at_line DefTwice Def a) → ⊥
twice_line a b le e = line_case a b (nat_cmp b a) Equal refl le refl e

same_places : (text : List ℕ) (f g : Fault) → IsFirstOfForm text f → IsFirstOfForm text g → g ≡ f
same_places text f g a b =
    let below = a.least b.at b.stands in
    let above = b.least a.at a.stands in
    let same : b.at ≡ a.at = omega arith in
    b.is ∙ ap (λ (at : ℕ). at_line DefSyntax Def (line_at text at)) same ∙ sym a.is

form_least : (text : List ℕ) (f : Fault) → IsExactDesign text (Err (faults.Fault f)) → (g : Fault) → HoldsInDesign text g → ComesBefore g f → ⊥
form_least text f exact _ (Form g h) before = itself f (subst (λ (x : Fault). ComesBefore x f) (same_places text f g exact.0 h) before)
form_least text f exact _ (Number t line is holds) before = exact.1 t is
form_least text f exact _ (Twice t line is holds) before = exact.1 t is

-- a fault of form is the first
pub form_first : (text : List ℕ) (f : Fault) → IsExactDesign text (Err (faults.Fault f)) → IsFirstFault (HoldsInDesign text) f
form_first text f exact = record { holds = Form f exact.0; least = form_least text f exact }

module _ (text : List ℕ) (t : DesignText) (exact : IsExactDesign text (Ok t)) where
  number_of_it : (u : DesignText) (line : ℕ) → IsDesignText text u → NumberAt u line → NumberAt t line
  number_of_it u line is holds = subst (λ (x : DesignText). NumberAt x line) (exact.1 u is) holds

  twice_of_it : (u : DesignText) (line : ℕ) → IsDesignText text u → TwiceAt text u line → TwiceAt text t line
  twice_of_it u line is holds = subst (λ (x : DesignText). TwiceAt text x line) (exact.1 u is) holds

  number_leasts : (line : ℕ) → IsLeast (NumberAt t) (Some line) → (g : Fault) → HoldsInDesign text g → ComesBefore g (at_line DefNumber Def line) → ⊥
  number_leasts line least _ (Form g h) before = exact.2 h.at h.stands
  number_leasts line least _ (Number u other is holds) before = number_line line other (least.1 other (number_of_it u other is holds)) before
  number_leasts line least _ (Twice u other is holds) before = later (at_line DefNumber Def line) (at_line DefTwice Def other) (omega arith) before

  -- a number beyond its limits at the least line is the first fault of a text of form
  pub number_first : (line : ℕ) → IsLeast (NumberAt t) (Some line) → IsFirstFault (HoldsInDesign text) (at_line DefNumber Def line)
  number_first line least = record { holds = Number t line exact.0 least.0; least = number_leasts line least }

  twice_leasts : (line : ℕ) → IsLeast (NumberAt t) None → IsLeast (TwiceAt text t) (Some line) → (g : Fault) → HoldsInDesign text g → ComesBefore g (at_line DefTwice Def line) → ⊥
  twice_leasts line none least _ (Form g h) before = exact.2 h.at h.stands
  twice_leasts line none least _ (Number u other is holds) before = none other (number_of_it u other is holds)
  twice_leasts line none least _ (Twice u other is holds) before = twice_line line other (least.1 other (twice_of_it u other is holds)) before

  -- what stands a second time at the least line is, where the numbers are within their limits
  pub twice_first : (line : ℕ) → IsLeast (NumberAt t) None → IsLeast (TwiceAt text t) (Some line) → IsFirstFault (HoldsInDesign text) (at_line DefTwice Def line)
  twice_first line none least = record { holds = Twice t line exact.0 least.0; least = twice_leasts line none least }

  -- else there is none
  pub no_fault : IsLeast (NumberAt t) None → IsLeast (TwiceAt text t) None → (g : Fault) → HoldsInDesign text g → ⊥
  no_fault none once _ (Form g h) = exact.2 h.at h.stands
  no_fault none once _ (Number u other is holds) = none other (number_of_it u other is holds)
  no_fault none once _ (Twice u other is holds) = once other (twice_of_it u other is holds)

-- what the reader of the statements refuses
pub form_stage : (X : Type 0) (text : List ℕ) (e : ReadFault) → IsExactDesign text (Err e) → IfFault {X = X} (Err e) (IsFirstFault (HoldsInDesign text))
form_stage X text (faults.Fault f) exact = form_first text f exact
form_stage X text faults.NoMemory exact = tt
