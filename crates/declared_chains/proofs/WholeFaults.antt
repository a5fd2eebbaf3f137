-- The first fault before the patterns is the first of all, and so is that of the patterns where there is none before them.
use Rattle.std.proofs.Common.{◌≡◌, ℕ, List, take, Option, Some, None, sym, ap, ◌∙◌, subst, arith}
use Rattle.std.proofs.lemmas.Option.{same_Some}
use Rattle.base_types.specs.declared.fault.Fault.{Fault}
use Rattle.base_types.specs.declared.fault.FileKind.TheVariants.{Stil}
use Rattle.base_types.specs.Faults.{number_of, at_line}
use Rattle.base_types.specs.FirstFault.{ComesBefore, IsFirstFault}
use Rattle.base_types.proofs.FirstFaults.{itself, later}
use Rattle.stil_types.specs.declared.head.StilHead.{StilHead}
use Rattle.stil_head.specs.Heads.{DenotesHead}
use Rattle.stil_head.proofs.Texts.{only_head}
use Rattle.stil_parts.specs.declared.part.PartFault.{PartFault}
use Rattle.stil_calls.specs.Statements.{IsFaultOf}
use Rattle.stil_reader.specs.Sayings.{told_whole}
use Rattle.declared_chains.specs.Faults.{HoldsBeforePatterns, IsPatternFault, HoldsInPlay, Before, OfPatterns}
use Rattle.declared_chains.specs.Files.{IsHeadText}
use Rattle.declared_chains.proofs.PatternKinds.{before_early, pattern_late}

pub one_text : (stil one other : List ℕ) → IsHeadText stil one → IsHeadText stil other → other ≡ one
one_text stil one other first second =
    let same : Some second.len ≡ Some first.len = sym second.ends ∙ first.ends in
    let len = same_Some _ _ same in
    second.is ∙ ap (λ (n : ℕ). take n stil) len ∙ sym first.is

module _ (table verilog stil text : List ℕ) (shown : IsHeadText stil text) where
  here : (P : List ℕ → Type 0) (other : List ℕ) → IsHeadText stil other → P other → P text
  here P other is p = subst P (one_text stil text other shown is) p

  pub first_before : (f : Fault) → IsFirstFault (HoldsBeforePatterns table verilog text) f → IsFirstFault (HoldsInPlay table verilog stil) f
  first_before f first = record { holds = Before text shown first.holds; least = least }
    where
      least : (g : Fault) → HoldsInPlay table verilog stil g → ComesBefore g f → ⊥
      least g (Before other is held) sooner = first.least g (here (λ (t : List ℕ). HoldsBeforePatterns table verilog t g) other is held) sooner
      least g (OfPatterns other is met) sooner =
          let low = before_early table verilog text f first.holds in
          let high = (pattern_late met.head stil is.len met.found is.ends met.says).0 in
          let kind : number_of g.kind ≡ number_of met.found.kind = ap (λ (x : Fault). number_of x.kind) met.is in
          later f g (omega (arith, low, high, kind)) sooner

  module _ (none : (f : Fault) → HoldsBeforePatterns table verilog text f → ⊥) (head : StilHead) (denotes : DenotesHead text head) where
    met_at : (g : Fault) (other : List ℕ) → IsHeadText stil other → (met : IsPatternFault stil other g) → (told_whole head stil).fault ≡ Some met.found
    met_at g other is met =
        let same = only_head text head met.head denotes (here (λ (t : List ℕ). DenotesHead t met.head) other is met.head_is) in
        ap (λ (h : StilHead). (told_whole h stil).fault) (sym same) ∙ met.says

    pub first_pattern : (f : Fault) → IsFaultOf (told_whole head stil).fault f → IsFirstFault (HoldsInPlay table verilog stil) f
    first_pattern f told = record {
      holds = OfPatterns text shown (record { head = head; head_is = denotes; found = told.0; says = told.1; is = told.2 });
      least = least;
    }
      where
        least : (g : Fault) → HoldsInPlay table verilog stil g → ComesBefore g f → ⊥
        least g (Before other is held) sooner = none g (here (λ (t : List ℕ). HoldsBeforePatterns table verilog t g) other is held)
        least g (OfPatterns other is met) sooner =
            let both : Some met.found ≡ Some told.0 = sym (met_at g other is met) ∙ told.1 in
            let one = same_Some _ _ both in
            let same : g ≡ f = met.is ∙ ap (λ (x : PartFault). at_line x.kind Stil x.line) one ∙ sym told.2 in
            itself f (subst (λ (x : Fault). ComesBefore x f) same sooner)

    pub none_at_all : (told_whole head stil).fault ≡ None → (f : Fault) → HoldsInPlay table verilog stil f → ⊥
    none_at_all sound f (Before other is held) = none f (here (λ (t : List ℕ). HoldsBeforePatterns table verilog t f) other is held)
    none_at_all sound f (OfPatterns other is met) = let found : None ≡ Some met.found = sym sound ∙ met_at f other is met in absurd cc
