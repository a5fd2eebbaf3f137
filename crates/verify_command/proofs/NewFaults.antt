-- The first fault over two sets of files.
use Rattle.std.proofs.Common.{inl, inr, ℕ, List, sym, subst}
use Rattle.base_types.specs.declared.fault.Fault.{Fault}
use Rattle.base_types.specs.declared.fault.FileKind.{FileKind}
use Rattle.base_types.specs.declared.fault.FileKind.TheVariants.{Table, Verilog, Stil}
use Rattle.base_types.specs.declared.fault.Spot.{Spot}
use Rattle.base_types.specs.declared.kind.Kind.{Kind}
use Rattle.base_types.specs.FirstFault.{ComesBefore, IsFirstFault}
use Rattle.declared_chains.specs.Faults.{HoldsInPlay}
use Rattle.verify_command.specs.Faults.{at_new, HoldsInVerify, OfFirst, OfSecond, IsNewFault}
use Rattle.verify_command.proofs.FaultFiles.{IsPlayFile, of_play}

-- the files of the second set are in the same order
abbrev Keeps : Kind → Spot → Kind → Spot → FileKind → FileKind → Type 0
Keeps k s l t x y =
    ComesBefore (at_new (record { kind = l; file = y; spot = t })) (at_new (record { kind = k; file = x; spot = s }))
    → ComesBefore (record { kind = l; file = y; spot = t }) (record { kind = k; file = x; spot = s })

choose : (P : FileKind → Type 0) → P Table → P Verilog → P Stil → (file : FileKind) → IsPlayFile file → P file
choose P a b c file (inl e) = subst P (sym e) a
choose P a b c file (inr (inl e)) = subst P (sym e) b
choose P a b c file (inr (inr e)) = subst P (sym e) c

keeps : (k : Kind) (s : Spot) (l : Kind) (t : Spot) (x y : FileKind) → IsPlayFile x → IsPlayFile y → Keeps k s l t x y
keeps k s l t x y is other =
    choose (λ (a : FileKind). Keeps k s l t a y)
    (choose (λ (b : FileKind). Keeps k s l t Table b) (λ e. e) (λ e. e) (λ e. e) y other)
    (choose (λ (b : FileKind). Keeps k s l t Verilog b) (λ e. e) (λ e. e) (λ e. e) y other)
    (choose (λ (b : FileKind). Keeps k s l t Stil b) (λ e. e) (λ e. e) (λ e. e) y other) x is

module _ (table verilog stil new_verilog new_stil : List ℕ) where
  abbrev Holds : Fault → Type 0
  Holds = HoldsInVerify table verilog stil new_verilog new_stil

  pub first_of_first : (f : Fault) → IsFirstFault (HoldsInPlay table verilog stil) f → IsFirstFault Holds f
  first_of_first f w = record { holds = OfFirst w.holds; least = least }
    where
      least : (g : Fault) → Holds g → ComesBefore g f → ⊥
      least g (OfFirst h) sooner = w.least g h sooner
      least g (OfSecond other none h is) sooner = none f w.holds

  module _ (none : (f : Fault) → HoldsInPlay table verilog stil f → ⊥) where
    pub first_of_second : (f : Fault) → IsNewFault (HoldsInPlay table new_verilog new_stil) f → IsFirstFault Holds f
    first_of_second f new = record { holds = OfSecond new.other none new.first.holds new.is; least = least }
      where
        least : (g : Fault) → Holds g → ComesBefore g f → ⊥
        least g (OfFirst h) sooner = none g h
        least g (OfSecond other free h is) sooner =
            let here : ComesBefore (at_new other) (at_new new.other) = subst (λ (x : Fault). ComesBefore (at_new other) x) new.is (subst (λ (x : Fault). ComesBefore x f) is sooner) in
            let mine = of_play table new_verilog new_stil new.other new.first.holds in
            let theirs = of_play table new_verilog new_stil other h in
            new.first.least other h (keeps new.other.kind new.other.spot other.kind other.spot new.other.file other.file mine theirs here)

    pub none_in_both : ((f : Fault) → HoldsInPlay table new_verilog new_stil f → ⊥) → (f : Fault) → Holds f → ⊥
    none_in_both new f (OfFirst h) = none f h
    none_in_both new f (OfSecond other free h is) = new other h
