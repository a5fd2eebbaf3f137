-- The first fault of a netlist and a design that don't agree.
use Rattle.std.proofs.Common.{◌≡◌, ℕ, ◌≤◌, inl, inr, List, Option, Some, None, Contains, refl, sym, ap, ◌∙◌, arith}
use Rattle.std.specs.Ordering.{nat_cmp}
use Rattle.std.specs.Str.{bytes_eq}
use Rattle.std.specs.declared.cmp.Ordering.TheVariants.{Equal}
use Rattle.std.proofs.lemmas.Bool.{cases_Bool}
use Rattle.std.proofs.lemmas.Slice.Eq.{bytes_eq-Decides}
use Rattle.base_types.specs.Faults.{at_line}
use Rattle.base_types.specs.FirstFault.{ComesBefore, IsFirstFault}
use Rattle.base_types.specs.declared.fault.Fault.{Fault}
use Rattle.base_types.specs.declared.fault.FileKind.TheVariants.{Def, Verilog}
use Rattle.base_types.specs.declared.kind.Kind.TheVariants.{InstanceMissing, CellDiffers, NetDiffers}
use Rattle.base_types.proofs.FirstFaults.{later}
use Rattle.netlist_core.specs.declared.netlist.Instance.{Instance}
use Rattle.netlist_core.specs.declared.netlist.Netlist.{Netlist}
use Rattle.def_reader.specs.declared.design.Design.{Design}
use Rattle.def_reader.specs.Designs.{cell_of}
use Rattle.def_reader.specs.Agreement.{AgreeOnNets, Agree, IsMissing, HasOtherCell, HoldsInAgreement, Missing, Differs, Split, Shared}
use Rattle.list_laws.specs.Leasts.{IsLeast}
use Rattle.def_reader.proofs.Agreeing.{NetFault}
use Rattle.list_laws.proofs.LeastLines.{line_case}

missing_line : (a b : ℕ) → a ≤ b → ComesBefore (at_line InstanceMissing Verilog b) (at_line InstanceMissing Verilog a) → ⊥
missing_line a b le e = line_case a b (nat_cmp b a) Equal refl le refl e

other_line : (a b : ℕ) → a ≤ b → ComesBefore (at_line CellDiffers Verilog b) (at_line CellDiffers Verilog a) → ⊥
other_line a b le e = line_case a b (nat_cmp b a) Equal refl le refl e

net_line : (a b : ℕ) → a ≤ b → ComesBefore (at_line NetDiffers Def b) (at_line NetDiffers Def a) → ⊥
net_line a b le e = line_case a b (nat_cmp b a) Equal refl le refl e

module _ (n : Netlist) (d : Design) where
  missing_leasts : (line : ℕ) → IsLeast (IsMissing n d) (Some line) → (g : Fault) → HoldsInAgreement n d g → ComesBefore g (at_line InstanceMissing Verilog line) → ⊥
  missing_leasts line least _ (Missing other h) e = missing_line line other (least.1 other h) e
  missing_leasts line least _ (Differs other h) e = later (at_line InstanceMissing Verilog line) (at_line CellDiffers Verilog other) (omega arith) e
  missing_leasts line least _ (Split other h) e = later (at_line InstanceMissing Verilog line) (at_line NetDiffers Def other) (omega arith) e
  missing_leasts line least _ (Shared other h) e = later (at_line InstanceMissing Verilog line) (at_line NetDiffers Def other) (omega arith) e

  pub missing_first : (line : ℕ) → IsLeast (IsMissing n d) (Some line) → IsFirstFault (HoldsInAgreement n d) (at_line InstanceMissing Verilog line)
  missing_first line least = record { holds = Missing line least.0; least = missing_leasts line least }

  other_leasts : (line : ℕ) → IsLeast (IsMissing n d) None → IsLeast (HasOtherCell n d) (Some line) → (g : Fault) → HoldsInAgreement n d g → ComesBefore g (at_line CellDiffers Verilog line) → ⊥
  other_leasts line none least _ (Missing other h) e = none other h
  other_leasts line none least _ (Differs other h) e = other_line line other (least.1 other h) e
  other_leasts line none least _ (Split other h) e = later (at_line CellDiffers Verilog line) (at_line NetDiffers Def other) (omega arith) e
  other_leasts line none least _ (Shared other h) e = later (at_line CellDiffers Verilog line) (at_line NetDiffers Def other) (omega arith) e

  pub other_first : (line : ℕ) → IsLeast (IsMissing n d) None → IsLeast (HasOtherCell n d) (Some line) → IsFirstFault (HoldsInAgreement n d) (at_line CellDiffers Verilog line)
  other_first line none least = record { holds = Differs line least.0; least = other_leasts line none least }

  net_holds : (line : ℕ) → NetFault n d line → HoldsInAgreement n d (at_line NetDiffers Def line)
  net_holds line (inl h) = Split line h
  net_holds line (inr h) = Shared line h

  net_leasts : (line : ℕ) → IsLeast (IsMissing n d) None → IsLeast (HasOtherCell n d) None → IsLeast (NetFault n d) (Some line) → (g : Fault) → HoldsInAgreement n d g → ComesBefore g (at_line NetDiffers Def line) → ⊥
  net_leasts line none same least _ (Missing other h) e = none other h
  net_leasts line none same least _ (Differs other h) e = same other h
  net_leasts line none same least _ (Split other h) e = net_line line other (least.1 other (inl h)) e
  net_leasts line none same least _ (Shared other h) e = net_line line other (least.1 other (inr h)) e

  pub net_first : (line : ℕ) → IsLeast (IsMissing n d) None → IsLeast (HasOtherCell n d) None → IsLeast (NetFault n d) (Some line) → IsFirstFault (HoldsInAgreement n d) (at_line NetDiffers Def line)
  net_first line none same least = record { holds = net_holds line least.0; least = net_leasts line none same least }

  pub no_fault : IsLeast (IsMissing n d) None → IsLeast (HasOtherCell n d) None → IsLeast (NetFault n d) None → (g : Fault) → HoldsInAgreement n d g → ⊥
  no_fault none same nets _ (Missing other h) = none other h
  no_fault none same nets _ (Differs other h) = same other h
  no_fault none same nets _ (Split other h) = nets other (inl h)
  no_fault none same nets _ (Shared other h) = nets other (inr h)

  cell_by : IsLeast (IsMissing n d) None → IsLeast (HasOtherCell n d) None → (i : Instance) → Contains n.instances i → (o : Option (List ℕ)) → cell_of d.components i.name ≡ o → cell_of d.components i.name ≡ Some i.cell
  cell_by none same i there None e = absurd (none i.line (record { instance = i; there = there; none = e; is = refl }))
  cell_by none same i there (Some x) e =
      elim (cases_Bool (bytes_eq x i.cell)) [
        | inl is ↦ e ∙ ap Some ((bytes_eq-Decides x i.cell).0 is)
        | inr fails ↦
            absurd (same i.line (record { instance = i; there = there; cell = x; found = e; other = λ k. let t = (bytes_eq-Decides x i.cell).1 k in absurd cc; is = refl }))
      ]

  pub agrees : IsLeast (IsMissing n d) None → IsLeast (HasOtherCell n d) None → AgreeOnNets n d.nets → Agree n d
  agrees none same nets = record { components = λ i there. cell_by none same i there (cell_of d.components i.name) refl; nets = nets }

  pub missing_differ : (line : ℕ) → IsMissing n d line → Agree n d → ⊥
  missing_differ line h agree = let both : None ≡ Some h.instance.cell = sym h.none ∙ agree.components h.instance h.there in absurd cc

  pub other_differ : (line : ℕ) → HasOtherCell n d line → Agree n d → ⊥
  other_differ line h agree = let both : Some h.cell ≡ Some h.instance.cell = sym h.found ∙ agree.components h.instance h.there in let same : h.cell ≡ h.instance.cell = cc in h.other same
