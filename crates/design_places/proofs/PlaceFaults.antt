-- The first fault of paths whose cells aren't all placed.
use Rattle.std.proofs.Common.{ℕ, ◌≤◌, List, Some, None, refl, ap, subst}
use Rattle.std.specs.Ordering.{nat_cmp}
use Rattle.std.specs.List.{slice_get}
use Rattle.std.specs.declared.cmp.Ordering.TheVariants.{Equal}
use Rattle.base_types.specs.Faults.{at_line}
use Rattle.base_types.specs.FirstFault.{ComesBefore, IsFirstFault}
use Rattle.base_types.specs.declared.fault.Fault.{Fault}
use Rattle.base_types.specs.declared.fault.FileKind.TheVariants.{Verilog}
use Rattle.base_types.specs.declared.kind.Kind.TheVariants.{PlaceUnknown}
use Rattle.netlist_core.specs.declared.netlist.Netlist.{Netlist}
use Rattle.lef_pins.specs.Macros.{NamedMacros}
use Rattle.chain_trace.specs.Faults.{line_of_instance}
use Rattle.chain_trace.specs.declared.path.Path.{Path}
use Rattle.def_reader.specs.declared.design.Design.{Design}
use Rattle.list_laws.specs.Leasts.{IsLeast}
use Rattle.list_laws.proofs.LeastLines.{line_case}
use Rattle.design_places.specs.Ends.{HoldsInPlaces}
use Rattle.design_places.specs.Lines.{ForOne, GoesNowhere}

place_line : (a b : ℕ) → a ≤ b → ComesBefore (at_line PlaceUnknown Verilog b) (at_line PlaceUnknown Verilog a) → ⊥
place_line a b le e = line_case a b (nat_cmp b a) Equal refl le refl e

module _ (n : Netlist) (macros : NamedMacros) (d : Design) (paths : List Path) where
  there : (line : ℕ) → ForOne (GoesNowhere n macros d.components) paths line → HoldsInPlaces n macros d paths (at_line PlaceUnknown Verilog line)
  there line h = record { path = h.one; step = h.fails.one; there = h.there; on = h.fails.there; nowhere = h.fails.fails.0; is = ap (at_line PlaceUnknown Verilog) h.fails.fails.1 }

  back : (g : Fault) (h : HoldsInPlaces n macros d paths g) → ForOne (GoesNowhere n macros d.components) paths (line_of_instance (slice_get n.instances h.step.instance))
  back g h = record { one = h.path; there = h.there; fails = record { one = h.step; there = h.on; fails = (h.nowhere, refl) } }

  pub place_first : (line : ℕ) → IsLeast (ForOne (GoesNowhere n macros d.components) paths) (Some line) → IsFirstFault (HoldsInPlaces n macros d paths) (at_line PlaceUnknown Verilog line)
  place_first line least = record {
    holds = there line least.0;
    least = λ g h e. place_line line _ (least.1 _ (back g h)) (subst (λ (f : Fault). ComesBefore f (at_line PlaceUnknown Verilog line)) h.is e);
  }

  pub place_none : IsLeast (ForOne (GoesNowhere n macros d.components) paths) None → (g : Fault) → HoldsInPlaces n macros d paths g → ⊥
  place_none least g h = least _ (back g h)
