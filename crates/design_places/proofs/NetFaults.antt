-- The first fault of paths whose pins aren't all in nets.
use Rattle.std.proofs.Common.{◌≡◌, ◌⊎◌, inl, inr, ℕ, ◌≤◌, true, List, Some, None, Contains, refl, sym, ap, subst}
use Rattle.std.specs.Ordering.{nat_cmp}
use Rattle.std.specs.declared.cmp.Ordering.TheVariants.{Equal}
use Rattle.base_types.specs.Faults.{at_line}
use Rattle.base_types.specs.FirstFault.{ComesBefore, IsFirstFault}
use Rattle.base_types.specs.declared.fault.Fault.{Fault}
use Rattle.base_types.specs.declared.fault.FileKind.TheVariants.{Verilog}
use Rattle.base_types.specs.declared.kind.Kind.TheVariants.{PinMissing}
use Rattle.netlist_core.specs.declared.netlist.NetId.{NetId}
use Rattle.chain_trace.specs.declared.path.Path.{Path}
use Rattle.chain_trace.specs.declared.path.Sink.TheVariants as sinks
use Rattle.chain_trace.specs.Faults.{sink_line}
use Rattle.list_laws.specs.Leasts.{IsLeast}
use Rattle.list_laws.proofs.LeastLines.{line_case}
use Rattle.design_places.specs.NetPins.{lacks_port, HoldsInNets, InPin, OutPin, AtPort}
use Rattle.design_places.specs.Lines.{ForOne, Traced, PathLacks}

pin_line : (a b : ℕ) → a ≤ b → ComesBefore (at_line PinMissing Verilog b) (at_line PinMissing Verilog a) → ⊥
pin_line a b le e = line_case a b (nat_cmp b a) Equal refl le refl e

module _ (t : Traced) (paths : List Path) where
  abbrev Holds : Fault → Type 0
  Holds = HoldsInNets t.netlist t.cells t.design paths

  moved : (a line : ℕ) → line ≡ a → Holds (at_line PinMissing Verilog a) → Holds (at_line PinMissing Verilog line)
  moved a line e h = subst (λ (l : ℕ). Holds (at_line PinMissing Verilog l)) (sym e) h

  there : (line : ℕ) (path : Path) → Contains paths path → PathLacks t path line → Holds (at_line PinMissing Verilog line)
  there line path on (inl h) = elim h.fails [
    | inl f ↦ moved _ line f.1 (InPin path h.one on h.there f.0)
    | inr f ↦ moved _ line f.1 (OutPin path h.one on h.there f.0)
  ]
  there line path on (inr (inl f)) = moved _ line f.1 (AtPort path path.input on (inl refl) f.0)
  there line path on (inr (inr f)) = moved _ line f.1 (AtPort path path.output on (inr refl) f.0)

  at_end : (path : Path) (net : NetId) → Contains paths path → (net ≡ path.input) ⊎ (net ≡ path.output) → lacks_port t.netlist t.design net ≡ true → ForOne (PathLacks t) paths (sink_line t.netlist (sinks.Port net))
  at_end path net on (inl e) lacks = record {
    one = path;
    there = on;
    fails = inr (inl (subst (λ (m : NetId). lacks_port t.netlist t.design m ≡ true) e lacks, ap (λ (m : NetId). sink_line t.netlist (sinks.Port m)) e));
  }
  at_end path net on (inr e) lacks = record {
    one = path;
    there = on;
    fails = inr (inr (subst (λ (m : NetId). lacks_port t.netlist t.design m ≡ true) e lacks, ap (λ (m : NetId). sink_line t.netlist (sinks.Port m)) e));
  }

  leasts : (line : ℕ) → IsLeast (ForOne (PathLacks t) paths) (Some line) → (g : Fault) → Holds g → ComesBefore g (at_line PinMissing Verilog line) → ⊥
  leasts line least _ (InPin path step on there lacks) e = pin_line line _ (least.1 _ (record { one = path; there = on; fails = inl (record { one = step; there = there; fails = inl (lacks, refl) }) })) e
  leasts line least _ (OutPin path step on there lacks) e = pin_line line _ (least.1 _ (record { one = path; there = on; fails = inl (record { one = step; there = there; fails = inr (lacks, refl) }) })) e
  leasts line least _ (AtPort path net on end lacks) e = pin_line line _ (least.1 _ (at_end path net on end lacks)) e

  pub net_first : (line : ℕ) → IsLeast (ForOne (PathLacks t) paths) (Some line) → IsFirstFault (HoldsInNets t.netlist t.cells t.design paths) (at_line PinMissing Verilog line)
  net_first line least = record { holds = there line least.0.one least.0.there least.0.fails; least = leasts line least }

  pub net_none : IsLeast (ForOne (PathLacks t) paths) None → (g : Fault) → HoldsInNets t.netlist t.cells t.design paths g → ⊥
  net_none least _ (InPin path step on there lacks) = least _ (record { one = path; there = on; fails = inl (record { one = step; there = there; fails = inl (lacks, refl) }) })
  net_none least _ (OutPin path step on there lacks) = least _ (record { one = path; there = on; fails = inl (record { one = step; there = there; fails = inr (lacks, refl) }) })
  net_none least _ (AtPort path net on end lacks) = least _ (at_end path net on end lacks)
