-- The first fault, stage by stage, and that what is rewired excludes every fault: a text denotes one netlist, a name tells the
-- port, and that has one path or one fault.
use Rattle.std.proofs.Common.{◌≡◌, ◌≢◌, ◌<◌, ◌⊎◌, inl, inr, ℕ, false, List, Err, refl, sym, ap, ap₂, ◌∙◌, subst, arith}
use Rattle.std.proofs.lemmas.Bool.{or_from}
use Rattle.base_types.specs.declared.fault.Fault.{Fault}
use Rattle.base_types.specs.declared.fault.ReadFault.{ReadFault}
use Rattle.base_types.specs.declared.fault.ReadFault.TheVariants as faults
use Rattle.base_types.specs.declared.kind.Kind.{Kind}
use Rattle.base_types.specs.declared.kind.Kind.TheVariants.{NoPort, WrongPort, NotPermutation, PinnedLast}
use Rattle.base_types.specs.Faults.{number_of, of_words}
use Rattle.base_types.specs.FirstFault.{ComesBefore, IsFirstFault, IfFault}
use Rattle.base_types.proofs.FirstFaults.{first_of}
use Rattle.base_types.proofs.TruthValues.{or_first, or_second}
use Rattle.netlist_core.specs.declared.netlist.NetId.{NetId}
use Rattle.netlist_core.specs.declared.netlist.Netlist.{Netlist}
use Rattle.netlist_core.specs.Netlists.{plain_of}
use Rattle.verilog_checks.specs.Faults.{HoldsInVerilog}
use Rattle.verilog_checks.proofs.VerilogFaults.{no_fault}
use Rattle.verilog_reader.specs.Denoted.{DenotesNetlist}
use Rattle.verilog_reader.proofs.OneNetlist.{one_netlist}
use Rattle.chain_trace.specs.declared.path.Path.{Path}
use Rattle.chain_trace.specs.Paths.{is_driven, IsScanPath}
use Rattle.chain_trace.specs.Faults.{IsTraceFault}
use Rattle.chain_trace.specs.Named.{IsPortNamed}
use Rattle.chain_trace.proofs.Unique.{path_unique}
use Rattle.chain_trace.proofs.Meeting.{no_path}
use Rattle.chain_trace.proofs.OneFault.{one_fault}
use Rattle.chain_trace.proofs.TraceKinds.{trace_late, trace_early}
use Rattle.path_links.specs.Free.{is_free}
use Rattle.path_links.specs.Direct.{last_of, is_direct_from}
use Rattle.rewire_command.specs.declared.rewire.Rewire.{Rewire}
use Rattle.rewire_command.specs.Rewiring.{cells_of, instance_names, is_free_at_end, IsTraced}
use Rattle.rewire_command.specs.Faults.{HasPorts, AreInstances, last_name, IsOfOutput, IsPortFault, IsOutputFault, IsInputFault, IsOrderFault, IsLastFault, HoldsInRewire, OfVerilog, OfPort, OfOutput, OfInput, OfOrder, OfLast}
use Rattle.rewire_command.proofs.Ports.{same_port, input_drives}

of_kind : (g : Fault) (kind : Kind) → g ≡ of_words kind → number_of g.kind ≡ number_of kind
of_kind g kind e = ap (λ (x : Fault). number_of x.kind) e

module _ (text : List ℕ) (w : Rewire) where
  abbrev pub First : Fault → Type 0
  First f = IsFirstFault (HoldsInRewire text w) f

  abbrev pub OrLater : Fault → Fault → Type 0
  OrLater f g = (g ≡ f) ⊎ (number_of f.kind < number_of g.kind)

  -- where the text has a fault, it denotes no netlist
  of_verilog : (f : Fault) → IsFirstFault (HoldsInVerilog text) f → (g : Fault) → HoldsInRewire text w g → ComesBefore g f → ⊥
  of_verilog f is g (OfVerilog h) = is.least g h
  of_verilog f is g (OfPort h) = absurd (no_fault text h.reads.statements h.reads.reads f is.holds)
  of_verilog f is g (OfOutput h) = absurd (no_fault text h.reads.statements h.reads.reads f is.holds)
  of_verilog f is g (OfInput h) = absurd (no_fault text h.found.reads.statements h.found.reads.reads f is.holds)
  of_verilog f is g (OfOrder h) = absurd (no_fault text h.found.reads.statements h.found.reads.reads f is.holds)
  of_verilog f is g (OfLast h) = absurd (no_fault text h.found.reads.statements h.found.reads.reads f is.holds)

  pub first_verilog : (X Y : Type 0) (e : ReadFault) → IfFault {X = Y} (Err e) (IsFirstFault (HoldsInVerilog text)) → IfFault {X = X} (Err e) First
  first_verilog X Y (faults.Fault f) is = record { holds = OfVerilog is.holds; least = of_verilog f is }
  first_verilog X Y faults.NoMemory is = tt

  module _ (n : Netlist) (reads : DenotesNetlist text n) where
    no_reading : (g : Fault) → HoldsInVerilog text g → ⊥
    no_reading g h = no_fault text reads.statements reads.reads g h

    same_netlist : (m : Netlist) → DenotesNetlist text m → m ≡ n
    same_netlist m other = one_netlist text m n other reads

    of_port : (f : Fault) → f ≡ of_words NoPort → (g : Fault) → HoldsInRewire text w g → OrLater f g
    of_port f e g (OfVerilog h) = absurd (no_reading g h)
    of_port f e g (OfPort h) = inl (h.is ∙ sym e)
    of_port f e g (OfOutput h) = let low = of_kind f NoPort e in let high = trace_late h.netlist (cells_of w) h.output g h.met in inr (omega arith)
    of_port f e g (OfInput h) = let low = of_kind f NoPort e in let high = of_kind g WrongPort h.is in inr (omega arith)
    of_port f e g (OfOrder h) = let low = of_kind f NoPort e in let high = of_kind g NotPermutation h.is in inr (omega arith)
    of_port f e g (OfLast h) = let low = of_kind f NoPort e in let high = of_kind g PinnedLast h.is in inr (omega arith)

    pub first_port : ((output : NetId) → HasPorts n w output → ⊥) → First (of_words NoPort)
    first_port none = first_of (HoldsInRewire text w) (of_words NoPort) (OfPort (record { netlist = n; reads = reads; none = none; is = refl })) (of_port (of_words NoPort) refl)

    module _ (output : NetId) (ports : HasPorts n w output) where
      no_port : (g : Fault) → IsPortFault text w g → ⊥
      no_port g h = h.none output (subst (λ (m : Netlist). HasPorts m w output) (sym (same_netlist h.netlist h.reads)) ports)

      met_here : (g : Fault) → IsOutputFault text w g → IsTraceFault n (cells_of w) output g
      met_here g h =
          let same = same_netlist h.netlist h.reads in
          let named : IsPortNamed is_driven n w.scan_out h.output = subst (λ (m : Netlist). IsPortNamed is_driven m w.scan_out h.output) same h.port in
          let same_net : h.output ≡ output = same_port is_driven n w.scan_out h.output output reads.sound named ports.output_is in
          subst (λ (k : NetId). IsTraceFault n (cells_of w) k g) same_net (subst (λ (m : Netlist). IsTraceFault m (cells_of w) h.output g) same h.met)

      of_output : (f : Fault) → IsTraceFault n (cells_of w) output f → (g : Fault) → HoldsInRewire text w g → OrLater f g
      of_output f e g (OfVerilog h) = absurd (no_reading g h)
      of_output f e g (OfPort h) = absurd (no_port g h)
      of_output f e g (OfOutput h) = inl (one_fault n (cells_of w) output g f (met_here g h) e)
      of_output f e g (OfInput h) = let low = trace_early n (cells_of w) output f e in let high = of_kind g WrongPort h.is in inr (omega arith)
      of_output f e g (OfOrder h) = let low = trace_early n (cells_of w) output f e in let high = of_kind g NotPermutation h.is in inr (omega arith)
      of_output f e g (OfLast h) = let low = trace_early n (cells_of w) output f e in let high = of_kind g PinnedLast h.is in inr (omega arith)

      pub first_output : (f : Fault) → IsTraceFault n (cells_of w) output f → First f
      first_output f e =
          first_of (HoldsInRewire text w) f (OfOutput (record { netlist = n; reads = reads; output = output; port = ports.output_is; met = e })) (of_output f e)

    module _ (path : Path) (found : IsOfOutput text w n path) (ports : HasPorts n w path.output) where
      no_met : (g : Fault) → IsOutputFault text w g → ⊥
      no_met g h = no_path n (cells_of w) path.output g (met_here path.output ports g h) path found.is

      same_path : (m : Netlist) (p : Path) → IsOfOutput text w m p → p ≡ path
      same_path m p other =
          let same = same_netlist m other.reads in
          let named : IsPortNamed is_driven n w.scan_out p.output = subst (λ (k : Netlist). IsPortNamed is_driven k w.scan_out p.output) same other.output in
          let same_net : p.output ≡ path.output = same_port is_driven n w.scan_out p.output path.output reads.sound named found.output in
          let here : IsScanPath n (cells_of w) p.output p = subst (λ (k : Netlist). IsScanPath k (cells_of w) p.output p) same other.is in
          path_unique n (cells_of w) path.output p path (subst (λ (k : NetId). IsScanPath n (cells_of w) k p) same_net here) found.is

      of_input : (f : Fault) → f ≡ of_words WrongPort → (g : Fault) → HoldsInRewire text w g → OrLater f g
      of_input f e g (OfVerilog h) = absurd (no_reading g h)
      of_input f e g (OfPort h) = absurd (no_port path.output ports g h)
      of_input f e g (OfOutput h) = absurd (no_met g h)
      of_input f e g (OfInput h) = inl (h.is ∙ sym e)
      of_input f e g (OfOrder h) = let low = of_kind f WrongPort e in let high = of_kind g NotPermutation h.is in inr (omega arith)
      of_input f e g (OfLast h) = let low = of_kind f WrongPort e in let high = of_kind g PinnedLast h.is in inr (omega arith)

      pub first_input : plain_of n.nets path.input ≢ w.scan_in → First (of_words WrongPort)
      first_input other =
          first_of (HoldsInRewire text w) (of_words WrongPort) (OfInput (record { netlist = n; path = path; found = found; other = other; is = refl })) (of_input (of_words WrongPort) refl)

  module _ (n : Netlist) (path : Path) (traced : IsTraced text w n path) where
    of_traced : IsOfOutput text w n path
    of_traced = record { reads = traced.reads; output = traced.output; is = traced.is }

    ports : HasPorts n w path.output
    ports = record {
      output_is = traced.output;
      input = path.input;
      input_is = record { named = traced.input; port = input_drives n (cells_of w) path.output path traced.is };
    }

    no_input : (g : Fault) → IsInputFault text w g → ⊥
    no_input g h =
        h.other (ap₂ (λ (m : Netlist) (p : Path). plain_of m.nets p.input) (same_netlist n traced.reads h.netlist h.found.reads) (same_path n traced.reads path of_traced ports h.netlist h.path h.found) ∙ traced.input)

    names_same : (m : Netlist) (p : Path) → IsOfOutput text w m p → instance_names n path ≡ instance_names m p
    names_same m p other = sym (ap₂ instance_names (same_netlist n traced.reads m other.reads) (same_path n traced.reads path of_traced ports m p other))

    of_order : (f : Fault) → f ≡ of_words NotPermutation → (g : Fault) → HoldsInRewire text w g → OrLater f g
    of_order f e g (OfVerilog h) = absurd (no_reading n traced.reads g h)
    of_order f e g (OfPort h) = absurd (no_port n traced.reads path.output ports g h)
    of_order f e g (OfOutput h) = absurd (no_met n traced.reads path of_traced ports g h)
    of_order f e g (OfInput h) = absurd (no_input g h)
    of_order f e g (OfOrder h) = inl (h.is ∙ sym e)
    of_order f e g (OfLast h) = let low = of_kind f NotPermutation e in let high = of_kind g PinnedLast h.is in inr (omega arith)

    pub first_order : (AreInstances w.units (instance_names n path) → ⊥) → First (of_words NotPermutation)
    first_order other =
        first_of (HoldsInRewire text w) (of_words NotPermutation) (OfOrder (record { netlist = n; path = path; found = of_traced; other = other; is = refl })) (of_order (of_words NotPermutation) refl)

    module _ (are : AreInstances w.units (instance_names n path)) where
      no_order : (g : Fault) → IsOrderFault text w g → ⊥
      no_order g h = h.other (subst (AreInstances w.units) (names_same h.netlist h.path h.found) are)

      of_last : (f : Fault) → f ≡ of_words PinnedLast → (g : Fault) → HoldsInRewire text w g → OrLater f g
      of_last f e g (OfVerilog h) = absurd (no_reading n traced.reads g h)
      of_last f e g (OfPort h) = absurd (no_port n traced.reads path.output ports g h)
      of_last f e g (OfOutput h) = absurd (no_met n traced.reads path of_traced ports g h)
      of_last f e g (OfInput h) = absurd (no_input g h)
      of_last f e g (OfOrder h) = absurd (no_order g h)
      of_last f e g (OfLast h) = inl (h.is ∙ sym e)

      abbrev pub IsPinned : Type 0
      IsPinned = is_free_at_end n w path path.output ≡ false

      pub first_last : IsPinned → last_name w.units ≢ last_name (instance_names n path) → First (of_words PinnedLast)
      first_last pinned other =
          let assigned = is_free n path.output in
          let direct = is_direct_from n (cells_of w) path.output (last_of path) in
          let it : IsLastFault text w (of_words PinnedLast)
          = record { netlist = n; path = path; found = of_traced; pinned = or_first assigned direct pinned; indirect = or_second assigned direct pinned; other = other; is = refl }
          in
          first_of (HoldsInRewire text w) (of_words PinnedLast) (OfLast it) (of_last (of_words PinnedLast) refl)

      no_last : (IsPinned → last_name w.units ≡ last_name (instance_names n path)) → (g : Fault) → IsLastFault text w g → ⊥
      no_last last g h =
          let pinned : is_free_at_end h.netlist w h.path h.path.output ≡ false
          = or_from (is_free h.netlist h.path.output) (is_direct_from h.netlist (cells_of w) h.path.output (last_of h.path)) h.pinned h.indirect
          in
          let free : IsPinned
          = sym (ap₂ (λ (m : Netlist) (p : Path). is_free_at_end m w p p.output) (same_netlist n traced.reads h.netlist h.found.reads) (same_path n traced.reads path of_traced ports h.netlist h.path h.found)) ∙ pinned
          in
          h.other (last free ∙ ap last_name (names_same h.netlist h.path h.found))

      pub excluded : (IsPinned → last_name w.units ≡ last_name (instance_names n path)) → (g : Fault) → HoldsInRewire text w g → ⊥
      excluded last g (OfVerilog h) = no_reading n traced.reads g h
      excluded last g (OfPort h) = no_port n traced.reads path.output ports g h
      excluded last g (OfOutput h) = no_met n traced.reads path of_traced ports g h
      excluded last g (OfInput h) = no_input g h
      excluded last g (OfOrder h) = no_order g h
      excluded last g (OfLast h) = no_last last g h
