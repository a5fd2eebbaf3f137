-- The first fault, and that a path excludes every fault, whichever netlist a fault speaks of: a text denotes one alone, and a
-- name tells the port.
use Rattle.std.proofs.Common.{◌≡◌, ◌<◌, ◌⊎◌, inl, inr, ℕ, List, Result, Ok, Err, refl, sym, ap, ◌∙◌, subst, arith}
use Rattle.base_types.specs.declared.fault.Fault.{Fault}
use Rattle.base_types.specs.declared.fault.ReadFault.{ReadFault}
use Rattle.base_types.specs.declared.fault.ReadFault.TheVariants as faults
use Rattle.base_types.specs.declared.kind.Kind.{Kind}
use Rattle.base_types.specs.declared.kind.Kind.TheVariants.{NoPort}
use Rattle.base_types.specs.Faults.{number_of, of_words}
use Rattle.base_types.specs.FirstFault.{ComesBefore, IsFirstFault, IfFault}
use Rattle.base_types.proofs.FirstFaults.{later, first_of}
use Rattle.netlist_core.specs.declared.netlist.NetId.{NetId}
use Rattle.netlist_core.specs.declared.netlist.Netlist.{Netlist}
use Rattle.netlist_core.specs.Netlists.{IsNetlist}
use Rattle.verilog_checks.specs.Faults.{HoldsInVerilog}
use Rattle.verilog_checks.proofs.VerilogFaults.{late, no_fault as no_verilog_fault}
use Rattle.verilog_reader.specs.Denoted.{DenotesNetlist}
use Rattle.verilog_reader.proofs.OneNetlist.{one_netlist, net_tells}
use Rattle.cell_table.specs.Cells.{Cells}
use Rattle.cell_table.specs.Entries.{DenotesCells, HoldsInTable}
use Rattle.cell_table.proofs.TableFaults.{one_table, no_fault as no_table_fault}
use Rattle.chain_trace.specs.declared.path.Path.{Path}
use Rattle.chain_trace.specs.Paths.{is_driven, IsScanPath}
use Rattle.chain_trace.specs.Faults.{IsTraceFault}
use Rattle.chain_trace.proofs.Meeting.{no_path}
use Rattle.chain_trace.proofs.OneFault.{one_fault}
use Rattle.chain_trace.proofs.TraceKinds.{trace_late}
use Rattle.chain_trace.proofs.Ranges.{port_within}
use Rattle.trace_command.specs.Reports.{IsOutputNamed, AreRead, IsPortFault, IsOutputFault, HoldsInTrace, OfTable, OfVerilog, OfPort, OfOutput}
use Rattle.trace_command.proofs.FaultKinds.{early}

-- a name tells the port
same_port : (n : Netlist) (name : List ℕ) (a b : NetId) → IsNetlist n → IsOutputNamed n name a → IsOutputNamed n name b → a ≡ b
same_port n name a b sound p q =
    net_tells n.nets sound.names a b (port_within n is_driven a sound p.port) (port_within n is_driven b sound q.port) (p.named ∙ sym q.named)

of_kind : (g : Fault) (kind : Kind) → g ≡ of_words kind → number_of g.kind ≡ number_of kind
of_kind g kind e = ap (λ (x : Fault). number_of x.kind) e

module _ (table verilog output : List ℕ) where
  abbrev pub First : Fault → Type 0
  First f = IsFirstFault (HoldsInTrace table verilog output) f

  -- a fault of the table comes before the others
  of_table : (f : Fault) → IsFirstFault (HoldsInTable table) f → (g : Fault) → HoldsInTrace table verilog output g → ComesBefore g f → ⊥
  of_table f w g (OfTable h) = w.least g h
  of_table f w g (OfVerilog h) = let low = early table f w.holds in let high = late verilog g h in later f g (omega arith)
  of_table f w g (OfPort h) = let low = early table f w.holds in let high = of_kind g NoPort h.is in later f g (omega arith)
  of_table f w g (OfOutput h) = absurd (no_table_fault table h.cells f h.read.cells_are w.holds)

  pub first_table : (X : Type 0) (e : ReadFault) → IfFault {X = Cells} (Err e) (IsFirstFault (HoldsInTable table)) → IfFault {X = X} (Err e) First
  first_table X (faults.Fault f) w = record { holds = OfTable w.holds; least = of_table f w }
  first_table X faults.NoMemory w = tt

  module _ (cells : Cells) (cells_are : DenotesCells table cells) where
    no_table : (g : Fault) → HoldsInTable table g → ⊥
    no_table g h = no_table_fault table cells g cells_are h

    of_verilog : (f : Fault) → IsFirstFault (HoldsInVerilog verilog) f → (g : Fault) → HoldsInTrace table verilog output g → ComesBefore g f → ⊥
    of_verilog f w g (OfTable h) = absurd (no_table g h)
    of_verilog f w g (OfVerilog h) = w.least g h
    of_verilog f w g (OfPort h) = absurd (no_verilog_fault verilog h.netlist_is.statements h.netlist_is.reads f w.holds)
    of_verilog f w g (OfOutput h) = absurd (no_verilog_fault verilog h.read.netlist_is.statements h.read.netlist_is.reads f w.holds)

    pub first_verilog : (X Y : Type 0) (e : ReadFault) → IfFault {X = Y} (Err e) (IsFirstFault (HoldsInVerilog verilog)) → IfFault {X = X} (Err e) First
    first_verilog X Y (faults.Fault f) w = record { holds = OfVerilog w.holds; least = of_verilog f w }
    first_verilog X Y faults.NoMemory w = tt

    module _ (n : Netlist) (netlist_is : DenotesNetlist verilog n) where
      no_verilog : (g : Fault) → HoldsInVerilog verilog g → ⊥
      no_verilog g h = no_verilog_fault verilog netlist_is.statements netlist_is.reads g h

      of_port : (f : Fault) → f ≡ of_words NoPort → (g : Fault) → HoldsInTrace table verilog output g → (g ≡ f) ⊎ (number_of f.kind < number_of g.kind)
      of_port f e g (OfTable h) = absurd (no_table g h)
      of_port f e g (OfVerilog h) = absurd (no_verilog g h)
      of_port f e g (OfPort h) = inl (h.is ∙ sym e)
      of_port f e g (OfOutput h) = let low = of_kind f NoPort e in let high = trace_late h.netlist h.cells h.net g h.met in inr (omega arith)

      pub first_port : ((net : NetId) → IsOutputNamed n output net → ⊥) → First (of_words NoPort)
      first_port none =
          first_of (HoldsInTrace table verilog output) (of_words NoPort) (OfPort (record { netlist = n; netlist_is = netlist_is; none = none; is = refl })) (of_port (of_words NoPort) refl)

      module _ (net : NetId) (port : IsOutputNamed n output net) where
        has_port : (g : Fault) → IsPortFault verilog output g → ⊥
        has_port g h = h.none net (subst (λ (m : Netlist). IsOutputNamed m output net) (one_netlist verilog n h.netlist netlist_is h.netlist_is) port)

        -- a fault that is met going backward is one of the output
        met_here : (g : Fault) → IsOutputFault table verilog output g → IsTraceFault n cells net g
        met_here g h =
            let same_netlist : h.netlist ≡ n = one_netlist verilog h.netlist n h.read.netlist_is netlist_is in
            let same_cells : h.cells ≡ cells = one_table table h.cells cells h.read.cells_are cells_are in
            let named : IsOutputNamed n output h.net = subst (λ (m : Netlist). IsOutputNamed m output h.net) same_netlist h.port in
            let same_net : h.net ≡ net = same_port n output h.net net netlist_is.sound named port in
            subst (λ (k : NetId). IsTraceFault n cells k g) same_net
            (subst (λ (m : Netlist). IsTraceFault m cells h.net g) same_netlist (subst (λ (cs : Cells). IsTraceFault h.netlist cs h.net g) same_cells h.met))

        of_output : (f : Fault) → IsTraceFault n cells net f → (g : Fault) → HoldsInTrace table verilog output g → (g ≡ f) ⊎ (number_of f.kind < number_of g.kind)
        of_output f e g (OfTable h) = absurd (no_table g h)
        of_output f e g (OfVerilog h) = absurd (no_verilog g h)
        of_output f e g (OfPort h) = absurd (has_port g h)
        of_output f e g (OfOutput h) = inl (one_fault n cells net g f (met_here g h) e)

        pub first_output : {X : Type 0} (r : Result X ReadFault) → IfFault r (IsTraceFault n cells net) → IfFault r First
        first_output (Ok x) e = tt
        first_output (Err (faults.Fault f)) e =
            first_of (HoldsInTrace table verilog output) f
            (OfOutput (record { cells = cells; netlist = n; read = record { cells_are = cells_are; netlist_is = netlist_is }; net = net; port = port; met = e })) (of_output f e)
        first_output (Err faults.NoMemory) e = tt

        pub excluded : (path : Path) → IsScanPath n cells net path → (g : Fault) → HoldsInTrace table verilog output g → ⊥
        excluded path is g (OfTable h) = no_table g h
        excluded path is g (OfVerilog h) = no_verilog g h
        excluded path is g (OfPort h) = has_port g h
        excluded path is g (OfOutput h) = no_path n cells net g (met_here g h) path is
