-- The fault of a stage is the first of all where the stages before it have none. A text denotes one table, one netlist and one head alone,
-- and these one list of paths, so a fault that speaks of others speaks of these.
use Rattle.std.proofs.Common.{◌≡◌, ℕ, ◌≤◌, List, Err, sym, ◌∙◌, subst, arith}
use Rattle.std.specs.Prelude.{Some, None}
use Rattle.base_types.specs.declared.fault.Fault.{Fault}
use Rattle.base_types.specs.declared.fault.FileKind.TheVariants.{Stil}
use Rattle.base_types.specs.declared.fault.ReadFault.{ReadFault}
use Rattle.base_types.specs.declared.fault.ReadFault.TheVariants as faults
use Rattle.base_types.specs.FirstFault.{ComesBefore, IsFirstFault, IfFault}
use Rattle.base_types.proofs.FirstFaults.{itself, later}
use Rattle.netlist_core.specs.declared.netlist.Netlist.{Netlist}
use Rattle.cell_table.specs.Cells.{Cells}
use Rattle.cell_table.specs.Entries.{DenotesCells, HoldsInTable}
use Rattle.cell_table.proofs.TableFaults.{one_table, no_fault as no_table_fault}
use Rattle.verilog_checks.specs.Faults.{HoldsInVerilog}
use Rattle.verilog_checks.proofs.VerilogFaults.{no_fault as no_verilog_fault}
use Rattle.verilog_reader.specs.Denoted.{DenotesNetlist}
use Rattle.verilog_reader.proofs.OneNetlist.{one_netlist}
use Rattle.chain_trace.specs.declared.path.Path.{Path}
use Rattle.stil_types.specs.declared.head.StilHead.{StilHead}
use Rattle.stil_head.specs.Heads.{DenotesHead}
use Rattle.stil_head.specs.Faults.{HoldsInHead}
use Rattle.head_checks.specs.Asked.{asked_by_head}
use Rattle.traced_paths.specs.Traced.{ArePathsOf, HoldsInPaths}
use Rattle.traced_paths.specs.Bits.{all_bits, HaveTooManyBits}
use Rattle.head_checks.specs.Heads.{HoldsInHeads}
use Rattle.declared_chains.specs.Files.{AreRead, AreTraced}
use Rattle.declared_chains.specs.Faults.{HoldsBeforePatterns, OfTable, OfVerilog, OfHead, OfPaths, OfDeclarations, OfBits}
use Rattle.declared_chains.specs.Stages.{HoldsInDeclared, OfHeads, OfCount}
use Rattle.declared_chains.proofs.FaultKinds.{IsAmong, of_table, of_verilog, of_head, of_paths, of_declarations, of_bits}

-- a fault of greater kinds doesn't come before one of lesser
behind : (a b c d : ℕ) (f g : Fault) → IsAmong a b f → IsAmong c d g → b ≤ c → ComesBefore g f → ⊥
behind a b c d f g here there le = let high = here.high in let low = there.low in later f g (omega arith)

-- two faults that are one don't come one before the other
same_fault : (f g x : Fault) → f ≡ x → g ≡ x → ComesBefore g f → ⊥
same_fault f g x one other e = itself f (subst (λ (y : Fault). ComesBefore y f) (other ∙ sym one) e)

-- what holds of the fault of a call, of that of another one
pub carried : (X Y : Type 0) (e : ReadFault) (P Q : Fault → Type 0) → ((f : Fault) → P f → Q f) → IfFault {X = X} (Err e) P → IfFault {X = Y} (Err e) Q
carried X Y (faults.Fault f) P Q goes h = goes f h
carried X Y faults.NoMemory P Q goes h = tt

module _ (table verilog text : List ℕ) where
  abbrev Holds : Fault → Type 0
  Holds = HoldsBeforePatterns table verilog text

  table_least : (f : Fault) → IsFirstFault (HoldsInTable table) f → (g : Fault) → Holds g → ComesBefore g f → ⊥
  table_least f w g (OfTable h) e = w.least g h e
  table_least f w g (OfVerilog h) e = behind 0 10 20 30 f g (of_table table f w.holds) (of_verilog verilog g h) (omega arith) e
  table_least f w g (OfHead h) e = behind 0 10 50 53 f g (of_table table f w.holds) (of_head text g h) (omega arith) e
  table_least f w g (OfPaths c m h read holds) e = behind 0 10 58 64 f g (of_table table f w.holds) (of_paths m c Stil (asked_by_head h) g holds) (omega arith) e
  table_least f w g (OfDeclarations c m h ps traced holds) e = behind 0 10 64 68 f g (of_table table f w.holds) (of_declarations m c ps h g holds) (omega arith) e
  table_least f w g (OfBits c m h ps traced holds) e = behind 0 10 68 69 f g (of_table table f w.holds) (of_bits m c ps g holds) (omega arith) e

  pub first_table : (f : Fault) → IsFirstFault (HoldsInTable table) f → IsFirstFault Holds f
  first_table f w = record { holds = OfTable w.holds; least = table_least f w }

  module _ (cells : Cells) (cells_are : DenotesCells table cells) where
    no_table : (g : Fault) → HoldsInTable table g → ⊥
    no_table g h = no_table_fault table cells g cells_are h

    verilog_least : (f : Fault) → IsFirstFault (HoldsInVerilog verilog) f → (g : Fault) → Holds g → ComesBefore g f → ⊥
    verilog_least f w g (OfTable h) e = no_table g h
    verilog_least f w g (OfVerilog h) e = w.least g h e
    verilog_least f w g (OfHead h) e = behind 20 30 50 53 f g (of_verilog verilog f w.holds) (of_head text g h) (omega arith) e
    verilog_least f w g (OfPaths c m h read holds) e = behind 20 30 58 64 f g (of_verilog verilog f w.holds) (of_paths m c Stil (asked_by_head h) g holds) (omega arith) e
    verilog_least f w g (OfDeclarations c m h ps traced holds) e = behind 20 30 64 68 f g (of_verilog verilog f w.holds) (of_declarations m c ps h g holds) (omega arith) e
    verilog_least f w g (OfBits c m h ps traced holds) e = behind 20 30 68 69 f g (of_verilog verilog f w.holds) (of_bits m c ps g holds) (omega arith) e

    pub first_verilog : (f : Fault) → IsFirstFault (HoldsInVerilog verilog) f → IsFirstFault Holds f
    first_verilog f w = record { holds = OfVerilog w.holds; least = verilog_least f w }

    module _ (n : Netlist) (netlist_is : DenotesNetlist verilog n) where
      no_verilog : (g : Fault) → HoldsInVerilog verilog g → ⊥
      no_verilog g h = no_verilog_fault verilog netlist_is.statements netlist_is.reads g h

      head_least : (f : Fault) → IsFirstFault (HoldsInHead text) f → (g : Fault) → Holds g → ComesBefore g f → ⊥
      head_least f w g (OfTable h) e = no_table g h
      head_least f w g (OfVerilog h) e = no_verilog g h
      head_least f w g (OfHead h) e = w.least g h e
      head_least f w g (OfPaths c m h read holds) e = behind 50 53 58 64 f g (of_head text f w.holds) (of_paths m c Stil (asked_by_head h) g holds) (omega arith) e
      head_least f w g (OfDeclarations c m h ps traced holds) e = behind 50 53 64 68 f g (of_head text f w.holds) (of_declarations m c ps h g holds) (omega arith) e
      head_least f w g (OfBits c m h ps traced holds) e = behind 50 53 68 69 f g (of_head text f w.holds) (of_bits m c ps g holds) (omega arith) e

      pub first_head : (f : Fault) → IsFirstFault (HoldsInHead text) f → IsFirstFault Holds f
      first_head f w = record { holds = OfHead w.holds; least = head_least f w }

      module _ (head : StilHead) (head_is : DenotesHead text head) (only_head : (other : StilHead) → DenotesHead text other → other ≡ head) (no_head : (g : Fault) → HoldsInHead text g → ⊥) where
        pub read : AreRead table verilog text cells n head
        read = record { cells_are = cells_are; netlist_is = netlist_is; head_is = head_is }

        -- what is read of the texts is this
        here : (P : Cells → Netlist → StilHead → Type 0) (c : Cells) (m : Netlist) (h : StilHead) → AreRead table verilog text c m h → P c m h → P cells n head
        here P c m h other p =
            let same_cells : c ≡ cells = one_table table c cells other.cells_are cells_are in
            let same_netlist : m ≡ n = one_netlist verilog m n other.netlist_is netlist_is in
            let same_head : h ≡ head = only_head h other.head_is in
            subst (λ (x : StilHead). P cells n x) same_head (subst (λ (x : Netlist). P cells x h) same_netlist (subst (λ (x : Cells). P x m h) same_cells p))

        abbrev PathFault : Fault → Cells → Netlist → StilHead → Type 0
        PathFault f c m h = HoldsInPaths m c Stil (asked_by_head h) f

        paths_least : (f : Fault) → IsFirstFault (λ g. PathFault g cells n head) f → (g : Fault) → Holds g → ComesBefore g f → ⊥
        paths_least f w g (OfTable h) e = no_table g h
        paths_least f w g (OfVerilog h) e = no_verilog g h
        paths_least f w g (OfHead h) e = no_head g h
        paths_least f w g (OfPaths c m h read holds) e = w.least g (here (PathFault g) c m h read holds) e
        paths_least f w g (OfDeclarations c m h ps traced holds) e =
            behind 58 64 64 68 f g (of_paths n cells Stil (asked_by_head head) f w.holds) (of_declarations m c ps h g holds) (omega arith) e
        paths_least f w g (OfBits c m h ps traced holds) e = behind 58 64 68 69 f g (of_paths n cells Stil (asked_by_head head) f w.holds) (of_bits m c ps g holds) (omega arith) e

        pub first_paths : (f : Fault) → IsFirstFault (λ g. PathFault g cells n head) f → IsFirstFault Holds f
        first_paths f w = record { holds = OfPaths cells n head read w.holds; least = paths_least f w }

        module _ (paths : List Path) (paths_are : ArePathsOf n cells (asked_by_head head) paths)
            (only_paths : (other : List Path) → ArePathsOf n cells (asked_by_head head) other → other ≡ paths) (no_paths : (g : Fault) → PathFault g cells n head → ⊥) where
          pub traced : AreTraced table verilog text cells n head paths
          traced = record { read = read; paths_are = paths_are }

          -- and the paths are these
          along : (P : Cells → Netlist → StilHead → List Path → Type 0) (c : Cells) (m : Netlist) (h : StilHead) (ps : List Path)
              → AreTraced table verilog text c m h ps → P c m h ps → P cells n head paths
          along P c m h ps other p =
              let both = here (λ (c : Cells) (m : Netlist) (h : StilHead). ArePathsOf m c (asked_by_head h) ps × P c m h ps) c m h other.read (other.paths_are, p) in
              subst (P cells n head) (only_paths ps both.0) both.1

          abbrev DeclaredFault : Fault → Cells → Netlist → StilHead → List Path → Type 0
          DeclaredFault f c m h ps = HoldsInDeclared m c ps h f

          declared_least : (f : Fault) → IsFirstFault (HoldsInDeclared n cells paths head) f → (g : Fault) → Holds g → ComesBefore g f → ⊥
          declared_least f w g (OfTable h) e = no_table g h
          declared_least f w g (OfVerilog h) e = no_verilog g h
          declared_least f w g (OfHead h) e = no_head g h
          declared_least f w g (OfPaths c m h read holds) e = no_paths g (here (PathFault g) c m h read holds)
          declared_least f w g (OfDeclarations c m h ps traced holds) e = w.least g (along (DeclaredFault g) c m h ps traced (OfHeads holds)) e
          declared_least f w g (OfBits c m h ps traced holds) e = w.least g (along (DeclaredFault g) c m h ps traced (OfCount holds)) e

          holds_declared : (f : Fault) → HoldsInDeclared n cells paths head f → Holds f
          holds_declared f (OfHeads h) = OfDeclarations cells n head paths traced h
          holds_declared f (OfCount h) = OfBits cells n head paths traced h

          pub first_declared : (f : Fault) → IsFirstFault (HoldsInDeclared n cells paths head) f → IsFirstFault Holds f
          first_declared f w = record { holds = holds_declared f w.holds; least = declared_least f w }

          pub none_before : ((g : Fault) → HoldsInDeclared n cells paths head g → ⊥) → (g : Fault) → Holds g → ⊥
          none_before none g (OfTable h) = no_table g h
          none_before none g (OfVerilog h) = no_verilog g h
          none_before none g (OfHead h) = no_head g h
          none_before none g (OfPaths c m h read holds) = no_paths g (here (PathFault g) c m h read holds)
          none_before none g (OfDeclarations c m h ps traced holds) = none g (along (DeclaredFault g) c m h ps traced (OfHeads holds))
          none_before none g (OfBits c m h ps traced holds) = none g (along (DeclaredFault g) c m h ps traced (OfCount holds))

-- the declarations of a head come before how many bits the paths have
module _ (n : Netlist) (cells : Cells) (paths : List Path) (head : StilHead) where
  heads_least : (f : Fault) → IsFirstFault (HoldsInHeads n cells paths head) f → (g : Fault) → HoldsInDeclared n cells paths head g → ComesBefore g f → ⊥
  heads_least f w g (OfHeads h) e = w.least g h e
  heads_least f w g (OfCount h) e = behind 64 68 68 69 f g (of_declarations n cells paths head f w.holds) (of_bits n cells paths g h) (omega arith) e

  pub first_heads : (f : Fault) → IsFirstFault (HoldsInHeads n cells paths head) f → IsFirstFault (HoldsInDeclared n cells paths head) f
  first_heads f w = record { holds = OfHeads w.holds; least = heads_least f w }

  module _ (no_heads : (g : Fault) → HoldsInHeads n cells paths head g → ⊥) where
    count_least : (f : Fault) → HaveTooManyBits n cells paths f → (g : Fault) → HoldsInDeclared n cells paths head g → ComesBefore g f → ⊥
    count_least f w g (OfHeads h) e = no_heads g h
    count_least f w g (OfCount h) e = same_fault f g _ w.is h.is e

    pub first_count : (f : Fault) → HaveTooManyBits n cells paths f → IsFirstFault (HoldsInDeclared n cells paths head) f
    first_count f w = record { holds = OfCount w; least = count_least f w }

    pub none_declared : all_bits n cells paths ≤ 262144 → (g : Fault) → HoldsInDeclared n cells paths head g → ⊥
    none_declared few g (OfHeads h) = no_heads g h
    none_declared few g (OfCount h) = let many = h.many in absurd (omega arith)
