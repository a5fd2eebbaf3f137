-- What is known of the files of a placed design at each stage, as the code goes over them.
use Rattle.std.specs.Prelude.{◌≡◌, ◌≤◌, ◌⊎◌, ℕ, List, length, Option, Some, IsSomeAnd, ⊤}
use Rattle.base_types.specs.declared.fault.Fault.{Fault}
use Rattle.base_types.specs.declared.fault.ReadFault.{ReadFault}
use Rattle.base_types.specs.declared.fault.ReadFault.TheVariants.{Fault as OfFault, NoMemory as OfMemory}
use Rattle.base_types.specs.FirstFault.{IsFirstFault}
use Rattle.netlist_core.specs.declared.netlist.Netlist.{Netlist}
use Rattle.netlist_core.specs.Netlists.{IsNetlist}
use Rattle.verilog_checks.specs.Faults.{HoldsInVerilog}
use Rattle.verilog_reader.specs.Denoted.{DenotesNetlist}
use Rattle.cell_table.specs.Cells.{Cells}
use Rattle.cell_table.specs.Entries.{DenotesCells, HoldsInTable}
use Rattle.lef_pins.specs.Macros.{NamedMacros}
use Rattle.lef_pins.specs.Denoted.{DenotesMacros, AreMeasured}
use Rattle.lef_pins.specs.Faults.{HoldsInLef}
use Rattle.def_reader.specs.declared.design.Design.{Design}
use Rattle.def_reader.specs.Sound.{IsSound}
use Rattle.def_reader.specs.Faults.{HoldsInDesign}
use Rattle.def_reader.specs.Denoted.{DenotesDesign}
use Rattle.def_reader.specs.Agreement.{Agree, HoldsInAgreement}
use Rattle.chain_trace.specs.declared.path.Path.{Path}
use Rattle.chain_rules.specs.declared.spec.PathSpec.{PathSpec}
use Rattle.chain_rules.specs.declared.spec.ChainSpec.{ChainSpec}
use Rattle.chain_rules.specs.ChainFaults.{IsRefusal}
use Rattle.chain_rules.specs.Legality.{IsLegal}
use Rattle.head_chains.specs.Asked.{asked_by, file_of}
use Rattle.traced_paths.specs.Traced.{ArePathsOf, NameEntries, HoldsInPaths}
use Rattle.traced_paths.specs.Bits.{all_bits}
use Rattle.path_numbers.specs.Numbers.{path_specs}
use Rattle.design_elements.specs.Elements.{chain_specs}
use Rattle.design_elements.specs.Faults.{HoldsInElements}
use Rattle.design_places.specs.NetPins.{HoldsInNets}
use Rattle.design_places.specs.Ends.{HoldsInPlaces, ends_of}
use Rattle.chain_rules.specs.Rules.{AreRulesOf}
use Rattle.wire_cost.specs.Lengths.{ArePlaced, IsPlanAt}
use Rattle.head_checks.specs.Heads.{HoldsInHeads}
use Rattle.head_chains.specs.Chains.{HoldsInChains}
use Rattle.stil_types.specs.declared.head.StilHead.{StilHead}
use Rattle.stil_head.specs.Faults.{HoldsInHead}
use Rattle.design_files.specs.declared.read.DesignFiles.{DesignFiles}
use Rattle.design_files.specs.Files.{Texts, AreRead, IsHeadIn}
use Rattle.design_files.specs.Faults.{IsFilesFault}

-- the four files denote these and nothing else, and have no fault by themselves
pub record AreKnown (t : Texts) (cells : Cells) (macros : NamedMacros) (n : Netlist) (d : Design) : Type 0 where
  pub read : AreRead t cells macros n d
  pub only_cells : (other : Cells) → DenotesCells t.table other → other ≡ cells
  pub only_macros : (other : NamedMacros) → DenotesMacros t.lef other → other ≡ macros
  pub only_netlist : (other : Netlist) → DenotesNetlist t.verilog other → other ≡ n
  pub only_design : (other : Design) → DenotesDesign t.def cells other → other ≡ d
  pub no_table : (fault : Fault) → HoldsInTable t.table fault → ⊥
  pub no_lef : (fault : Fault) → HoldsInLef t.lef fault → ⊥
  pub no_verilog : (fault : Fault) → HoldsInVerilog t.verilog fault → ⊥
  pub no_design : (fault : Fault) → HoldsInDesign t.def fault → ⊥

-- the text of a head, where there is one, denotes this head and no other, and has no fault by itself
pub record IsHeadKnown (text : Option (List ℕ)) (head : Option StilHead) : Type 0 where
  pub is : IsHeadIn text head
  pub only : (other : Option StilHead) → IsHeadIn text other → other ≡ head
  pub no_head : (fault : Fault) → IsSomeAnd text (λ bytes. HoldsInHead bytes fault) → ⊥

-- what the readers give besides
pub record AreSound (macros : NamedMacros) (n : Netlist) (d : Design) : Type 0 where
  pub measured : AreMeasured macros
  pub is_netlist : IsNetlist n
  pub is_sound : IsSound d

-- the elements and the agreement of a design have no fault, so netlist and design agree
pub record DoAgree (n : Netlist) (cells : Cells) (macros : NamedMacros) (d : Design) : Type 0 where
  pub no_element : (fault : Fault) → HoldsInElements cells macros d fault → ⊥
  pub no_difference : (fault : Fault) → HoldsInAgreement n d fault → ⊥
  pub agree : Agree n d

-- these are the paths that the head asks for, or else the design. They have no fault, and where there is a head it declares the ports of the
-- design's chains
pub record HavePaths (n : Netlist) (cells : Cells) (d : Design) (head : Option StilHead) (paths : List Path) : Type 0 where
  pub no_undeclared : (fault : Fault) → IsSomeAnd head (λ h. HoldsInChains d h fault) → ⊥
  pub no_path : (fault : Fault) → HoldsInPaths n cells (file_of head) (asked_by (Some d) head) fault → ⊥
  pub traced : ArePathsOf n cells (asked_by (Some d) head) paths
  pub only : (other : List Path) → ArePathsOf n cells (asked_by (Some d) head) other → other ≡ paths
  pub entries : NameEntries n cells paths
  pub few : length paths ≤ 256

-- the paths are as the head declares them, where there is one, and in the design: their bits are few, and their pins stand in its nets
pub record AreInDesign (n : Netlist) (cells : Cells) (d : Design) (head : Option StilHead) (paths : List Path) : Type 0 where
  pub no_other : (fault : Fault) → IsSomeAnd head (λ h. HoldsInHeads n cells paths h fault) → ⊥
  pub few_bits : all_bits n cells paths ≤ 262144
  pub no_pin : (fault : Fault) → HoldsInNets n cells d paths fault → ⊥

-- the chains beside the paths have no fault, and the cells of the paths are placed
pub record HaveNoChainFault (n : Netlist) (cells : Cells) (macros : NamedMacros) (d : Design) (paths : List Path) : Type 0 where
  pub no_chain : (fault : Fault) → IsRefusal (path_specs n cells (Some d) paths) (chain_specs n cells d) fault → ⊥
  pub no_place : (fault : Fault) → HoldsInPlaces n macros d paths fault → ⊥

-- the first fault of chains beside paths and of the places of the paths' cells, where this one is the first of the chains; want of memory may
-- hide it
abbrev pub IsFirstOf : Netlist → NamedMacros → Design → List Path → Fault → ReadFault → Type 0
IsFirstOf n macros d paths fault (OfFault first) =
    (specs : List PathSpec) (chains : List ChainSpec) → IsRefusal specs chains fault → IsFirstFault (λ f. IsRefusal specs chains f ⊎ HoldsInPlaces n macros d paths f) first
IsFirstOf n macros d paths fault OfMemory = ⊤

-- the fault is the first of any files of which this is known
abbrev pub IsFirstOfKnown : Cells → NamedMacros → Netlist → Design → Option StilHead → Fault → Type 0
IsFirstOfKnown cells macros n d head fault = (t : Texts) → AreKnown t cells macros n d → IsHeadKnown t.head head → IsFilesFault t fault

-- the files as they are read and checked: what they denote, the chains and the paths of the design, the rules that these make, for which the
-- plan as read is legal, and where they begin and end
pub record AreChecked (t : Texts) (f : DesignFiles) : Type 0 where
  pub known : AreKnown t f.table f.macros f.netlist f.design
  pub head : IsHeadKnown t.head f.head
  pub sound : AreSound f.macros f.netlist f.design
  pub agreed : DoAgree f.netlist f.table f.macros f.design
  pub chains : f.chains.items ≡ chain_specs f.netlist f.table f.design
  pub paths : HavePaths f.netlist f.table f.design f.head f.paths.items
  pub inside : AreInDesign f.netlist f.table f.design f.head f.paths.items
  pub none : HaveNoChainFault f.netlist f.table f.macros f.design f.paths.items
  pub rules : AreRulesOf (path_specs f.netlist f.table (Some f.design) f.paths.items) (chain_specs f.netlist f.table f.design) f.rules
  pub legal : IsLegal f.rules f.rules.read
  pub ends : f.ends ≡ ends_of f.netlist f.table f.macros f.design f.paths.items f.rules
  pub placed : ArePlaced f.ends
  pub plan : IsPlanAt f.ends f.rules.read
