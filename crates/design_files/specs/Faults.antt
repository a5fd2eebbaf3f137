-- The faults of the files of a placed design and of the head of its patterns: of each by itself, and of all together.
use Rattle.std.specs.Prelude.{List, Option, Some, IsSomeAnd}
use Rattle.base_types.specs.declared.fault.Fault.{Fault}
use Rattle.base_types.specs.FirstFault.{IsFirstFault}
use Rattle.netlist_core.specs.declared.netlist.Netlist.{Netlist}
use Rattle.verilog_checks.specs.Faults.{HoldsInVerilog}
use Rattle.cell_table.specs.Cells.{Cells}
use Rattle.cell_table.specs.Entries.{DenotesCells, HoldsInTable}
use Rattle.lef_pins.specs.Macros.{NamedMacros}
use Rattle.lef_pins.specs.Denoted.{DenotesMacros}
use Rattle.lef_pins.specs.Faults.{HoldsInLef}
use Rattle.def_reader.specs.declared.design.Design.{Design}
use Rattle.def_reader.specs.Faults.{HoldsInDesign}
use Rattle.def_reader.specs.Denoted.{DenotesDesign}
use Rattle.def_reader.specs.Agreement.{HoldsInAgreement}
use Rattle.chain_trace.specs.declared.path.Path.{Path}
use Rattle.chain_rules.specs.ChainFaults.{IsRefusal}
use Rattle.head_chains.specs.Asked.{asked_by, file_of}
use Rattle.traced_paths.specs.Traced.{ArePathsOf, HoldsInPaths}
use Rattle.path_numbers.specs.Numbers.{path_specs}
use Rattle.traced_paths.specs.Bits.{HaveTooManyBits}
use Rattle.design_elements.specs.Elements.{chain_specs}
use Rattle.design_elements.specs.Faults.{HoldsInElements}
use Rattle.design_places.specs.NetPins.{HoldsInNets}
use Rattle.design_places.specs.Ends.{HoldsInPlaces}
use Rattle.head_checks.specs.Heads.{HoldsInHeads}
use Rattle.head_chains.specs.Chains.{HoldsInChains}
use Rattle.stil_types.specs.declared.head.StilHead.{StilHead}
use Rattle.stil_head.specs.Faults.{HoldsInHead}
use Rattle.design_files.specs.Files.{Texts, AreRead, IsHeadIn}

-- a fault of the design's elements, where the table, the LEF and the DEF have none
pub record IsElementFault (t : Texts) (fault : Fault) : Type 0 where
  pub cells : Cells
  pub macros : NamedMacros
  pub design : Design
  pub cells_are : DenotesCells t.table cells
  pub macros_are : DenotesMacros t.lef macros
  pub design_is : DenotesDesign t.def cells design
  pub holds : HoldsInElements cells macros design fault

-- netlist and design don't agree
pub record IsAgreementFault (t : Texts) (fault : Fault) : Type 0 where
  pub cells : Cells
  pub macros : NamedMacros
  pub netlist : Netlist
  pub design : Design
  pub read : AreRead t cells macros netlist design
  pub holds : HoldsInAgreement netlist design fault

-- a chain of the design begins or ends at a port that the head doesn't declare
pub record IsUndeclaredFault (t : Texts) (fault : Fault) : Type 0 where
  pub cells : Cells
  pub macros : NamedMacros
  pub netlist : Netlist
  pub design : Design
  pub head : Option StilHead
  pub read : AreRead t cells macros netlist design
  pub head_is : IsHeadIn t.head head
  pub holds : IsSomeAnd head (λ h. HoldsInChains design h fault)

-- a fault of the paths that the head asks for, or else the design
pub record IsPathFault (t : Texts) (fault : Fault) : Type 0 where
  pub cells : Cells
  pub macros : NamedMacros
  pub netlist : Netlist
  pub design : Design
  pub head : Option StilHead
  pub read : AreRead t cells macros netlist design
  pub head_is : IsHeadIn t.head head
  pub holds : HoldsInPaths netlist cells (file_of head) (asked_by (Some design) head) fault

-- the paths that are asked for, where they have no fault
pub record ArePathsFor (t : Texts) (cells : Cells) (macros : NamedMacros) (n : Netlist) (d : Design) (head : Option StilHead) (paths : List Path) : Type 0 where
  pub read : AreRead t cells macros n d
  pub head_is : IsHeadIn t.head head
  pub traced : ArePathsOf n cells (asked_by (Some d) head) paths

-- a fault of the paths beside the head and in the design: a declaration that doesn't fit its path, too many bits, a pin in no net, a cell
-- without a place, or a chain that the paths refuse
pub data IsTracedFault (t : Texts) (fault : Fault) : Type 0 where
  OfHeads : (cells : Cells) (macros : NamedMacros) (n : Netlist) (d : Design) (head : Option StilHead) (paths : List Path) → ArePathsFor t cells macros n d head paths
      → IsSomeAnd head (λ h. HoldsInHeads n cells paths h fault) → IsTracedFault t fault
  OfBits : (cells : Cells) (macros : NamedMacros) (n : Netlist) (d : Design) (head : Option StilHead) (paths : List Path) → ArePathsFor t cells macros n d head paths
      → HaveTooManyBits n cells paths fault → IsTracedFault t fault
  OfNets : (cells : Cells) (macros : NamedMacros) (n : Netlist) (d : Design) (head : Option StilHead) (paths : List Path) → ArePathsFor t cells macros n d head paths
      → HoldsInNets n cells d paths fault → IsTracedFault t fault
  OfChains : (cells : Cells) (macros : NamedMacros) (n : Netlist) (d : Design) (head : Option StilHead) (paths : List Path) → ArePathsFor t cells macros n d head paths
      → IsRefusal (path_specs n cells (Some d) paths) (chain_specs n cells d) fault → IsTracedFault t fault
  OfPlaces : (cells : Cells) (macros : NamedMacros) (n : Netlist) (d : Design) (head : Option StilHead) (paths : List Path) → ArePathsFor t cells macros n d head paths
      → HoldsInPlaces n macros d paths fault → IsTracedFault t fault

-- what may be wrong with the files: the table (TableSyntax, TableShape), the LEF (LefSyntax, LefNumber, LefTwice), the
-- Verilog (VerilogSyntax to BadSelect), the DEF (DefSyntax, DefNumber, DefTwice), its elements, its agreement with the netlist, the
-- head (StilSyntax, StilTwice, Unsupported), the ports of the chains beside it (ChainUndeclared), the paths
pub data HoldsInFiles (t : Texts) (fault : Fault) : Type 0 where
  OfTable : HoldsInTable t.table fault → HoldsInFiles t fault
  OfLef : HoldsInLef t.lef fault → HoldsInFiles t fault
  OfVerilog : HoldsInVerilog t.verilog fault → HoldsInFiles t fault
  OfDesign : HoldsInDesign t.def fault → HoldsInFiles t fault
  OfElements : IsElementFault t fault → HoldsInFiles t fault
  OfAgreement : IsAgreementFault t fault → HoldsInFiles t fault
  OfHead : IsSomeAnd t.head (λ text. HoldsInHead text fault) → HoldsInFiles t fault
  OfDeclared : IsUndeclaredFault t fault → HoldsInFiles t fault
  OfPaths : IsPathFault t fault → HoldsInFiles t fault
  OfTraced : IsTracedFault t fault → HoldsInFiles t fault

-- the first of them
abbrev pub IsFilesFault : Texts → Fault → Type 0
IsFilesFault t fault = IsFirstFault (HoldsInFiles t) fault
