-- What may be wrong with the files of `play`.
use Rattle.std.specs.Prelude.{◌≡◌, ℕ, List, Some, None}
use Rattle.base_types.specs.Faults.{at_line}
use Rattle.base_types.specs.declared.fault.Fault.{Fault}
use Rattle.base_types.specs.declared.fault.FileKind.TheVariants.{Stil}
use Rattle.netlist_core.specs.declared.netlist.Netlist.{Netlist}
use Rattle.cell_table.specs.Cells.{Cells}
use Rattle.cell_table.specs.Entries.{HoldsInTable}
use Rattle.verilog_checks.specs.Faults.{HoldsInVerilog}
use Rattle.chain_trace.specs.declared.path.Path.{Path}
use Rattle.head_checks.specs.Asked.{asked_by_head}
use Rattle.traced_paths.specs.Traced.{HoldsInPaths}
use Rattle.traced_paths.specs.Bits.{HaveTooManyBits}
use Rattle.head_checks.specs.Heads.{HoldsInHeads}
use Rattle.stil_types.specs.declared.head.StilHead.{StilHead}
use Rattle.stil_parts.specs.declared.part.PartFault.{PartFault}
use Rattle.stil_head.specs.Heads.{DenotesHead}
use Rattle.stil_head.specs.Faults.{HoldsInHead}
use Rattle.stil_reader.specs.Sayings.{told_whole}
use Rattle.declared_chains.specs.Files.{IsHeadText, AreRead, AreTraced}

-- Before the patterns: a fault of the table (TableSyntax, TableShape), of the Verilog text (VerilogSyntax, SecondModule, VerilogNumber,
-- VerilogTwice, BadSelect), of the head (StilSyntax, StilTwice, Unsupported), of the paths of its chains (NoPort, TooManyPaths, NoDriver,
-- TwoDrivers, Loop, SharedCell), of its declarations beside these (WrongPort, LengthDiffers, InversionDiffers, CellsDiffer), TooManyBits.
pub data HoldsBeforePatterns (table verilog text : List ℕ) (fault : Fault) : Type 0 where
  OfTable : HoldsInTable table fault → HoldsBeforePatterns table verilog text fault
  OfVerilog : HoldsInVerilog verilog fault → HoldsBeforePatterns table verilog text fault
  OfHead : HoldsInHead text fault → HoldsBeforePatterns table verilog text fault
  OfPaths : (cells : Cells) (n : Netlist) (head : StilHead) → AreRead table verilog text cells n head
      → HoldsInPaths n cells Stil (asked_by_head head) fault → HoldsBeforePatterns table verilog text fault
  OfDeclarations : (cells : Cells) (n : Netlist) (head : StilHead) (paths : List Path) → AreTraced table verilog text cells n head paths
      → HoldsInHeads n cells paths head fault → HoldsBeforePatterns table verilog text fault
  OfBits : (cells : Cells) (n : Netlist) (head : StilHead) (paths : List Path) → AreTraced table verilog text cells n head paths
      → HaveTooManyBits n cells paths fault → HoldsBeforePatterns table verilog text fault

-- the first fault of the patterns, which are read beside the head
pub record IsPatternFault (stil text : List ℕ) (fault : Fault) : Type 0 where
  pub head : StilHead
  pub head_is : DenotesHead text head
  pub found : PartFault
  pub says : (told_whole head stil).fault ≡ Some found
  pub is : fault ≡ at_line found.kind Stil found.line

-- a fault of the files
pub data HoldsInPlay (table verilog stil : List ℕ) (fault : Fault) : Type 0 where
  Before : (text : List ℕ) → IsHeadText stil text → HoldsBeforePatterns table verilog text fault → HoldsInPlay table verilog stil fault
  OfPatterns : (text : List ℕ) → IsHeadText stil text → IsPatternFault stil text fault → HoldsInPlay table verilog stil fault
