-- What the files denote before the patterns: the cells, the netlist, the head of the patterns, and the scan chains that it declares.
use Rattle.std.specs.Prelude.{◌≡◌, ℕ, List, take, Some}
use Rattle.netlist_core.specs.declared.netlist.Netlist.{Netlist}
use Rattle.cell_table.specs.Cells.{Cells}
use Rattle.cell_table.specs.Entries.{DenotesCells}
use Rattle.verilog_reader.specs.Denoted.{DenotesNetlist}
use Rattle.chain_trace.specs.declared.path.Path.{Path}
use Rattle.head_checks.specs.Asked.{asked_by_head}
use Rattle.traced_paths.specs.Traced.{ArePathsOf}
-- the scan chains along paths
pub use Rattle.path_chains.specs.Ranked.{chains_along}
use Rattle.stil_types.specs.declared.head.StilHead.{StilHead}
use Rattle.stil_parts.specs.Heads.{head_len}
use Rattle.stil_head.specs.Heads.{DenotesHead}
use Rattle.stil_calls.specs.Scans.{bits_of}
use Rattle.stil_tester.specs.declared.chains.Chains.{Chains}
use Rattle.stil_tester.specs.Shifting.{AreChains, bit_counts}

-- the text of the head: what stands before the first Pattern, which is to show within the limit
pub record IsHeadText (stil text : List ℕ) : Type 0 where
  pub len : ℕ
  pub ends : head_len stil ≡ Some len
  pub is : text ≡ take len stil

-- what a table, a Verilog text and the text of a head denote
pub record AreRead (table verilog text : List ℕ) (cells : Cells) (n : Netlist) (head : StilHead) : Type 0 where
  pub cells_are : DenotesCells table cells
  pub netlist_is : DenotesNetlist verilog n
  pub head_is : DenotesHead text head

-- and the paths of the chains that the head declares, in their order
pub record AreTraced (table verilog text : List ℕ) (cells : Cells) (n : Netlist) (head : StilHead) (paths : List Path) : Type 0 where
  pub read : AreRead table verilog text cells n head
  pub paths_are : ArePathsOf n cells (asked_by_head head) paths

-- the calls of the head's patterns fit the chains
pub record Fits (head : StilHead) (chains : Chains) : Type 0 where
  pub chains_are : AreChains chains
  pub counts : bit_counts chains ≡ bits_of head.chains
