-- What is known of the files before their patterns are read.
use Rattle.std.specs.Prelude.{◌≡◌, ℕ, List, map}
use Rattle.base_types.specs.declared.fault.Fault.{Fault}
use Rattle.netlist_core.specs.declared.netlist.Netlist.{Netlist}
use Rattle.cell_table.specs.Cells.{Cells}
use Rattle.chain_trace.specs.declared.path.Path.{Path}
use Rattle.traced_paths.specs.Bits.{HaveTooManyBits}
use Rattle.head_checks.specs.Heads.{HoldsInHeads}
use Rattle.stil_types.specs.declared.head.StilHead.{StilHead}
use Rattle.path_chains.specs.Numbered.{bits_along}
use Rattle.declared_chains.specs.declared.declared.Declared.{Declared}
use Rattle.declared_chains.specs.Files.{AreTraced, chains_along, Fits}

-- what may be wrong with the declarations of a head beside the paths of their ScanOuts, or with how many bits these have
pub data HoldsInDeclared (n : Netlist) (cells : Cells) (paths : List Path) (head : StilHead) (fault : Fault) : Type 0 where
  OfHeads : HoldsInHeads n cells paths head fault → HoldsInDeclared n cells paths head fault
  OfCount : HaveTooManyBits n cells paths fault → HoldsInDeclared n cells paths head fault

-- what a head denotes, and the chains that it declares, which the calls of its patterns fit: on this netlist, along paths of these bits
pub record AreDeclared (table verilog text : List ℕ) (d : Declared) : Type 0 where
  pub cells : Cells
  pub paths : List Path
  pub traced : AreTraced table verilog text cells d.netlist d.head paths
  pub bits : d.bits ≡ map (bits_along d.netlist cells) paths
  pub is : d.chains ≡ chains_along d.netlist cells paths
  pub fits : Fits d.head d.chains
