-- What is asked for where there is a head.
use Rattle.std.proofs.Common.{List, Option, Some, None}
use Rattle.netlist_core.specs.declared.netlist.Netlist.{Netlist}
use Rattle.cell_table.specs.Cells.{Cells}
use Rattle.chain_trace.specs.declared.path.Path.{Path}
use Rattle.def_reader.specs.declared.design.Design.{Design}
use Rattle.stil_types.specs.declared.head.StilHead.{StilHead}
use Rattle.traced_paths.specs.Traced.{ArePathsOf}
use Rattle.head_checks.specs.Asked.{asked_by_head}
use Rattle.head_chains.specs.Asked.{asked_by}

-- a head asks by its blocks, whatever stands beside it
pub by_blocks : (n : Netlist) (cells : Cells) (d : Option Design) (head : StilHead) (paths : List Path) → ArePathsOf n cells (asked_by d (Some head)) paths → ArePathsOf n cells (asked_by_head head) paths
by_blocks n cells None head paths are = are
by_blocks n cells (Some d) head paths are = are
