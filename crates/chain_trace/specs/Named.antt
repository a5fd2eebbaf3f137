-- Ports by their names, and paths of netlists with the same wiring by names.
use Rattle.std.specs.Prelude.{◌≡◌, ℕ, Bool, List, IsTrue}
use Rattle.netlist_core.specs.declared.netlist.NetId.{NetId}
use Rattle.netlist_core.specs.declared.netlist.Direction.{Direction}
use Rattle.netlist_core.specs.declared.netlist.Netlist.{Netlist}
use Rattle.netlist_core.specs.Netlists.{plain_of, AreWiredAlike, IsNetlist}
use Rattle.cell_table.specs.Cells.{Cells}
use Rattle.chain_trace.specs.declared.path.Path.{Path}
use Rattle.chain_trace.specs.declared.ports.End.{End}
use Rattle.chain_trace.specs.declared.ports.End.TheVariants.{Input, Output}
use Rattle.chain_trace.specs.Paths.{drives, is_driven, has_port, IsScanPath}

-- a port of this direction can be such an end of a path
abbrev pub can_be : End → Direction → Bool
can_be Input = drives
can_be Output = is_driven

-- the bit of a port of such a direction that has this plain name
pub record IsPortNamed (test : Direction → Bool) (n : Netlist) (name : List ℕ) (net : NetId) : Type 0 where
  pub named : plain_of n.nets net ≡ name
  pub port : IsTrue (has_port test n net)

-- a path with the same ports by their names, over the same steps
pub record IsSamePath (n m : Netlist) (old new : Path) : Type 0 where
  pub input : plain_of m.nets new.input ≡ plain_of n.nets old.input
  pub output : plain_of m.nets new.output ≡ plain_of n.nets old.output
  pub steps : new.steps ≡ old.steps

-- the other netlist has a scan path that is the same by names
pub record HasSamePath (n m : Netlist) (cells : Cells) (old : Path) : Type 0 where
  pub path : Path
  pub is : IsScanPath m cells path.output path
  pub same : IsSamePath n m old path

-- the numbers of nets are free, and so are nets besides: two netlists with the same ports, assigns and instances by names
-- have the same paths
abbrev pub NamesLaw : Type 0
NamesLaw = (n m : Netlist) (cells : Cells) (path : Path) → IsNetlist n → IsNetlist m → AreWiredAlike n m → IsScanPath n cells path.output path → HasSamePath n m cells path
