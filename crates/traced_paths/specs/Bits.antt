-- How many bits paths have.
use Rattle.std.specs.Prelude.{◌≡◌, ◌<◌, ℕ, List, length, sum_by, Option, Some, None}
use Rattle.base_types.specs.Faults.{at_line}
use Rattle.base_types.specs.declared.fault.Fault.{Fault}
use Rattle.base_types.specs.declared.fault.FileKind.TheVariants.{Verilog}
use Rattle.base_types.specs.declared.kind.Kind.TheVariants.{TooManyBits}
use Rattle.netlist_core.specs.declared.netlist.Netlist.{Netlist}
use Rattle.cell_table.specs.declared.paths.ScanPath.{ScanPath}
use Rattle.cell_table.specs.Cells.{Cells}
use Rattle.chain_trace.specs.declared.path.Path.{Path}
use Rattle.chain_trace.specs.declared.path.Step.{Step}
use Rattle.chain_trace.specs.Paths.{scan_path_at}

-- how many bits a scan path has
abbrev pub length_of : Option ScanPath → ℕ
length_of None = 0
length_of (Some path) = length path.bits

-- how many bits a step has
abbrev pub step_bits : Netlist → Cells → Step → ℕ
step_bits n cells step = length_of (scan_path_at n cells step.instance step.path)

-- how many bits a path has
abbrev pub path_bits : Netlist → Cells → Path → ℕ
path_bits n cells path = sum_by (step_bits n cells) path.steps

-- how many bits the paths have together
abbrev pub all_bits : Netlist → Cells → List Path → ℕ
all_bits n cells paths = sum_by (path_bits n cells) paths

-- the paths have more than 262144 bits: TooManyBits, at the line of the module
pub record HaveTooManyBits (n : Netlist) (cells : Cells) (paths : List Path) (fault : Fault) : Type 0 where
  pub many : 262144 < all_bits n cells paths
  pub is : fault ≡ at_line TooManyBits Verilog n.line
