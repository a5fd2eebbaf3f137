-- The text of the scan path of an output, and the faults for which there is none.
use Rattle.std.specs.Prelude.{◌≡◌, ℕ, Bool, true, false, List, [], ◌∷◌, ◌++◌, length, codes, decimal, Option, Some, None}
use Rattle.std.specs.List.{flat_map, slice_get}
use Rattle.base_types.specs.declared.fault.Fault.{Fault}
use Rattle.base_types.specs.declared.kind.Kind.TheVariants.{NoPort}
use Rattle.base_types.specs.Faults.{of_words}
use Rattle.base_types.specs.FirstFault.{IsFirstFault}
use Rattle.netlist_core.specs.declared.netlist.NetId.{NetId}
use Rattle.netlist_core.specs.declared.netlist.Instance.{Instance}
use Rattle.netlist_core.specs.declared.netlist.Netlist.{Netlist}
use Rattle.netlist_core.specs.Netlists.{plain_of}
use Rattle.verilog_checks.specs.Faults.{HoldsInVerilog}
use Rattle.verilog_reader.specs.Denoted.{DenotesNetlist}
use Rattle.cell_table.specs.declared.paths.ScanPath.{ScanPath}
use Rattle.cell_table.specs.declared.paths.OutPin.{OutPin}
use Rattle.cell_table.specs.Cells.{Cells}
use Rattle.cell_table.specs.Entries.{DenotesCells, HoldsInTable}
use Rattle.chain_trace.specs.declared.path.Step.{Step}
use Rattle.chain_trace.specs.declared.path.Path.{Path}
use Rattle.chain_trace.specs.Paths.{scan_path_at, out_pin_at, is_driven, IsScanPath}
use Rattle.chain_trace.specs.Named.{IsPortNamed}
use Rattle.chain_trace.specs.Parities.{path_parity}
use Rattle.chain_trace.specs.Faults.{IsTraceFault}

-- instance cell in-pin out-pin bits
abbrev pub entry_text : Option Instance → Option ScanPath → Option OutPin → List ℕ
entry_text None path out = []
entry_text (Some placed) None out = []
entry_text (Some placed) (Some path) None = []
entry_text (Some placed) (Some path) (Some out) =
    placed.name ++ 32 ∷ placed.cell ++ 32 ∷ path.input ++ 32 ∷ out.pin ++ 32 ∷ decimal (length path.bits) ++ 10 ∷ []

-- the line of a step
abbrev pub step_text : Netlist → Cells → Step → List ℕ
step_text n cells step = entry_text (slice_get n.instances step.instance) (scan_path_at n cells step.instance step.path) (out_pin_at n cells step)

-- a parity, as it is printed
abbrev pub parity_text : Bool → List ℕ
parity_text false = codes "0"
parity_text true = codes "1"

-- from port, a line for each step, to port, and the parity of the whole path
abbrev pub path_text : Netlist → Cells → Path → List ℕ
path_text n cells path =
    codes "from " ++ plain_of n.nets path.input ++ 10 ∷ flat_map (step_text n cells) path.steps
    ++ codes "to " ++ plain_of n.nets path.output ++ 10 ∷ codes "parity " ++ parity_text (path_parity n cells path.steps) ++ 10 ∷ []

-- the bit of an output or inout port that has this plain name
abbrev pub IsOutputNamed : Netlist → List ℕ → NetId → Type 0
IsOutputNamed n name net = IsPortNamed is_driven n name net

-- the cells of a table's text, and the netlist of a Verilog text
pub record AreRead (table verilog : List ℕ) (cells : Cells) (n : Netlist) : Type 0 where
  pub cells_are : DenotesCells table cells
  pub netlist_is : DenotesNetlist verilog n

-- the text of the scan path of an output
pub record IsPathText (table verilog output text : List ℕ) : Type 0 where
  pub cells : Cells
  pub netlist : Netlist
  pub read : AreRead table verilog cells netlist
  pub net : NetId
  pub port : IsOutputNamed netlist output net
  pub path : Path
  pub is : IsScanPath netlist cells net path
  pub same : text ≡ path_text netlist cells path

-- NoPort: no bit of an output or inout port of the netlist has the name
pub record IsPortFault (verilog output : List ℕ) (fault : Fault) : Type 0 where
  pub netlist : Netlist
  pub netlist_is : DenotesNetlist verilog netlist
  pub none : (net : NetId) → IsOutputNamed netlist output net → ⊥
  pub is : fault ≡ of_words NoPort

-- NoDriver, TwoDrivers, Loop: going backward from the output of this name the fault is met
pub record IsOutputFault (table verilog output : List ℕ) (fault : Fault) : Type 0 where
  pub cells : Cells
  pub netlist : Netlist
  pub read : AreRead table verilog cells netlist
  pub net : NetId
  pub port : IsOutputNamed netlist output net
  pub met : IsTraceFault netlist cells net fault

-- a fault of the table (TableSyntax, TableShape), of the Verilog text (VerilogSyntax, SecondModule, VerilogNumber,
-- VerilogTwice, BadSelect), of the output's name, and of what is met going backward from it
pub data HoldsInTrace (table verilog output : List ℕ) (fault : Fault) : Type 0 where
  OfTable : HoldsInTable table fault → HoldsInTrace table verilog output fault
  OfVerilog : HoldsInVerilog verilog fault → HoldsInTrace table verilog output fault
  OfPort : IsPortFault verilog output fault → HoldsInTrace table verilog output fault
  OfOutput : IsOutputFault table verilog output fault → HoldsInTrace table verilog output fault

-- the first of them
abbrev pub IsPathFault : List ℕ → List ℕ → List ℕ → Fault → Type 0
IsPathFault table verilog output fault = IsFirstFault (HoldsInTrace table verilog output) fault
