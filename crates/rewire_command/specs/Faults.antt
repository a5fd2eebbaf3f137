-- The faults of a Verilog text and of what is asked of its scan path.
use Rattle.std.specs.Prelude.{◌≡◌, ◌≢◌, ℕ, Bool, false, List, [], ◌∷◌}
use Rattle.std.specs.List.{IsDistinct, list_any}
use Rattle.std.specs.Str.{bytes_eq}
use Rattle.base_types.specs.declared.fault.Fault.{Fault}
use Rattle.base_types.specs.declared.kind.Kind.TheVariants.{NoPort, WrongPort, NotPermutation, PinnedLast}
use Rattle.base_types.specs.Faults.{of_words}
use Rattle.base_types.specs.FirstFault.{IsFirstFault}
use Rattle.netlist_core.specs.declared.netlist.NetId.{NetId}
use Rattle.netlist_core.specs.declared.netlist.Netlist.{Netlist}
use Rattle.netlist_core.specs.Netlists.{plain_of}
use Rattle.verilog_checks.specs.Faults.{HoldsInVerilog}
use Rattle.verilog_reader.specs.Denoted.{DenotesNetlist}
use Rattle.chain_trace.specs.declared.path.Path.{Path}
use Rattle.chain_trace.specs.Paths.{drives, is_driven, IsScanPath}
use Rattle.chain_trace.specs.Faults.{IsTraceFault}
use Rattle.chain_trace.specs.Named.{IsPortNamed}
use Rattle.path_links.specs.Free.{is_free}
use Rattle.path_links.specs.Direct.{last_of, is_direct_from}
use Rattle.rewire_command.specs.declared.rewire.Rewire.{Rewire}
use Rattle.rewire_command.specs.Rewiring.{cells_of, instance_names}

-- the scan-out is a bit of an output or inout port, and the scan-in one of an input or inout port
pub record HasPorts (n : Netlist) (w : Rewire) (output : NetId) : Type 0 where
  pub output_is : IsPortNamed is_driven n w.scan_out output
  pub input : NetId
  pub input_is : IsPortNamed drives n w.scan_in input

-- the name is one of these
abbrev pub has : List (List ℕ) → List ℕ → Bool
has names name = list_any (λ other. bytes_eq other name) names

-- the words are these names, each once
pub record AreInstances (words names : List (List ℕ)) : Type 0 where
  pub once : IsDistinct bytes_eq words
  pub same : (name : List ℕ) → has words name ≡ has names name

-- the last of some names, or the empty one
abbrev pub last_from : List ℕ → List (List ℕ) → List ℕ
last_from name [] = name
last_from name (other ∷ others) = last_from other others

-- the last of some names
abbrev pub last_name : List (List ℕ) → List ℕ
last_name names = last_from [] names

-- the scan path of the scan-out, wherever it begins
pub record IsOfOutput (text : List ℕ) (w : Rewire) (n : Netlist) (path : Path) : Type 0 where
  pub reads : DenotesNetlist text n
  pub output : IsPortNamed is_driven n w.scan_out path.output
  pub is : IsScanPath n (cells_of w) path.output path

-- NoPort: the scan-out is no bit of an output or inout port, or the scan-in none of an input or inout port
pub record IsPortFault (text : List ℕ) (w : Rewire) (fault : Fault) : Type 0 where
  pub netlist : Netlist
  pub reads : DenotesNetlist text netlist
  pub none : (output : NetId) → HasPorts netlist w output → ⊥
  pub is : fault ≡ of_words NoPort

-- NoDriver, TwoDrivers, Loop: going backward from the scan-out the fault is met
pub record IsOutputFault (text : List ℕ) (w : Rewire) (fault : Fault) : Type 0 where
  pub netlist : Netlist
  pub reads : DenotesNetlist text netlist
  pub output : NetId
  pub port : IsPortNamed is_driven netlist w.scan_out output
  pub met : IsTraceFault netlist (cells_of w) output fault

-- WrongPort: the path of the scan-out begins at another port than the scan-in
pub record IsInputFault (text : List ℕ) (w : Rewire) (fault : Fault) : Type 0 where
  pub netlist : Netlist
  pub path : Path
  pub found : IsOfOutput text w netlist path
  pub other : plain_of netlist.nets path.input ≢ w.scan_in
  pub is : fault ≡ of_words WrongPort

-- NotPermutation: the words aren't the path's instances, each once
pub record IsOrderFault (text : List ℕ) (w : Rewire) (fault : Fault) : Type 0 where
  pub netlist : Netlist
  pub path : Path
  pub found : IsOfOutput text w netlist path
  pub other : AreInstances w.units (instance_names netlist path) → ⊥
  pub is : fault ≡ of_words NotPermutation

-- PinnedLast: the words have another last one, though the scan-out isn't free, so neither assigned nor direct
pub record IsLastFault (text : List ℕ) (w : Rewire) (fault : Fault) : Type 0 where
  pub netlist : Netlist
  pub path : Path
  pub found : IsOfOutput text w netlist path
  pub pinned : is_free netlist path.output ≡ false
  pub indirect : is_direct_from netlist (cells_of w) path.output (last_of path) ≡ false
  pub other : last_name w.units ≢ last_name (instance_names netlist path)
  pub is : fault ≡ of_words PinnedLast

-- a fault of the text (VerilogSyntax, SecondModule, VerilogNumber, VerilogTwice, BadSelect) and of what is asked
pub data HoldsInRewire (text : List ℕ) (w : Rewire) (fault : Fault) : Type 0 where
  OfVerilog : HoldsInVerilog text fault → HoldsInRewire text w fault
  OfPort : IsPortFault text w fault → HoldsInRewire text w fault
  OfOutput : IsOutputFault text w fault → HoldsInRewire text w fault
  OfInput : IsInputFault text w fault → HoldsInRewire text w fault
  OfOrder : IsOrderFault text w fault → HoldsInRewire text w fault
  OfLast : IsLastFault text w fault → HoldsInRewire text w fault

-- the first of them
abbrev pub IsRewireFault : List ℕ → Rewire → Fault → Type 0
IsRewireFault text w fault = IsFirstFault (HoldsInRewire text w) fault
