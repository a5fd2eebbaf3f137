-- The paths that are asked for, and the faults for which there are none.
use Rattle.std.specs.Prelude.{◌≡◌, ◌≢◌, ◌⊎◌, ℕ, List, [], ◌∷◌, ◌++◌, length, map, All, IsTrue, Contains, Some}
use Rattle.std.specs.List.{flat_map, slice_get}
use Rattle.base_types.specs.Faults.{at_line}
use Rattle.base_types.specs.declared.fault.Fault.{Fault}
use Rattle.base_types.specs.declared.fault.FileKind.{FileKind}
use Rattle.base_types.specs.declared.fault.FileKind.TheVariants.{Verilog}
use Rattle.base_types.specs.declared.kind.Kind.TheVariants.{NoPort, TooManyPaths, SharedCell}
use Rattle.netlist_core.specs.declared.netlist.NetId.{NetId}
use Rattle.netlist_core.specs.declared.netlist.Netlist.{Netlist}
use Rattle.netlist_core.specs.Netlists.{plain_of}
use Rattle.cell_table.specs.Cells.{Cells}
use Rattle.chain_trace.specs.declared.path.Path.{Path}
use Rattle.chain_trace.specs.declared.path.Step.{Step}
use Rattle.chain_trace.specs.Paths.{drives, is_driven, has_port, AreOfOnePath, StandOnce, IsScanPath}
use Rattle.chain_trace.specs.Named.{IsPortNamed}
use Rattle.chain_trace.specs.Parities.{NamesEntry}
use Rattle.chain_trace.specs.Faults.{IsTraceFault, line_of_instance}
use Rattle.traced_paths.specs.Asked.{Asked, outputs_of}

-- the steps of all paths, one path behind the other
abbrev pub steps_of : List Path → List Step
steps_of paths = flat_map (λ p. p.steps) paths

-- the paths of the outputs that are asked for, in order; over all of them no scan path of an instance stands twice
pub record ArePathsOf (n : Netlist) (cells : Cells) (asked : List Asked) (paths : List Path) : Type 0 where
  pub outputs : map (λ p. plain_of n.nets p.output) paths ≡ outputs_of asked
  pub ports : All (λ p. IsTrue (has_port is_driven n p.output)) paths
  pub each : All (λ p. IsScanPath n cells p.output p) paths
  pub once : StandOnce (steps_of paths)

-- the input that is asked for is no bit of an input or inout port
pub record HasNoInput (n : Netlist) (a : Asked) : Type 0 where
  pub name : List ℕ
  pub named : a.input ≡ Some name
  pub none : (net : NetId) → IsPortNamed drives n name net → ⊥

-- the output that is asked for is no bit of an output or inout port
pub record HasNoOutput (n : Netlist) (a : Asked) : Type 0 where
  pub name : List ℕ
  pub named : a.output ≡ Some name
  pub none : (net : NetId) → IsPortNamed is_driven n name net → ⊥

-- a port that is asked for isn't there, on this line
pub record LacksPort (n : Netlist) (asked : List Asked) (line : ℕ) : Type 0 where
  pub one : Asked
  pub there : Contains asked one
  pub none : HasNoInput n one ⊎ HasNoOutput n one
  pub is : line ≡ one.line

-- the 257th path is asked for, on this line
pub record AsksTooMany (asked : List Asked) (line : ℕ) : Type 0 where
  pub front : List Asked
  pub one : Asked
  pub behind : List Asked
  pub is : asked ≡ front ++ one ∷ behind
  pub full : length (outputs_of front) ≡ 256
  pub more : length (outputs_of (front ++ one ∷ [])) ≡ 257
  pub line_is : line ≡ one.line

-- going backward from an output that is asked for the fault is met
pub record IsMet (n : Netlist) (cells : Cells) (asked : List Asked) (fault : Fault) : Type 0 where
  pub name : List ℕ
  pub wanted : Contains (outputs_of asked) name
  pub net : NetId
  pub port : IsPortNamed is_driven n name net
  pub met : IsTraceFault n cells net fault

-- the path is that of an output that is asked for
pub record IsAskedPath (n : Netlist) (cells : Cells) (asked : List Asked) (path : Path) : Type 0 where
  pub wanted : Contains (outputs_of asked) (plain_of n.nets path.output)
  pub port : IsTrue (has_port is_driven n path.output)
  pub is : IsScanPath n cells path.output path

-- two paths that are asked for have a scan path of an instance in common, on the instance's line
pub record IsShared (n : Netlist) (cells : Cells) (asked : List Asked) (line : ℕ) : Type 0 where
  pub p : Path
  pub q : Path
  pub p_is : IsAskedPath n cells asked p
  pub q_is : IsAskedPath n cells asked q
  pub apart : p.output ≢ q.output
  pub step : Step
  pub other : Step
  pub on_p : Contains p.steps step
  pub on_q : Contains q.steps other
  pub same : AreOfOnePath step other
  pub is : line ≡ line_of_instance (slice_get n.instances step.instance)

-- what may be wrong with the paths that a file asks for
pub data HoldsInPaths (n : Netlist) (cells : Cells) (file : FileKind) (asked : List Asked) (fault : Fault) : Type 0 where
  OfPort : (line : ℕ) → LacksPort n asked line → fault ≡ at_line NoPort file line → HoldsInPaths n cells file asked fault
  OfCount : (line : ℕ) → AsksTooMany asked line → fault ≡ at_line TooManyPaths file line → HoldsInPaths n cells file asked fault
  OfTrace : IsMet n cells asked fault → HoldsInPaths n cells file asked fault
  OfCell : (line : ℕ) → IsShared n cells asked line → fault ≡ at_line SharedCell Verilog line → HoldsInPaths n cells file asked fault

-- each step of the paths names an entry of the table
abbrev pub NameEntries : Netlist → Cells → List Path → Type 0
NameEntries n cells paths = All (λ p. All (NamesEntry n cells) p.steps) paths
