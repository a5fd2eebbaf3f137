-- What the calls know on their way over paths, ports and what is asked for.
use Rattle.std.specs.Prelude.{◌≡◌, ◌≤◌, ℕ, Bool, true, ◌==◌, ◌&&◌, ◌||◌, nat_lt, if◌then◌else◌, List, [], ◌∷◌, ◌++◌, length, map, All, IsTrue, Contains, Option, Some, None}
use Rattle.std.specs.Borrow.{Bor}
use Rattle.std.specs.HashSet.{HashSet, contains}
use Rattle.std.specs.List.{list_any, slice_get}
use Rattle.std.specs.Str.{bytes_eq}
use Rattle.base_types.specs.declared.fault.Fault.{Fault}
use Rattle.base_types.specs.declared.fault.FileKind.{FileKind}
use Rattle.base_types.specs.declared.fault.Spot.{Spot}
use Rattle.base_types.specs.declared.fault.Spot.TheVariants as spots
use Rattle.base_types.specs.declared.kind.Kind.TheVariants.{TooManyPaths}
use Rattle.base_types.specs.Faults.{at_line, number_of}
use Rattle.base_types.specs.FirstFault.{IsFirstFault}
use Rattle.netlist_core.specs.declared.netlist.NetId.{NetId}
use Rattle.netlist_core.specs.declared.netlist.Netlist.{Netlist}
use Rattle.netlist_core.specs.Netlists.{plain_of}
use Rattle.cell_table.specs.Cells.{Cells}
use Rattle.chain_trace.specs.declared.path.Path.{Path}
use Rattle.chain_trace.specs.declared.path.Step.{Step}
use Rattle.chain_trace.specs.Paths.{is_driven, has_port, IsScanPath}
use Rattle.chain_trace.specs.Faults.{IsTraceFault, IsAmong, line_of_instance}
use Rattle.chain_trace.specs.Drivers.{same_place}
use Rattle.traced_paths.specs.Asked.{Asked, outputs_of}
use Rattle.traced_paths.specs.Traced.{AsksTooMany, NameEntries, steps_of}

-- so many bits, which are few enough
pub record AreFew (bits total : ℕ) : Type 0 where
  pub is : total ≡ bits
  pub few : total ≤ 262144

-- nets of output ports that have the names that are asked for
pub record AreOutputs (n : Netlist) (asked : List Asked) (nets : List NetId) : Type 0 where
  pub names : map (plain_of n.nets) nets ≡ outputs_of asked
  pub ports : All (λ net. IsTrue (has_port is_driven n net)) nets
  pub few : length nets ≤ 256

-- and a set of these names
pub record HaveOutputs (n : Netlist) (asked : List Asked) (nets : List NetId) {S : Type 0} (seen : HashSet (Bor (List ℕ)) S) : Type 0 where
  pub outputs : AreOutputs n asked nets
  pub seen_are : (q : Bor (List ℕ)) → contains (λ x y. bytes_eq x.now y.now) seen q ≡ list_any (λ name. bytes_eq name q.now) (outputs_of asked)

-- 256 paths are asked for before, and one more asks for another
pub record AreFull (before : List Asked) (one : Asked) : Type 0 where
  pub full : length (outputs_of before) ≡ 256
  pub more : length (outputs_of (before ++ one ∷ [])) ≡ 257

-- the 257th path is asked for
pub record IsTooMany (file : FileKind) (asked : List Asked) (fault : Fault) : Type 0 where
  pub line : ℕ
  pub asks : AsksTooMany asked line
  pub is : fault ≡ at_line TooManyPaths file line

-- the line of a spot, 0 where it has none
abbrev pub line_of : Spot → ℕ
line_of (spots.Line line) = line
line_of (spots.Cell name) = 0
line_of spots.Nowhere = 0

-- of two faults of one file, the first is of the lesser kind, or of this kind at the lesser line
abbrev pub precedes : Fault → Fault → Bool
precedes a b = nat_lt (number_of a.kind) (number_of b.kind) || (number_of a.kind == number_of b.kind && nat_lt (line_of a.spot) (line_of b.spot))

-- the fault that comes first
abbrev pub earlier : Option Fault → Fault → Fault
earlier None fault = fault
earlier (Some first) fault = if precedes fault first then fault else first

-- going backward from one of these outputs the fault is met
pub record IsMetFrom (n : Netlist) (cells : Cells) (nets : List NetId) (fault : Fault) : Type 0 where
  pub net : NetId
  pub there : Contains nets net
  pub met : IsTraceFault n cells net fault

-- the paths of these outputs, in order
pub record AreTraced (n : Netlist) (cells : Cells) (nets : List NetId) (paths : List Path) : Type 0 where
  pub outputs : map (λ p. p.output) paths ≡ nets
  pub each : All (λ p. IsScanPath n cells p.output p) paths
  pub entries : NameEntries n cells paths

-- the first fault that is met from these outputs, or else their paths
abbrev pub AreTracedSoFar : Netlist → Cells → List NetId → List Path → Option Fault → Type 0
AreTracedSoFar n cells nets paths None = AreTraced n cells nets paths
AreTracedSoFar n cells nets paths (Some fault) = IsFirstFault (IsMetFrom n cells nets) fault

-- the step's scan path is marked
abbrev pub is_marked : {S : Type 0} → HashSet (ℕ × ℕ) S → Step → Bool
is_marked marks step = contains same_place marks (step.instance, step.path)

-- the line of an instance, of which a scan path stands here and is marked
pub record IsMarked (n : Netlist) {S : Type 0} (marks : HashSet (ℕ × ℕ) S) (steps : List Step) (line : ℕ) : Type 0 where
  pub step : Step
  pub there : Contains steps step
  pub marked : is_marked marks step ≡ true
  pub is : line ≡ line_of_instance (slice_get n.instances step.instance)

-- the line of an instance, of which a scan path stands on a path and on one before it
pub record StandsAgain (n : Netlist) (paths : List Path) (line : ℕ) : Type 0 where
  pub front : List Path
  pub path : Path
  pub behind : List Path
  pub is : paths ≡ front ++ path ∷ behind
  pub step : Step
  pub there : Contains path.steps step
  pub again : IsAmong (steps_of front) step
  pub line_is : line ≡ line_of_instance (slice_get n.instances step.instance)
