-- How sources are found: for each class what is known of its sources among those that were gone over.
use Rattle.std.specs.Prelude.{◌≡◌, ◌≢◌, ◌<◌, ◌⊎◌, ℕ, ◌==◌, ◌&&◌, Bool, true, List, [], length, slice_index, slice_index_or, take, Some}
use Rattle.std.specs.Borrow.{Bor}
use Rattle.std.specs.List.{list_any, slice_get}
use Rattle.std.specs.HashSet.{HashSet, contains}
use Rattle.netlist_core.specs.declared.netlist.NetId.{NetId}
use Rattle.netlist_core.specs.declared.netlist.Netlist.{Netlist}
use Rattle.netlist_core.specs.Netlists.{IsNetlist}
use Rattle.netlist_core.specs.Joining.{AreClassesOf}
use Rattle.cell_table.specs.declared.paths.ScanPath.{ScanPath}
use Rattle.cell_table.specs.Cells.{Cells}
use Rattle.chain_trace.specs.declared.path.Step.{Step}
use Rattle.chain_trace.specs.declared.path.Source.{Source}
use Rattle.chain_trace.specs.declared.path.Source.TheVariants as sources
use Rattle.chain_trace.specs.declared.path.Sink.{Sink}
use Rattle.chain_trace.specs.declared.path.Sink.TheVariants as sinks
use Rattle.chain_trace.specs.declared.tally.Found.{Found}
use Rattle.chain_trace.specs.declared.tally.Found.TheVariants.{Absent, Only, Several}
use Rattle.chain_trace.specs.declared.tally.Tally.{Tally}
use Rattle.chain_trace.specs.declared.tally.Tally.TheVariants.{Empty, One, Pair, More}
use Rattle.chain_trace.specs.Paths.{drives, scan_path_at, source_net, AreApart, IsOnlySource}
use Rattle.chain_trace.specs.Faults.{HasNoSource, HasTwoSources}

-- the source drives a net of the class
pub record StandsOn (n : Netlist) (cells : Cells) (classes : List ℕ) (class : ℕ) (source : Source) : Type 0 where
  pub net : NetId
  pub net_is : source_net n cells source ≡ Some net
  pub class_is : slice_index classes net.0 ≡ class

-- of the sources that were gone over, this one alone stands there
pub record IsOnly (Stands Done : Source → Type 0) (source : Source) : Type 0 where
  pub done : Done source
  pub stands : Stands source
  pub only : (other : Source) → Done other → Stands other → other ≡ source

-- of the sources that were gone over, two different ones stand there
pub record AreTwo (Stands Done : Source → Type 0) : Type 0 where
  pub one : Source
  pub other : Source
  pub differ : one ≢ other
  pub one_done : Done one
  pub one_stands : Stands one
  pub other_done : Done other
  pub other_stands : Stands other

-- what was found of the sources that stand on a class, among those that were gone over
abbrev pub Tells : (Source → Type 0) → (Source → Type 0) → Found → Type 0
Tells Stands Done Absent = (source : Source) → Done source → Stands source → ⊥
Tells Stands Done (Only source) = IsOnly Stands Done source
Tells Stands Done Several = AreTwo Stands Done

-- exactly two sources stand there
pub record AreBoth (Stands Done : Source → Type 0) (one other : Source) : Type 0 where
  pub differ : one ≢ other
  pub one_done : Done one
  pub one_stands : Stands one
  pub other_done : Done other
  pub other_stands : Stands other
  pub only : (source : Source) → Done source → Stands source → (source ≡ one) ⊎ (source ≡ other)

-- what is kept of the sources that stand on a class, among those that were gone over
abbrev pub Keeps : (Source → Type 0) → (Source → Type 0) → Tally → Type 0
Keeps Stands Done Empty = (source : Source) → Done source → Stands source → ⊥
Keeps Stands Done (One source) = IsOnly Stands Done source
Keeps Stands Done (Pair port other) = AreBoth Stands Done (sources.Port port) other
Keeps Stands Done More = (but : NetId) → AreTwo Stands (λ source. Done source × AreApart source (sinks.Port but))

-- what is kept of each class is true of the sources that were gone over
pub record AreDrivers (n : Netlist) (cells : Cells) (classes : List ℕ) (Done : Source → Type 0) (drivers : List Tally) : Type 0 where
  pub count : length drivers ≡ length n.nets
  pub each : (class : ℕ) → class < length n.nets → Keeps (StandsOn n cells classes class) Done (slice_index_or drivers class Empty)

-- two sources that differ
abbrev pub pair_of : Source → Source → Tally
pair_of (sources.Port port) other = Pair port other
pair_of (sources.Out step) (sources.Port port) = Pair port (sources.Out step)
pair_of (sources.Out step) (sources.Out other) = More

-- what is kept with one more source
abbrev pub IsAdded : Source → Tally → Tally → Type 0
IsAdded source Empty new = new ≡ One source
IsAdded source (One other) new = ((other ≡ source) × (new ≡ One other)) ⊎ ((other ≢ source) × (new ≡ pair_of other source))
IsAdded source (Pair port other) new =
    (((sources.Port port ≡ source) ⊎ (other ≡ source)) × (new ≡ Pair port other))
    ⊎ (((sources.Port port ≢ source) × (other ≢ source)) × (new ≡ More))
IsAdded source More new = new ≡ More

-- the sources of a class
abbrev pub whole : Tally → Found
whole Empty = Absent
whole (One source) = Only source
whole (Pair port other) = Several
whole More = Several

-- the sources of a class without a port
abbrev pub IsWithout : NetId → Tally → Found → Type 0
IsWithout but Empty found = found ≡ Absent
IsWithout but (One source) found = ((source ≡ sources.Port but) × (found ≡ Absent)) ⊎ ((source ≢ sources.Port but) × (found ≡ Only source))
IsWithout but (Pair port other) found =
    ((port ≡ but) × (found ≡ Only other))
    ⊎ (((port ≢ but) × ((other ≡ sources.Port but) × (found ≡ Only (sources.Port port))))
    ⊎ ((port ≢ but) × ((other ≢ sources.Port but) × (found ≡ Several))))
IsWithout but More found = found ≡ Several

-- a source was added to what is kept of one class
pub record IsPut (old new : List Tally) (class : ℕ) (source : Source) : Type 0 where
  pub len : length new ≡ length old
  pub here : IsAdded source (slice_index_or old class Empty) (slice_index_or new class Empty)
  pub others : (k : ℕ) → k ≢ class → slice_index_or new k Empty ≡ slice_index_or old k Empty

-- the scan paths of an instance's cell
abbrev pub HasEntries : Netlist → Cells → ℕ → List ScanPath → Type 0
HasEntries n cells instance paths = (path : ℕ) → slice_get paths path ≡ scan_path_at n cells instance path

-- the scan paths of each instance's cell
pub record AreEntries (n : Netlist) (cells : Cells) (entries : List (Bor (List ScanPath))) : Type 0 where
  pub count : length entries ≡ length n.instances
  pub each : (instance : ℕ) (d : Bor (List ScanPath)) → instance < length n.instances → HasEntries n cells instance (slice_index_or entries instance d).now

-- the step's out pin stands before that of an instance, a path and an out pin
abbrev pub IsBefore : ℕ → ℕ → ℕ → Step → Type 0
IsBefore instance path out step =
    (step.instance < instance) ⊎ ((step.instance ≡ instance) × ((step.path < path) ⊎ ((step.path ≡ path) × (step.out < out))))

-- the sources that were gone over: so many ports, and the out pins before a place
abbrev pub IsDone : Netlist → ℕ → ℕ → ℕ → ℕ → Source → Type 0
IsDone n ports instance path out (sources.Port net) = list_any (λ port. port.net.0 == net.0 && drives port.direction) (take ports n.ports) ≡ true
IsDone n ports instance path out (sources.Out step) = IsBefore instance path out step

-- no source is left out
abbrev pub IsAny : Source → Type 0
IsAny source = Unit {0}

-- what was found of a sink's sources
abbrev pub Says : Netlist → Cells → Sink → Found → Type 0
Says n cells sink Absent = HasNoSource n cells sink
Says n cells sink (Only source) = IsOnlySource n cells source sink
Says n cells sink Several = HasTwoSources n cells sink

-- the same scan path of the same instance
abbrev pub same_place : ℕ × ℕ → ℕ × ℕ → Bool
same_place a b = a.0 == b.0 && a.1 == b.1

-- the marks are the scan paths of the steps
abbrev pub AreMarks : {S : Type 0} → List Step → HashSet (ℕ × ℕ) S → Type 0
AreMarks steps marks = (q : ℕ × ℕ) → contains same_place marks q ≡ list_any (λ step. same_place (step.instance, step.path) q) steps

-- what a tracer was made for
pub record Traced : Type 0 where
  pub netlist : Netlist
  pub cells : Cells

-- what a tracer holds
pub record IsTracer (n : Netlist) (cells : Cells) (classes : List ℕ) (entries : List (Bor (List ScanPath))) (drivers : List Tally) : Type 0 where
  pub netlist : IsNetlist n
  pub classes_are : AreClassesOf n classes
  pub entries_are : AreEntries n cells entries
  pub drivers_are : AreDrivers n cells classes IsAny drivers
