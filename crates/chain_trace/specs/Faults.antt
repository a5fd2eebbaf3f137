-- Where no path meets a scan output: the first fault that is met going backward from it.
use Rattle.std.specs.Prelude.{◌≡◌, ◌≢◌, ◌<◌, ◌⊎◌, ℕ, ◌==◌, List, [], ◌∷◌, length, slice_index_or, Option, Some, None}
use Rattle.std.specs.List.{slice_get, find}
use Rattle.base_types.specs.declared.fault.Fault.{Fault}
use Rattle.base_types.specs.declared.fault.FileKind.TheVariants.{Verilog}
use Rattle.base_types.specs.declared.kind.Kind.TheVariants as kinds
use Rattle.base_types.specs.Faults.{at_line}
use Rattle.netlist_core.specs.declared.netlist.NetId.{NetId}
use Rattle.netlist_core.specs.declared.netlist.Port.{Port}
use Rattle.netlist_core.specs.declared.netlist.Instance.{Instance}
use Rattle.netlist_core.specs.declared.netlist.Netlist.{Netlist}
use Rattle.cell_table.specs.Cells.{Cells}
use Rattle.chain_trace.specs.declared.path.Step.{Step}
use Rattle.chain_trace.specs.declared.path.Source.{Source}
use Rattle.chain_trace.specs.declared.path.Source.TheVariants as sources
use Rattle.chain_trace.specs.declared.path.Sink.{Sink}
use Rattle.chain_trace.specs.declared.path.Sink.TheVariants as sinks
use Rattle.chain_trace.specs.Paths.{Feeds, IsOnlySource, AreOfOnePath, StandOnce}

-- going backward from one sink over steps, the nearest first, another is met
abbrev pub Meets : Netlist → Cells → Sink → List Step → Sink → Type 0
Meets n cells from [] sink = from ≡ sink
Meets n cells from (step ∷ steps) sink =
    IsOnlySource n cells (sources.Out step) from × Meets n cells (sinks.In step.instance step.path) steps sink

-- a trace from the output meets the sink over different scan paths
pub record IsMet (n : Netlist) (cells : Cells) (output : NetId) (steps : List Step) (sink : Sink) : Type 0 where
  pub meets : Meets n cells (sinks.Port output) steps sink
  pub once : StandOnce steps

-- nothing feeds the sink
abbrev pub HasNoSource : Netlist → Cells → Sink → Type 0
HasNoSource n cells sink = (source : Source) → Feeds n cells source sink → ⊥

-- two different sources feed the sink
pub record HasTwoSources (n : Netlist) (cells : Cells) (sink : Sink) : Type 0 where
  pub one : Source
  pub other : Source
  pub differ : one ≢ other
  pub one_feeds : Feeds n cells one sink
  pub other_feeds : Feeds n cells other sink

-- the step's scan path stands among these steps
abbrev pub IsAmong : List Step → Step → Type 0
IsAmong steps step = (k : ℕ) × (k < length steps) × AreOfOnePath (slice_index_or steps k step) step

-- the line of a port, 0 where there is none
abbrev pub line_of_port : Option Port → ℕ
line_of_port None = 0
line_of_port (Some port) = port.line

-- the line of an instance, 0 where there is none
abbrev pub line_of_instance : Option Instance → ℕ
line_of_instance None = 0
line_of_instance (Some placed) = placed.line

-- the line of the port's direction statement, or of the instance
abbrev pub sink_line : Netlist → Sink → ℕ
sink_line n (sinks.Port net) = line_of_port (find (λ port. port.net.0 == net.0) n.ports)
sink_line n (sinks.In instance path) = line_of_instance (slice_get n.instances instance)

-- a sink that is met has no source: NoDriver, at its line
pub record IsNoDriver (n : Netlist) (cells : Cells) (output : NetId) (fault : Fault) : Type 0 where
  pub steps : List Step
  pub sink : Sink
  pub met : IsMet n cells output steps sink
  pub none : HasNoSource n cells sink
  pub is : fault ≡ at_line kinds.NoDriver Verilog (sink_line n sink)

-- a sink that is met has several sources: TwoDrivers, at its line
pub record IsTwoDrivers (n : Netlist) (cells : Cells) (output : NetId) (fault : Fault) : Type 0 where
  pub steps : List Step
  pub sink : Sink
  pub met : IsMet n cells output steps sink
  pub two : HasTwoSources n cells sink
  pub is : fault ≡ at_line kinds.TwoDrivers Verilog (sink_line n sink)

-- the only source of a sink that is met is an out pin of a scan path that was met before: Loop, at the line of its instance
pub record IsLoop (n : Netlist) (cells : Cells) (output : NetId) (fault : Fault) : Type 0 where
  pub steps : List Step
  pub sink : Sink
  pub met : IsMet n cells output steps sink
  pub step : Step
  pub only : IsOnlySource n cells (sources.Out step) sink
  pub again : IsAmong steps step
  pub is : fault ≡ at_line kinds.Loop Verilog (line_of_instance (slice_get n.instances step.instance))

-- the fault that is met going backward from the output
abbrev pub IsTraceFault : Netlist → Cells → NetId → Fault → Type 0
IsTraceFault n cells output fault = IsNoDriver n cells output fault ⊎ (IsTwoDrivers n cells output fault ⊎ IsLoop n cells output fault)
