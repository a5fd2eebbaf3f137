-- Scan paths: what drives and what is driven, which source feeds a sink, and the path of a scan output (the ScanChain of
-- IEEE 1450-1999, found in the netlist).
use Rattle.std.specs.Prelude.{◌≡◌, ◌≢◌, ◌<◌, ℕ, ◌==◌, ◌&&◌, if◌then◌else◌, Bool, true, false, List, [], ◌∷◌, length, slice_index_or, Option, Some, None}
use Rattle.std.specs.List.{list_any, slice_get}
use Rattle.netlist_core.specs.declared.netlist.NetId.{NetId}
use Rattle.netlist_core.specs.declared.netlist.Direction.{Direction}
use Rattle.netlist_core.specs.declared.netlist.Direction.TheVariants.{Input, Output, Inout}
use Rattle.netlist_core.specs.declared.netlist.Netlist.{Netlist}
use Rattle.netlist_core.specs.Netlists.{net_at}
use Rattle.netlist_core.specs.Joining.{AreJoined}
use Rattle.cell_table.specs.declared.paths.ScanPath.{ScanPath}
use Rattle.cell_table.specs.declared.paths.OutPin.{OutPin}
use Rattle.cell_table.specs.Cells.{Cells, ◌>>=◌}
use Rattle.cell_table.specs.Table.{paths_at}
use Rattle.chain_trace.specs.declared.path.Step.{Step}
use Rattle.chain_trace.specs.declared.path.Path.{Path}
use Rattle.chain_trace.specs.declared.path.Source.{Source}
use Rattle.chain_trace.specs.declared.path.Source.TheVariants as sources
use Rattle.chain_trace.specs.declared.path.Sink.{Sink}
use Rattle.chain_trace.specs.declared.path.Sink.TheVariants as sinks

-- a scan path of an instance's cell, by its number
abbrev pub scan_path_at : Netlist → Cells → ℕ → ℕ → Option ScanPath
scan_path_at n cells instance path = do
  placed ← slice_get n.instances instance
  paths ← paths_at placed.cell cells
  slice_get paths path

-- the out pin by which a step leaves its scan path
abbrev pub out_pin_at : Netlist → Cells → Step → Option OutPin
out_pin_at n cells step = scan_path_at n cells step.instance step.path >>= λ path. slice_get path.outs step.out

-- the net of a pin of an instance, where its expression is one net bit
abbrev pub pin_net : Netlist → ℕ → List ℕ → Option NetId
pin_net n instance pin = slice_get n.instances instance >>= net_at pin

-- an input or inout port drives, an output or inout port is driven
abbrev pub drives : Direction → Bool
drives Input = true
drives Output = false
drives Inout = true

-- an output or inout port, which the module drives
abbrev pub is_driven : Direction → Bool
is_driven Input = false
is_driven Output = true
is_driven Inout = true

-- the net is a port bit of such a direction
abbrev pub has_port : (Direction → Bool) → Netlist → NetId → Bool
has_port test n net = list_any (λ port. port.net.0 == net.0 && test port.direction) n.ports

-- the net of a source: an input or inout port bit, or an out pin of a scan path
abbrev pub source_net : Netlist → Cells → Source → Option NetId
source_net n cells (sources.Port net) = if has_port drives n net then Some net else None
source_net n cells (sources.Out step) = out_pin_at n cells step >>= λ out. pin_net n step.instance out.pin

-- the net of a sink: an output or inout port bit, or the in pin of a scan path
abbrev pub sink_net : Netlist → Cells → Sink → Option NetId
sink_net n cells (sinks.Port net) = if has_port is_driven n net then Some net else None
sink_net n cells (sinks.In instance path) = scan_path_at n cells instance path >>= λ path. pin_net n instance path.input

-- a source and a sink that aren't one port
abbrev pub AreApart : Source → Sink → Type 0
AreApart (sources.Port a) (sinks.Port b) = a ≢ b
AreApart (sources.Port a) (sinks.In instance path) = Unit {0}
AreApart (sources.Out step) sink = Unit {0}

-- the source and the sink stand on joined nets
pub record Feeds (n : Netlist) (cells : Cells) (source : Source) (sink : Sink) : Type 0 where
  pub from : NetId
  pub to : NetId
  pub from_is : source_net n cells source ≡ Some from
  pub to_is : sink_net n cells sink ≡ Some to
  pub joined : AreJoined n from.0 to.0
  pub apart : AreApart source sink

-- the source feeds the sink, and nothing else does
pub record IsOnlySource (n : Netlist) (cells : Cells) (source : Source) (sink : Sink) : Type 0 where
  pub feeds : Feeds n cells source sink
  pub only : (other : Source) → Feeds n cells other sink → other ≡ source

-- from a source over steps to a sink: each sink on the way has the source before it as its only one
abbrev pub Leads : Netlist → Cells → Source → List Step → Sink → Type 0
Leads n cells source [] sink = IsOnlySource n cells source sink
Leads n cells source (step ∷ steps) sink =
    IsOnlySource n cells source (sinks.In step.instance step.path) × Leads n cells (sources.Out step) steps sink

-- two steps of one scan path of an instance
pub record AreOfOnePath (a b : Step) : Type 0 where
  pub instance : a.instance ≡ b.instance
  pub path : a.path ≡ b.path

-- no scan path of an instance stands twice
abbrev pub StandOnce : List Step → Type 0
StandOnce steps =
    (i j : ℕ) (d : Step) → i < length steps → j < length steps → AreOfOnePath (slice_index_or steps i d) (slice_index_or steps j d) → i ≡ j

-- the path of a scan output: its input port, its steps and the output port lead to one another, and no scan path stands
-- twice
pub record IsScanPath (n : Netlist) (cells : Cells) (output : NetId) (path : Path) : Type 0 where
  pub ends : path.output ≡ output
  pub leads : Leads n cells (sources.Port path.input) path.steps (sinks.Port output)
  pub once : StandOnce path.steps
