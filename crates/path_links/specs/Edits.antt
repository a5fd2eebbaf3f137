-- What is edited where paths become others: each in pin and each port that has another source than before.
use Rattle.std.specs.Prelude.{ℕ, Bool, false, not, ◌&&◌, ◌==◌, List, [], ◌∷◌, filter, Option, Some, None, position}
use Rattle.std.specs.List.{flat_map, list_any}
use Rattle.netlist_core.specs.declared.netlist.NetId.{NetId}
use Rattle.netlist_core.specs.declared.netlist.Netlist.{Netlist}
use Rattle.chain_trace.specs.declared.path.Step.{Step}
use Rattle.chain_trace.specs.declared.path.Path.{Path}
use Rattle.chain_trace.specs.declared.path.Source.{Source}
use Rattle.chain_trace.specs.declared.path.Source.TheVariants as sources
use Rattle.chain_trace.specs.declared.path.Sink.{Sink}
use Rattle.chain_trace.specs.declared.path.Sink.TheVariants as sinks
use Rattle.path_links.specs.declared.edits.PinEdit.{PinEdit}
use Rattle.path_links.specs.declared.edits.PortEdit.{PortEdit}
use Rattle.path_links.specs.Free.{is_one_net}

-- a sink and the source that feeds it
abbrev pub Link : Type 0
Link = Source × Sink

-- from a source over steps to an output, each sink with the source before it
abbrev pub links_from : Source → List Step → NetId → List Link
links_from source [] output = (source, sinks.Port output) ∷ []
links_from source (step ∷ steps) output = (source, sinks.In step.instance step.path) ∷ links_from (sources.Out step) steps output

-- the links of a path, each a source and its sink
abbrev pub links : Path → List Link
links path = links_from (sources.Port path.input) path.steps path.output

-- the same step, out pin included
abbrev pub same_step : Step → Step → Bool
same_step a b = a.instance == b.instance && a.path == b.path && a.out == b.out

-- the same source
abbrev pub same_source : Source → Source → Bool
same_source (sources.Port a) (sources.Port b) = a.0 == b.0
same_source (sources.Port a) (sources.Out b) = false
same_source (sources.Out a) (sources.Port b) = false
same_source (sources.Out a) (sources.Out b) = same_step a b

-- the same sink
abbrev pub same_sink : Sink → Sink → Bool
same_sink (sinks.Port a) (sinks.Port b) = a.0 == b.0
same_sink (sinks.Port a) (sinks.In instance path) = false
same_sink (sinks.In instance path) (sinks.Port b) = false
same_sink (sinks.In instance path) (sinks.In other through) = instance == other && path == through

-- the same source at the same sink
abbrev pub same_link : Link → Link → Bool
same_link a b = same_source a.0 b.0 && same_sink a.1 b.1

-- the links of the new paths that the old ones haven't
abbrev pub moved : List Path → List Path → List Link
moved old new = filter (λ l. not (list_any (same_link l) (flat_map links old))) (flat_map links new)

-- the edit of an in pin, where the source has a net
abbrev pub pin_edit_of : ℕ → ℕ → Option NetId → List PinEdit
pin_edit_of instance path None = []
pin_edit_of instance path (Some net) = record { instance = instance; path = path; source = net } ∷ []

-- the place of the first assign whose whole left side is the net
abbrev pub assign_at : Netlist → NetId → Option ℕ
assign_at n net = position (λ assign. is_one_net net assign.left.bits) n.assigns

-- the edit of a port, where an assign drives it and the source has a net
abbrev pub port_edit_of : NetId → Option ℕ → Option NetId → List PortEdit
port_edit_of port None source = []
port_edit_of port (Some assign) None = []
port_edit_of port (Some assign) (Some net) = record { port = port; assign = assign; source = net } ∷ []
