-- Where a path ends, and which ports an out pin drives directly: such a port is free too, since a tail can take its place at the pin.
use Rattle.std.specs.Prelude.{Bool, true, false, ◌&&◌, ◌==◌, List, [], ◌∷◌, Option, Some, None}
use Rattle.netlist_core.specs.declared.netlist.NetId.{NetId}
use Rattle.netlist_core.specs.declared.netlist.Direction.{Direction}
use Rattle.netlist_core.specs.declared.netlist.Direction.TheVariants.{Input, Output, Inout}
use Rattle.netlist_core.specs.declared.netlist.Netlist.{Netlist}
use Rattle.cell_table.specs.Cells.{Cells}
use Rattle.chain_trace.specs.declared.path.Step.{Step}
use Rattle.chain_trace.specs.declared.path.Path.{Path}
use Rattle.chain_trace.specs.declared.path.Source.{Source}
use Rattle.chain_trace.specs.declared.path.Source.TheVariants as sources
use Rattle.chain_trace.specs.Paths.{source_net, has_port}
use Rattle.path_links.specs.Free.{count_of}

-- where a path ends: its last step, or its input where it has none
abbrev pub last_source : Source → List Step → Source
last_source source [] = source
last_source source (step ∷ steps) = last_source (sources.Out step) steps

-- what drives the output of a path
abbrev pub last_of : Path → Source
last_of path = last_source (sources.Port path.input) path.steps

-- an output port, which isn't inout
abbrev pub is_output : Direction → Bool
is_output Input = false
is_output Output = true
is_output Inout = false

-- the net is that of the number
abbrev pub is_net : NetId → Option NetId → Bool
is_net port None = false
is_net port (Some net) = net.0 == port.0

-- the source is an out pin that stands on the net, as its whole expression
abbrev pub is_left_at : Netlist → Cells → NetId → Source → Bool
is_left_at n cells port (sources.Port net) = false
is_left_at n cells port (sources.Out step) = is_net port (source_net n cells (sources.Out step))

-- the port is direct where this source drives it: an output port whose net bit stands at one place besides the header and its
-- declarations, as the whole expression at the out pin that is the source
abbrev pub is_direct_from : Netlist → Cells → NetId → Source → Bool
is_direct_from n cells port source = has_port is_output n port && (count_of n port == 1) && is_left_at n cells port source

-- the output of the path is direct: the out pin of its last step drives it so
abbrev pub is_direct : Netlist → Cells → Path → Bool
is_direct n cells path = is_direct_from n cells path.output (last_of path)
