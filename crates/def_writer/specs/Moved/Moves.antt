-- Which pins of a placed design (LEF/DEF 5.8, NETS) move where the scan paths of a netlist become others.
use Rattle.std.specs.Prelude.{ℕ, List, Option, Some}
use Rattle.std.specs.List.{filter_map, list_any, position, slice_get}
use Rattle.netlist_core.specs.declared.netlist.Netlist.{Netlist}
use Rattle.cell_table.specs.Cells.{Cells, ◌>>=◌}
use Rattle.chain_trace.specs.declared.path.Path.{Path}
use Rattle.path_links.specs.Edits.{Link, moved}
use Rattle.net_edit.specs.Agreement.{pin_of_source, pin_of_sink}
use Rattle.def_reader.specs.declared.design.NetPin.{NetPin}
use Rattle.def_reader.specs.declared.design.Net.{Net}
use Rattle.def_reader.specs.declared.design.Design.{Design}
use Rattle.def_writer.specs.Placing.{same_pin, net_pin}
use Rattle.def_edit.specs.declared.pin_moves.PinMove.{PinMove}

-- the number of the first net in which a pin stands
abbrev pub net_of : List Net → NetPin → Option ℕ
net_of nets pin = position (λ net. list_any (same_pin pin) net.pins) nets

-- where a pin stands: the number of the first net that has it, and its place there
abbrev pub site_in : List Net → NetPin → Option (ℕ × ℕ)
site_in nets pin = do
  k ← net_of nets pin
  net ← slice_get nets k
  place ← position (same_pin pin) net.pins
  Some (k, place)

-- a pin from where it stands to the net in which another one stands
abbrev pub move_between : List Net → NetPin → NetPin → Option PinMove
move_between nets source sink = do
  at ← site_in nets sink
  to ← net_of nets source
  Some (record { from = at.0; place = at.1; to = to })

-- the move of a sink with another source: to the net of that
abbrev pub move_of : Netlist → Cells → Design → Link → Option PinMove
move_of n cells d link = do
  source ← pin_of_source n cells link.0
  sink ← pin_of_sink n cells link.1
  move_between d.nets (net_pin n source) (net_pin n sink)

-- the moves of the sinks that have another source on the new paths, in the order of these
abbrev pub moves_of : Netlist → Cells → Design → List Path → List Path → List PinMove
moves_of n cells d old new = filter_map (move_of n cells d) (moved old new)
