-- The netlist with edits and tails.
use Rattle.std.specs.Prelude.{◌≡◌, ℕ, ◌+◌, ◌<◌, ◌^◌, Bool, false, ◌&&◌, ◌==◌, List, [], ◌∷◌, ◌++◌, length, map, Option, Some, None}
use Rattle.std.specs.List.{flat_map, position_from}
use Rattle.std.specs.Str.{bytes_eq}
use Rattle.base_types.specs.declared.span.Span.{Span}
use Rattle.netlist_core.specs.declared.netlist.NetId.{NetId}
use Rattle.netlist_core.specs.declared.netlist.NetName.{NetName}
use Rattle.netlist_core.specs.declared.netlist.Bit.TheVariants.{Net}
use Rattle.netlist_core.specs.declared.netlist.Expr.{Expr}
use Rattle.netlist_core.specs.declared.netlist.Assign.{Assign}
use Rattle.netlist_core.specs.declared.netlist.Connection.{Connection}
use Rattle.netlist_core.specs.declared.netlist.Instance.{Instance}
use Rattle.netlist_core.specs.declared.netlist.Netlist.{Netlist}
use Rattle.netlist_core.specs.Netlists.{AreDistinct}
use Rattle.cell_table.specs.declared.paths.OutPin.{OutPin}
use Rattle.cell_table.specs.Cells.{Cells}
use Rattle.chain_trace.specs.declared.path.Path.{Path}
use Rattle.chain_trace.specs.declared.path.Source.{Source}
use Rattle.chain_trace.specs.declared.path.Source.TheVariants as sources
use Rattle.chain_trace.specs.declared.path.Sink.TheVariants as sinks
use Rattle.chain_trace.specs.Paths.{out_pin_at}
use Rattle.path_links.specs.declared.edits.PinEdit.{PinEdit}
use Rattle.path_links.specs.declared.edits.PortEdit.{PortEdit}
use Rattle.path_links.specs.Edits.{Link, moved, pin_edit_of, port_edit_of, assign_at}
use Rattle.path_links.specs.Edited.{edited_expr, map_from, pin_source, edited_assign}
use Rattle.net_edit.specs.Changes.{Change, changes, freed, tail_or, new_net}

-- the edit of an in pin: the new net of its new source
abbrev pub new_pin_edit : Netlist → Cells → List Change → Link → List PinEdit
new_pin_edit n cells fs (source, sinks.Port net) = []
new_pin_edit n cells fs (source, sinks.In instance path) = pin_edit_of instance path (new_net n cells (length n.nets) fs source)

-- the edit of an assigned port, at its assign: the same
abbrev pub new_port_edit : Netlist → Cells → List Change → Link → List PortEdit
new_port_edit n cells fs (source, sinks.Port net) = port_edit_of net (assign_at n net) (new_net n cells (length n.nets) fs source)
new_port_edit n cells fs (source, sinks.In instance path) = []

-- the ports that are freed between the paths, in the order of the paths
abbrev pub freed_between : Netlist → Cells → List Path → List Path → List Change
freed_between n cells old new = freed n cells (changes old new)

-- the edits of in pins between the paths
abbrev pub pin_edits : Netlist → Cells → List Path → List Path → List PinEdit
pin_edits n cells old new = flat_map (new_pin_edit n cells (freed_between n cells old new)) (moved old new)

-- the edits of assigned ports between the paths
abbrev pub port_edits : Netlist → Cells → List Path → List Path → List PortEdit
port_edits n cells old new = flat_map (new_port_edit n cells (freed_between n cells old new)) (moved old new)

-- the out pin is of this name
abbrev pub is_pin : List ℕ → Option OutPin → Bool
is_pin pin None = false
is_pin pin (Some out) = bytes_eq out.pin pin

-- the pin of the instance is the out pin of the source
abbrev pub is_out_pin : Netlist → Cells → ℕ → List ℕ → Source → Bool
is_out_pin n cells instance pin (sources.Port net) = false
is_out_pin n cells instance pin (sources.Out step) = step.instance == instance && is_pin pin (out_pin_at n cells step)

-- the tail that stands at a pin
abbrev pub tail_at : Netlist → Cells → List Change → ℕ → List ℕ → Option ℕ
tail_at n cells fs instance pin = position_from (λ c. is_out_pin n cells instance pin c.was) (length n.nets) fs

-- what stands newly at a pin: its tail, or the net of its edit
abbrev pub new_at : Netlist → Cells → List Change → List PinEdit → ℕ → List ℕ → Option NetId
new_at n cells fs pins instance pin = tail_or (tail_at n cells fs instance pin) (pin_source n cells pins instance pin)

-- a connection with what stands newly at its pin
abbrev pub changed_connection : Netlist → Cells → List Change → List PinEdit → ℕ → Connection → Connection
changed_connection n cells fs pins instance c = record { pin = c.pin; expr = edited_expr (new_at n cells fs pins instance c.pin) c.expr }

-- an instance with what stands newly at its pins
abbrev pub changed_instance : Netlist → Cells → List Change → List PinEdit → ℕ → Instance → Instance
changed_instance n cells fs pins k placed = record {
  name = placed.name;
  cell = placed.cell;
  connections = map (changed_connection n cells fs pins k) placed.connections;
  line = placed.line;
}

-- the span of what wasn't read
abbrev pub no_place : Span
no_place = record { start = 0; end = 0 }

-- the expression that is one net bit
abbrev pub one_bit : NetId → Expr
one_bit net = record { bits = Net net ∷ []; span = no_place }

-- the assign of a port from a net, where there is one
abbrev pub assign_of : NetId → Option NetId → List Assign
assign_of port None = []
assign_of port (Some net) = record { left = one_bit port; right = one_bit net; line = 0 } ∷ []

-- the assign of a freed port, from the new net of its new source
abbrev pub freed_assign : Netlist → Cells → List Change → Change → List Assign
freed_assign n cells fs c = assign_of c.port (new_net n cells (length n.nets) fs c.now)

-- a net of this name
abbrev pub net_named : List ℕ → NetName
net_named name = record { plain = name; text = name }

-- the netlist with the edits between the paths: each in pin and each assigned port whose source changed stands on the new net of
-- its new source, each freed port leaves its out pin for its tail and gets an assign; the tails, behind the other nets, have these names
abbrev pub rewired : Netlist → Cells → List (List ℕ) → List Path → List Path → Netlist
rewired n cells names old new =
    let fs = freed_between n cells old new in
    record {
      «module» = n.«module»;
      line = n.line;
      nets = n.nets ++ map net_named names;
      declared = n.declared;
      ports = n.ports;
      assigns = map_from (edited_assign (port_edits n cells old new)) 0 n.assigns ++ flat_map (freed_assign n cells fs) fs;
      instances = map_from (changed_instance n cells fs (pin_edits n cells old new)) 0 n.instances;
    }

-- names for the tails: one for each freed port, no two alike and none that of a net
pub record AreTailNames (n : Netlist) (fs : List Change) (names : List (List ℕ)) : Type 0 where
  pub each : length names ≡ length fs
  pub apart : AreDistinct (map (λ net. net.plain) n.nets ++ names)
  pub few : length n.nets + length names < 2 ^ 32
