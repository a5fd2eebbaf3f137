-- What stands newly at pins, at assigns and behind the nets where edits are applied.
use Rattle.std.specs.Prelude.{◌≡◌, ℕ, ◌==◌, ◌&&◌, Bool, List, length, map, Option, None, option_map, find}
use Rattle.std.specs.List.{position_from}
use Rattle.std.specs.Borrow.{Bor}
use Rattle.std.specs.HashMap.{HashMap, get}
use Rattle.std.specs.Str.{bytes_eq}
use Rattle.netlist_core.specs.declared.netlist.NetId.{NetId}
use Rattle.netlist_core.specs.declared.netlist.Assign.{Assign}
use Rattle.netlist_core.specs.declared.netlist.Connection.{Connection}
use Rattle.netlist_core.specs.declared.netlist.Instance.{Instance}
use Rattle.netlist_core.specs.declared.netlist.Netlist.{Netlist}
use Rattle.cell_table.specs.Cells.{Cells}
use Rattle.chain_trace.specs.Paths.{scan_path_at}
use Rattle.path_links.specs.Edited.{edited_expr, input_of}
use Rattle.net_edit.specs.declared.edits.PinEdit.{PinEdit}
use Rattle.net_edit.specs.declared.edits.PortEdit.{PortEdit}
use Rattle.net_edit.specs.declared.edits.TailEdit.{TailEdit}
use Rattle.net_edit.specs.Changes.{tail_or}
use Rattle.net_edit.specs.Tails.{one_bit}
use Rattle.net_edit.specs.Wires.{net_of_wire}

-- an instance by its place, and the name of a pin
abbrev pub PinKey : Type 0
PinKey = ℕ × Bor (List ℕ)

-- the same place and name
abbrev pub same_pin : PinKey → PinKey → Bool
same_pin a b = a.0 == b.0 && bytes_eq a.1.now b.1.now

-- the tail stands at the pin of the instance
abbrev pub is_tail_at : ℕ → List ℕ → TailEdit → Bool
is_tail_at instance pin t = t.instance == instance && bytes_eq t.pin pin

-- the edit is that of the pin of the instance
abbrev pub is_edit_at : Netlist → Cells → ℕ → List ℕ → PinEdit → Bool
is_edit_at n cells instance pin e = e.instance == instance && bytes_eq (input_of (scan_path_at n cells e.instance e.path)) pin

-- the tail of these that stands at a pin
abbrev pub tail_put : Netlist → List TailEdit → ℕ → List ℕ → Option NetId
tail_put n tails instance pin = tail_or (position_from (is_tail_at instance pin) (length n.nets) tails) None

-- the net that these edits put at a pin
abbrev pub pin_put : Netlist → Cells → List PinEdit → ℕ → List ℕ → Option NetId
pin_put n cells pins instance pin = option_map (λ e. net_of_wire n e.source) (find (is_edit_at n cells instance pin) pins)

-- the net that these edits put at the right of an assign
abbrev pub assign_put : Netlist → List PortEdit → ℕ → Option NetId
assign_put n ports place = option_map (λ e. net_of_wire n e.source) (find (λ e. e.assign == place) ports)

-- the map has what stands newly at each pin
abbrev pub HasPuts : {S : Type 0} → (ℕ → List ℕ → Option NetId) → HashMap PinKey NetId S → Type 0
HasPuts at puts = (q : PinKey) → get same_pin puts q ≡ at q.0 q.1.now

-- a connection with what stands newly at its pin
abbrev pub put_connection : (ℕ → List ℕ → Option NetId) → ℕ → Connection → Connection
put_connection at instance c = record { pin = c.pin; expr = edited_expr (at instance c.pin) c.expr }

-- an instance with what stands newly at its pins
abbrev pub put_instance : (ℕ → List ℕ → Option NetId) → ℕ → Instance → Instance
put_instance at k placed = record {
  name = placed.name;
  cell = placed.cell;
  connections = map (put_connection at k) placed.connections;
  line = placed.line;
}

-- an assign with what stands newly at its right
abbrev pub put_assign : (ℕ → Option NetId) → ℕ → Assign → Assign
put_assign at k assign = record { left = assign.left; right = edited_expr (at k) assign.right; line = assign.line }

-- the assign of a freed port
abbrev pub tail_assign : Netlist → TailEdit → Assign
tail_assign n t = record { left = one_bit t.port; right = one_bit (net_of_wire n t.source); line = 0 }
