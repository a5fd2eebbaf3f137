-- Other nets at in pins and at the right sides of assigns.
use Rattle.std.specs.Prelude.{ℕ, ◌+◌, Bool, ◌&&◌, ◌==◌, List, [], ◌∷◌, Option, Some, None, option_map, find}
use Rattle.std.specs.Str.{bytes_eq}
use Rattle.std.specs.List.{slice_get}
use Rattle.netlist_core.specs.declared.netlist.NetId.{NetId}
use Rattle.netlist_core.specs.declared.netlist.Bit.TheVariants.{Net}
use Rattle.netlist_core.specs.declared.netlist.Expr.{Expr}
use Rattle.netlist_core.specs.declared.netlist.Assign.{Assign}
use Rattle.netlist_core.specs.declared.netlist.Connection.{Connection}
use Rattle.netlist_core.specs.declared.netlist.Netlist.{Netlist}
use Rattle.netlist_core.specs.Netlists.{connection_at}
use Rattle.cell_table.specs.declared.paths.ScanPath.{ScanPath}
use Rattle.cell_table.specs.Cells.{Cells, ◌>>=◌}
use Rattle.chain_trace.specs.Paths.{scan_path_at}
use Rattle.path_links.specs.declared.edits.PinEdit.{PinEdit}
use Rattle.path_links.specs.declared.edits.PortEdit.{PortEdit}

-- the expression, or in its place the net that is given
abbrev pub edited_expr : Option NetId → Expr → Expr
edited_expr None expr = expr
edited_expr (Some net) expr = record { bits = Net net ∷ []; span = expr.span }

-- the in pin of a scan path
abbrev pub input_of : Option ScanPath → List ℕ
input_of None = []
input_of (Some path) = path.input

-- the edit is that of the pin of an instance
abbrev pub is_edit_of_pin : Netlist → Cells → ℕ → List ℕ → PinEdit → Bool
is_edit_of_pin n cells instance pin e = e.instance == instance && bytes_eq (input_of (scan_path_at n cells e.instance e.path)) pin

-- the net that the edits put at a pin, if any does
abbrev pub pin_source : Netlist → Cells → List PinEdit → ℕ → List ℕ → Option NetId
pin_source n cells pins instance pin = option_map (λ e. e.source) (find (is_edit_of_pin n cells instance pin) pins)

-- each member with its place, from k on
abbrev pub map_from : {X Y : Type 0} → (ℕ → X → Y) → ℕ → List X → List Y
map_from f k [] = []
map_from f k (x ∷ xs) = f k x ∷ map_from f (k + 1) xs

-- the net that the edits put at the right of an assign, if any does
abbrev pub assign_source : List PortEdit → ℕ → Option NetId
assign_source ports k = option_map (λ e. e.source) (find (λ e. e.assign == k) ports)

-- an assign with the edits
abbrev pub edited_assign : List PortEdit → ℕ → Assign → Assign
edited_assign ports k assign = record { left = assign.left; right = edited_expr (assign_source ports k) assign.right; line = assign.line }

-- the connection at the in pin of a scan path
abbrev pub in_connection : Netlist → Cells → ℕ → ℕ → Option Connection
in_connection n cells instance path = do
  placed ← slice_get n.instances instance
  entered ← scan_path_at n cells instance path
  connection_at entered.input placed.connections
