-- The text of a netlist with edits between paths and their tails: it is the read one, with the texts of the new nets and of the
-- tails in place of the edited expressions, the tails' wires behind the header, and the assigns of freed ports before endmodule.
use Rattle.std.specs.Prelude.{◌≡◌, ℕ, List, [], ◌∷◌, ◌++◌, length, map, slice_index_or, Option, Some, None, IsPermutation}
use Rattle.std.specs.List.{flat_map, slice_get}
use Rattle.splice.specs.declared.Edit.{Edit}
use Rattle.splice.specs.Spliced.{spliced, AreRising}
use Rattle.netlist_core.specs.declared.netlist.Connection.{Connection}
use Rattle.netlist_core.specs.declared.netlist.Netlist.{Netlist}
use Rattle.netlist_core.specs.Netlists.{connection_at}
use Rattle.cell_table.specs.Cells.{Cells, ◌>>=◌}
use Rattle.path_links.specs.Edited.{in_connection}
use Rattle.net_edit.specs.declared.edits.Wire.{Wire}
use Rattle.net_edit.specs.declared.edits.Wire.TheVariants.{Net, Tail}
use Rattle.net_edit.specs.declared.edits.PinEdit.{PinEdit}
use Rattle.net_edit.specs.declared.edits.PortEdit.{PortEdit}
use Rattle.net_edit.specs.declared.edits.TailEdit.{TailEdit}
use Rattle.net_edit.specs.declared.edits.Edits.{Edits}
use Rattle.net_edit.specs.Rearranged.{AreRearranged}
use Rattle.net_edit.specs.Wires.{AreEditsFor}
use Rattle.chain_trace.specs.declared.path.Path.{Path}
use Rattle.verilog_syntax.specs.declared.statement.Declared.TheVariants.{Wire as WireKind}
use Rattle.verilog_names.specs.Declarations.{Declaration}
use Rattle.verilog_reader.specs.Denoted.{Declares}
use Rattle.verilog_writer.specs.Written.{text_of, edit_at, right_edit}
use Rattle.verilog_writer.specs.Inserted.{wire_line, assign_line, with_lines}

-- the name of a tail, where there is one
abbrev pub name_or_none : Option TailEdit → List ℕ
name_or_none None = []
name_or_none (Some t) = t.tail

-- the Verilog text of a wire
abbrev pub wire_text : Netlist → List TailEdit → Wire → List ℕ
wire_text n tails (Net net) = text_of n net
wire_text n tails (Tail tail) = name_or_none (slice_get tails tail)

-- the connection at a pin of an instance
abbrev pub pin_connection : Netlist → ℕ → List ℕ → Option Connection
pin_connection n instance pin = do
  placed ← slice_get n.instances instance
  connection_at pin placed.connections

-- the edit of an in pin in the text
abbrev pub pin_edit : Netlist → Cells → List TailEdit → PinEdit → List Edit
pin_edit n cells tails e = edit_at (in_connection n cells e.instance e.path) (wire_text n tails e.source)

-- of the right side of an assign
abbrev pub port_edit : Netlist → List TailEdit → PortEdit → List Edit
port_edit n tails e = right_edit (slice_get n.assigns e.assign) (wire_text n tails e.source)

-- and of the out pin at which a tail stands
abbrev pub tail_edit : Netlist → TailEdit → List Edit
tail_edit n t = edit_at (pin_connection n t.instance t.pin) t.tail

-- the edits of expressions
abbrev pub expression_edits : Netlist → Cells → Edits → List Edit
expression_edits n cells edits =
    flat_map (pin_edit n cells edits.tails) edits.pins ++ (flat_map (port_edit n edits.tails) edits.ports ++ flat_map (tail_edit n) edits.tails)

-- the line that declares a tail
abbrev pub tail_wire : TailEdit → List ℕ
tail_wire t = wire_line t.tail

-- the line that assigns the port of a tail
abbrev pub tail_line : Netlist → List TailEdit → TailEdit → List ℕ
tail_line n tails t = assign_line (text_of n t.port) (wire_text n tails t.source)

-- with the lines of the tails, where there are any
abbrev pub with_tails : List ℕ → Netlist → List TailEdit → List Edit → List Edit
with_tails text n [] all = all
with_tails text n (t ∷ ts) all = with_lines text (flat_map tail_wire (t ∷ ts)) (flat_map (tail_line n (t ∷ ts)) (t ∷ ts)) all

-- the text with the edits in the order of their places, and the lines of the tails
pub record IsWiredText (text : List ℕ) (n : Netlist) (cells : Cells) (edits : Edits) (written : List ℕ) : Type 0 where
  pub all : List Edit
  pub same : IsPermutation (expression_edits n cells edits) all
  pub rising : AreRising 0 (length text) (with_tails text n edits.tails all)
  pub is : written ≡ spliced text (with_tails text n edits.tails all)

-- the edits are those between some paths, of which the new ones have the steps of the old ones
pub record AreEditsBetween (n : Netlist) (cells : Cells) (edits : Edits) : Type 0 where
  pub old : List Path
  pub new : List Path
  pub are : AreEditsFor n cells old new edits
  pub rearranged : AreRearranged n cells old new

-- a wire of this name
abbrev pub declared_wire : List ℕ → Declaration
declared_wire name = record { name = name; kind = WireKind; bounds = None }

-- the second text declares wires of these names, and then what the first one declares
pub record DeclareBehind (text : List ℕ) (names : List (List ℕ)) (other : List ℕ) : Type 0 where
  pub declared : List Declaration
  pub here : Declares text declared
  pub there : Declares other (map declared_wire names ++ declared)
