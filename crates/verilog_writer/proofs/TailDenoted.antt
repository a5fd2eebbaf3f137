-- What is read of a text with tails denotes the netlist with the edits, by names, with the tails' wires in front.
use Rattle.std.proofs.Common.{◌≡◌, ℕ, suc, ◌+◌, ◌<◌, List, [], ◌∷◌, ◌++◌, length, map, refl, sym, ap, ap₂, arith}
use Rattle.std.specs.List.{flat_map, AllByRecursion as Each}
use Rattle.splice.specs.declared.Edit.{Edit}
use Rattle.splice.specs.Spliced.{AreRising}
use Rattle.netlist_core.specs.declared.netlist.Netlist.{Netlist}
use Rattle.cell_table.specs.Cells.{Cells}
use Rattle.path_links.specs.Edited.{map_from}
use Rattle.net_edit.specs.declared.edits.TailEdit.{TailEdit}
use Rattle.net_edit.specs.declared.edits.Edits.{Edits}
use Rattle.net_edit.specs.Applied.{tail_assign}
use Rattle.net_edit.specs.Tails.{net_named}
use Rattle.net_edit.specs.Wires.{net_of_wire, names_of}
use Rattle.verilog_syntax.specs.declared.reading.Placed.{Placed}
use Rattle.verilog_writer.specs.Written.{text_of}
use Rattle.verilog_writer.specs.Inserted.{BitAssign, assign_line, bit_line, IsBitAssign}
use Rattle.verilog_writer.specs.Wired.{wire_text, tail_line}
use Rattle.verilog_writer.proofs.KeptEdits.{StartsApart}
use Rattle.verilog_writer.proofs.KeptNames.{put_instance, put_assign}
use Rattle.verilog_writer.proofs.TailBits.{at_pin, at_right}
use Rattle.verilog_writer.proofs.TailEdits.{IsNearText}
use Rattle.verilog_writer.proofs.WireParts.{IsNearAssign}

-- rising edits begin at different places
later_starts : (es : List Edit) (n at end : ℕ) → n < at → AreRising at end es → Each (λ (y : Edit). n ≡ y.span.start → ⊥) es
later_starts [] n at end lt rising = tt
later_starts (e ∷ es) n at end lt rising =
    let a = rising.0 in
    let b = rising.1 in
    ((λ same. omega (arith, same)), later_starts es n (e.span.end + 1) end (omega arith) rising.3)

pub rising_apart : (es : List Edit) (at end : ℕ) → AreRising at end es → StartsApart es
rising_apart [] at end rising = tt
rising_apart (e ∷ es) at end rising = let b = rising.1 in (later_starts es e.span.start (e.span.end + 1) end (omega arith) rising.3, rising_apart es (e.span.end + 1) end rising.3)

-- the bits of the assigns of freed ports
pub record IsTailBits (n : Netlist) (ps : List Placed) (edits : Edits) (t : TailEdit) : Type 0 where
  pub left : IsNearText n ps edits (text_of n t.port) t.port
  pub right : IsNearText n ps edits (wire_text n edits.tails t.source) (net_of_wire n t.source)

module _ (n : Netlist) (ps : List Placed) (edits : Edits) where
  unfoldable pub tail_assigns : (ts : List TailEdit) → Each (IsTailBits n ps edits) ts → List BitAssign
  tail_assigns [] each = []
  tail_assigns (t ∷ ts) each = record { left = each.0.left.bit; right = each.0.right.bit } ∷ tail_assigns ts each.1

  pub tail_lines : (ts : List TailEdit) (each : Each (IsTailBits n ps edits) ts) → flat_map bit_line (tail_assigns ts each) ≡ flat_map (tail_line n edits.tails) ts
  unfolding tail_assigns
  tail_lines [] each = refl
  tail_lines (t ∷ ts) each =
      ap₂ (λ (a b : List ℕ). a ++ b) (ap₂ (λ (l r : List ℕ). assign_line l r) (sym each.0.left.written) (sym each.0.right.written)) (tail_lines ts each.1)

  pub near_assigns : (ts : List TailEdit) (each : Each (IsTailBits n ps edits) ts) → Each (IsNearAssign ps (names_of edits)) (tail_assigns ts each)
  unfolding tail_assigns
  near_assigns [] each = tt
  near_assigns (t ∷ ts) each = (record { left = each.0.left.near; right = each.0.right.near }, near_assigns ts each.1)

  pub bit_assigns : (ts : List TailEdit) (each : Each (IsTailBits n ps edits) ts) → Each IsBitAssign (tail_assigns ts each)
  unfolding tail_assigns
  bit_assigns [] each = tt
  bit_assigns (t ∷ ts) each = (record { left = each.0.left.near.is; right = each.0.right.near.is }, bit_assigns ts each.1)

  pub count_assigns : (ts : List TailEdit) (each : Each (IsTailBits n ps edits) ts) → length (tail_assigns ts each) ≡ length ts
  unfolding tail_assigns
  count_assigns [] each = refl
  count_assigns (t ∷ ts) each = ap (λ (k : ℕ). suc k) (count_assigns ts each.1)

-- the netlist with the edits
abbrev pub put_netlist : Netlist → Cells → Edits → Netlist
put_netlist n cells edits = record {
  «module» = n.«module»;
  line = n.line;
  nets = n.nets ++ map net_named (names_of edits);
  declared = n.declared;
  ports = n.ports;
  assigns = map_from (put_assign (λ k. at_right n edits k)) 0 n.assigns ++ map (tail_assign n) edits.tails;
  instances = map_from (put_instance (λ k pin. at_pin n cells edits k pin)) 0 n.instances;
}
