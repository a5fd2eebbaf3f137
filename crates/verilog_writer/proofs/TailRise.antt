-- The sorted edits of a text with tails rise, with the lines of the tails before and behind them.
use Rattle.std.proofs.Common.{◌≡◌, ℕ, zero, suc, ◌+◌, ◌<◌, ◌≤◌, Bool, true, false, inl, inr, ⊎_elim, List, [], ◌∷◌, ◌++◌, length, map, option_and_then, Option, Some, None, Ok, refl, sym, ap, ◌∙◌, subst, arith}
use Rattle.std.specs.Prelude.{IsPermutation, ◌==◌}
use Rattle.std.proofs.lemmas.Bool.{false≢true}
use Rattle.std.specs.List.{flat_map, slice_get, AllByRecursion as Each}
use Rattle.std.specs.List.Sorted.{IsNonDecreasingBy}
use Rattle.base_types.specs.declared.span.Span.{Span}
use Rattle.splice.specs.declared.Edit.{Edit}
use Rattle.splice.specs.Spliced.{AreRising}
use Rattle.netlist_core.specs.declared.netlist.NetId.{NetId}
use Rattle.netlist_core.specs.declared.netlist.Connection.{Connection}
use Rattle.netlist_core.specs.declared.netlist.Instance.{Instance}
use Rattle.netlist_core.specs.declared.netlist.Netlist.{Netlist}
use Rattle.netlist_core.specs.Netlists.{single_net, connection_at, net_at}
use Rattle.cell_table.specs.Cells.{Cells}
use Rattle.chain_trace.specs.Paths.{pin_net}
use Rattle.net_edit.specs.declared.edits.TailEdit.{TailEdit}
use Rattle.net_edit.specs.declared.edits.Edits.{Edits}
use Rattle.verilog_syntax.specs.declared.reading.Placed.{Placed}
use Rattle.verilog_syntax.specs.Laws.{tokens_in}
use Rattle.verilog_syntax.specs.Reading.{read_statements}
use Rattle.verilog_syntax.proofs.SpelledLaw.{spelled_law}
use Rattle.verilog_checks.proofs.Faultless.{passed}
use Rattle.verilog_reader.specs.Denoted.{DenotesNetlist}
use Rattle.verilog_reader.proofs.Distinct.{each_weaker, each_any}
use Rattle.verilog_writer.specs.Written.{edit_at}
use Rattle.verilog_writer.specs.Inserted.{put_in, with_lines, header_end, last_start}
use Rattle.verilog_writer.specs.Wired.{pin_connection, pin_edit, port_edit, tail_edit, expression_edits, tail_wire, tail_line, with_tails, AreEditsBetween}
use Rattle.verilog_writer.proofs.KeptEdits.{AreSlots, starts_permuted, in_row}
use Rattle.verilog_writer.proofs.KeptLists.{Has, has_right, has_flat, each_has, each_permuted, has_permuted}
use Rattle.verilog_writer.proofs.KeptPlaces.{places, has_span, has_right_span}
use Rattle.verilog_writer.proofs.KeptSlots.{slots_are}
use Rattle.verilog_writer.proofs.LinePlaces.{IsWithin, HasRoom, has_room, lines_rise}
use Rattle.verilog_writer.proofs.TailBits.{IsPinOf, in_pin_of, tail_pin_of}
use Rattle.verilog_writer.proofs.TailEdits.{IsOfKind, OfPin, OfPort, OfTail, kind_of, each_of}
use Rattle.verilog_writer.proofs.TailStarts.{IsDriven, driven, starts_apart}

-- a net at a pin stands at a connection
connected : (n : Netlist) (i : ℕ) (pin : List ℕ) (net : NetId) → pin_net n i pin ≡ Some net → (c : Connection) × (pin_connection n i pin ≡ Some c)
connected n i pin net is = by (slice_get n.instances i) is
  where
    at : (o : Option Connection) → option_and_then (λ (c : Connection). single_net c.expr.bits) o ≡ Some net → (c : Connection) × (o ≡ Some c)
    at None is = absurd cc
    at (Some c) is = (c, refl)

    by : (o : Option Instance) → option_and_then (net_at pin) o ≡ Some net → (c : Connection) × (option_and_then (λ (placed : Instance). connection_at pin placed.connections) o ≡ Some c)
    by None is = absurd cc
    by (Some placed) is = at (connection_at pin placed.connections) is

module _ (text : List ℕ) (n : Netlist) (d : DenotesNetlist text n) (cells : Cells) (edits : Edits) (b : AreEditsBetween n cells edits) (all : List Edit) (same : IsPermutation (expression_edits n cells edits) all)
    (order : IsNonDecreasingBy (λ (e : Edit). e.span.start) all) where
  abbrev ss : List Span
  ss = places d.statements

  slots : AreSlots n ss (length text)
  slots = slots_are text n d

  placed : Each (λ (y : Edit). Has y.span ss) all
  placed = each_permuted (λ (y : Edit). Has y.span ss) (expression_edits n cells edits) all same (each_of (λ (y : Edit). Has y.span ss) (expression_edits n cells edits) (λ y h. one y (kind_of n cells edits y h)))
    where
      at : (y : Edit) (s : Span) (t : List ℕ) → y ≡ record { span = s; text = t } → Has s (places d.statements) → Has y.span (places d.statements)
      at y s t e h = subst (λ (z : Edit). Has z.span (places d.statements)) (sym e) h

      pin : (i : ℕ) (pin : List ℕ) (c : Connection) → IsPinOf n i pin c → Has c.expr.span (places d.statements)
      pin i q c p = slots.pin c.expr.span (has_span n.instances i p.placed c p.at p.has)

      one : (y : Edit) → IsOfKind n cells edits y → Has y.span (places d.statements)
      one y (OfPin e h a) = at y a.connection.expr.span _ a.edit (pin e.instance _ a.connection (in_pin_of n cells e a.connection a.is))
      one y (OfPort e h a) = at y a.assign.right.span _ a.edit (slots.right a.assign.right.span (has_right_span n.assigns e.assign a.assign a.is))
      one y (OfTail t h a) = at y a.connection.expr.span _ a.edit (pin t.instance _ a.connection (tail_pin_of n t a.connection a.is))

  rise : AreRising 0 (length text) all
  rise =
      in_row ss (length text) slots.spaced all 0 placed
      (starts_permuted (expression_edits n cells edits) all same (starts_apart text n d cells b.old b.new edits b.are b.rearranged ss (length text) slots)) order (each_any (λ (y : Edit). 0 ≤ y.span.start) all (λ y. omega arith)) (omega arith)

  -- where there is a tail there is an edit
  some_edit : (t : TailEdit) → Has t edits.tails → all ≡ [] → ⊥
  some_edit t h none =
      let x = each_has (IsDriven n cells) t edits.tails (driven text n d cells b.old b.new edits b.are b.rearranged) h in
      let c = connected n t.instance t.pin x.net x.net_is in
      let y : Edit = record { span = c.0.expr.span; text = t.tail } in
      let made : Has y (tail_edit n t) = subst (λ (o : Option Connection). Has y (edit_at o t.tail)) (sym c.1) (inl refl) in
      let ports = flat_map (port_edit n edits.tails) edits.ports in
      let tails = flat_map (tail_edit n) edits.tails in
      let there : Has y all = has_permuted y (expression_edits n cells edits) all same
      (has_right y (flat_map (pin_edit n cells edits.tails) edits.pins) (ports ++ tails) (has_right y ports tails (has_flat (tail_edit n) t y edits.tails h made))) in
      subst (λ (l : List Edit). Has y l) none there

  with_all : (list : List Edit) → all ≡ list → (list ≡ [] → ⊥) → (wires assigns : List ℕ) → HasRoom text d.statements → AreRising 0 (length text) (with_lines text wires assigns list)
  with_all [] is some wires assigns room = absurd (some refl)
  with_all (e ∷ es) is some wires assigns room =
      let within : Each (λ (y : Edit). IsWithin (header_end (tokens_in text)) (last_start (tokens_in text)) y.span) (e ∷ es)
      = subst (λ (l : List Edit). Each (λ (y : Edit). IsWithin (header_end (tokens_in text)) (last_start (tokens_in text)) y.span) l) is
      (each_weaker (λ (y : Edit). Has y.span ss) (λ (y : Edit). IsWithin (header_end (tokens_in text)) (last_start (tokens_in text)) y.span) all
      (λ y h. each_has (IsWithin (header_end (tokens_in text)) (last_start (tokens_in text))) y.span ss room.each h) placed) in
      let inside = room.within in
      lines_rise (header_end (tokens_in text)) (last_start (tokens_in text)) (length text) wires assigns e es (omega (arith, inside)) within (subst (AreRising 0 (length text)) is rise)

  room_of : (ps : List Placed) → read_statements text ≡ Ok ps → HasRoom text ps
  room_of [] read = let s = spelled_law text [] read in absurd s.good.order
  room_of (h ∷ body) read = has_room text h body read

  tails_case : (ts : List TailEdit) → ((t : TailEdit) → Has t ts → all ≡ [] → ⊥) → AreRising 0 (length text) (with_tails text n ts all)
  tails_case [] some = rise
  tails_case (t ∷ ts) some = with_all all refl (some t (inl refl)) (flat_map tail_wire (t ∷ ts)) (flat_map (tail_line n (t ∷ ts)) (t ∷ ts)) (room_of d.statements (passed text d.statements d.reads).read)

  pub tails_rise : AreRising 0 (length text) (with_tails text n edits.tails all)
  tails_rise = tails_case edits.tails some_edit

-- a list that isn't empty
pub not_empty : {X : Type 0} (xs : List X) (empty : Bool) → empty ≡ (length xs == 0) → empty ≡ false → xs ≡ [] → ⊥
not_empty xs empty is none same = let e : (length xs == 0) ≡ true = ap (λ (l : List _). length l == 0) same in false≢true (sym none ∙ is ∙ e)

-- lines put before and behind
pub lines_put : (text : List ℕ) (n : Netlist) (tails : List TailEdit) (all middle new : List Edit) (header end : ℕ) (wires assigns : List ℕ) → (tails ≡ [] → ⊥) → header ≡ header_end (tokens_in text) → end ≡ last_start (tokens_in text)
    → wires ≡ flat_map tail_wire tails → assigns ≡ flat_map (tail_line n tails) tails → middle ≡ put_in header wires ∷ all → new ≡ middle ++ put_in end assigns ∷ [] → new ≡ with_tails text n tails all
lines_put text n [] all middle new header end wires assigns some h e w a m is = absurd (some refl)
lines_put text n (t ∷ ts) all middle new header end wires assigns some h e w a m is =
    is ∙ ap (λ (l : List Edit). l ++ put_in end assigns ∷ []) m ∙ rw (h, e, w, a) refl
