-- What the edits of a text with tails make of the expressions of pins and of right sides.
use Rattle.std.proofs.Common.{◌≡◌, ℕ, zero, suc, ◌+◌, ◌<◌, Bool, true, false, cond, ◌&&◌, inl, inr, ⊎_elim, List, [], ◌∷◌, ◌++◌, length, map, option_map, option_and_then, Option, Some, None, refl, sym, ap, ◌∙◌, subst, arith}
use Rattle.std.specs.Prelude.{IsPermutation, ◌==◌, find}
use Rattle.std.specs.Option.{option_or}
use Rattle.std.specs.List.{flat_map, slice_get, position_from, AllByRecursion as Each}
use Rattle.std.specs.Str.{bytes_eq}
use Rattle.std.proofs.lemmas.Bool.{false≢true, and_parts}
use Rattle.base_types.specs.declared.span.Span.{Span}
use Rattle.base_types.proofs.TruthValues.{not_both as never_both, bytes_are, bytes_same}
use Rattle.splice.specs.declared.Edit.{Edit}
use Rattle.netlist_core.specs.declared.netlist.NetId.{NetId}
use Rattle.netlist_core.specs.declared.netlist.Assign.{Assign}
use Rattle.netlist_core.specs.declared.netlist.Connection.{Connection}
use Rattle.netlist_core.specs.declared.netlist.Instance.{Instance}
use Rattle.netlist_core.specs.declared.netlist.Netlist.{Netlist}
use Rattle.netlist_core.specs.Netlists.{connection_at, plain_of, IsInstance}
use Rattle.cell_table.specs.Cells.{Cells}
use Rattle.chain_trace.specs.Paths.{scan_path_at}
use Rattle.path_links.specs.Edited.{input_of, in_connection}
use Rattle.net_edit.specs.declared.edits.Wire.{Wire}
use Rattle.net_edit.specs.declared.edits.Wire.TheVariants.{Net, Tail}
use Rattle.net_edit.specs.declared.edits.PinEdit.{PinEdit}
use Rattle.net_edit.specs.declared.edits.PortEdit.{PortEdit}
use Rattle.net_edit.specs.declared.edits.TailEdit.{TailEdit}
use Rattle.net_edit.specs.declared.edits.Edits.{Edits}
use Rattle.net_edit.specs.Applied.{is_tail_at, is_edit_at, tail_put, pin_put, assign_put}
use Rattle.net_edit.specs.Changes.{tail_or}
use Rattle.net_edit.specs.Tails.{net_named}
use Rattle.net_edit.specs.Wires.{net_of_wire, IsWire, numbered_pin, names_of}
use Rattle.net_edit.proofs.NewEdits.{position_some}
use Rattle.verilog_syntax.specs.declared.statement.Item.{Item}
use Rattle.verilog_syntax.specs.declared.reading.Placed.{Placed}
use Rattle.verilog_reader.specs.Denoted.{DenotesNetlist}
use Rattle.verilog_reader.proofs.Checked.{each_from}
use Rattle.verilog_writer.specs.NetTexts.{net_name}
use Rattle.verilog_writer.specs.VerilogText.{NetBit, BitEdit, text_edits, changed_items}
use Rattle.verilog_writer.specs.Written.{edit_at, right_edit}
use Rattle.verilog_writer.specs.Wired.{wire_text, pin_connection, pin_edit, port_edit, tail_edit, expression_edits}
use Rattle.verilog_writer.proofs.KeptBits.{IsKnownBit, IsReplaced, Comes, kept_items, replaced_items, one_of_pins, find_some, find_none, same_number, number_same, some_same, get_has}
use Rattle.verilog_writer.proofs.KeptEdits.{connection_is, found_has, found_pin, once, StartsApart, AreSlots}
use Rattle.verilog_writer.proofs.KeptLists.{Has, one_place, has_left, has_right, has_flat, each_has, each_permuted, has_permuted}
use Rattle.verilog_writer.proofs.KeptNets.{text_tells}
use Rattle.verilog_writer.proofs.KeptPlaces.{instance_spans, right_spans, has_span, one_pin, has_right_span, one_assign}
use Rattle.verilog_writer.proofs.TailEdits.{IsNearText, IsConnected, AreTailed, IsAtConnection, IsOfKind, OfPin, OfPort, OfTail, kind_of, each_of, has_number, tail_at, longer, near_wire, near_tail}
use Rattle.verilog_writer.proofs.WireParts.{IsNearBit}

-- what stands newly at a pin, and at a right side
abbrev pub at_pin : Netlist → Cells → Edits → ℕ → List ℕ → Option NetId
at_pin n cells edits k pin = option_or (tail_put n edits.tails k pin) (pin_put n cells edits.pins k pin)

abbrev pub at_right : Netlist → Edits → ℕ → Option NetId
at_right n edits k = assign_put n edits.ports k

-- the connection at a pin of an instance
pub record IsPinOf (n : Netlist) (instance : ℕ) (pin : List ℕ) (c : Connection) : Type 0 where
  pub placed : Instance
  pub at : slice_get n.instances instance ≡ Some placed
  pub has : Has c placed.connections
  pub pin_is : c.pin ≡ pin

pub in_pin_of : (n : Netlist) (cells : Cells) (e : PinEdit) (c : Connection) → in_connection n cells e.instance e.path ≡ Some c → IsPinOf n e.instance (input_of (scan_path_at n cells e.instance e.path)) c
in_pin_of n cells e c is =
    let p = connection_is n cells (numbered_pin n e) c is in
    record { placed = p.placed; at = p.at; has = found_has (input_of (scan_path_at n cells e.instance e.path)) p.placed.connections c p.found; pin_is = p.pin }

pub tail_pin_of : (n : Netlist) (t : TailEdit) (c : Connection) → pin_connection n t.instance t.pin ≡ Some c → IsPinOf n t.instance t.pin c
tail_pin_of n t c is = by (slice_get n.instances t.instance) refl is
  where
    by : (o : Option Instance) → slice_get n.instances t.instance ≡ o → option_and_then (λ (placed : Instance). connection_at t.pin placed.connections) o ≡ Some c → IsPinOf n t.instance t.pin c
    by None at is = absurd cc
    by (Some placed) at is = record { placed = placed; at = at; has = found_has t.pin placed.connections c is; pin_is = found_pin t.pin placed.connections c is }

-- what no position is of
position_none : {X : Type 0} (test : X → Bool) (k : ℕ) (x : X) (xs : List X) → ◌≡◌ {A = Option ℕ} (position_from test k xs) None → Has x xs → test x ≡ false
position_none test k x [] is h = absurd h
position_none {X} test k x (z ∷ zs) is h = by (test z) refl is (λ more l. position_none test (k + 1) x zs more l)
  where
    by : (t : Bool) → test z ≡ t → ◌≡◌ {A = Option ℕ} (cond t (Some k) (position_from test (k + 1) zs)) None → (position_from test (k + 1) zs ≡ None → Has x zs → test x ≡ false) → test x ≡ false
    by true here is rest = absurd cc
    by false other is rest = ⊎_elim (λ (e : x ≡ z). ap test e ∙ other) (λ (l : Has x zs). rest is l) h

-- the connection that is found at a pin
record IsFoundAt (pin : List ℕ) (cs : List Connection) : Type 0 where
  connection : Connection
  is : connection_at pin cs ≡ Some connection

found_one : (pin : List ℕ) (cs : List Connection) (c : Connection) → Has c cs → c.pin ≡ pin → (o : Option Connection) → connection_at pin cs ≡ o → IsFoundAt pin cs
found_one pin cs c h same None is = absurd (never_both (bytes_eq c.pin pin) (bytes_same c.pin pin same) (find_none (λ (x : Connection). bytes_eq x.pin pin) c cs is h))
found_one pin cs c h same (Some x) is = record { connection = x; is = is }

number_plain : (ts : List TailEdit) (k : ℕ) (t : TailEdit) → slice_get ts k ≡ Some t → plain_of (map net_named (map (λ (t : TailEdit). t.tail) ts)) (record { 0 = k }) ≡ t.tail
number_plain [] k t is = absurd cc
number_plain (x ∷ ts) zero t is = let same : x ≡ t = cc in ap (λ (z : TailEdit). z.tail) same
number_plain (x ∷ ts) (suc k) t is = number_plain ts k t is

module _ (text : List ℕ) (n : Netlist) (d : DenotesNetlist text n) (cells : Cells) (edits : Edits) (are : AreTailed n cells d.statements edits) (more : List Placed) (near_known : (bit : NetBit) → IsNearBit d.statements (names_of edits) bit → IsKnownBit more bit)
    (ss : List Span) (end : ℕ) (slots : AreSlots n ss end) (all : List Edit) (same : IsPermutation (expression_edits n cells edits) all) (bits : List BitEdit) (texts : text_edits bits ≡ all)
    (known : Each (λ (e : BitEdit). IsKnownBit more e.bit) bits) (apart : StartsApart all) where
  abbrev m : Netlist
  m = longer n edits

  -- where an edit stands
  edited_place : (y : Edit) (net : NetId) → Has y (expression_edits n cells edits) → IsNearText n d.statements edits y.text net → IsReplaced more m bits y.span net
  edited_place y net h near =
      let there : Has y (text_edits bits) = subst (λ (l : List Edit). Has y l) (sym texts) (has_permuted y (expression_edits n cells edits) all same h) in
      let r = replaced_items more bits y known (subst StartsApart (sym texts) apart) there in
      record {
        bit = r.edit.bit;
        known = r.known;
        named = text_tells r.edit.bit near.bit r.known.is near.near.is (ap (λ (z : Edit). z.text) r.same ∙ near.written) ∙ sym near.named;
        is = r.is;
      }

  -- and where none does
  unedited_place : (place : Span) → ((y : Edit) → IsOfKind n cells edits y → y.span.start ≡ place.start → ⊥) → (old : List Item) → changed_items bits place old ≡ old
  unedited_place place none old =
      kept_items bits place old
      (subst (λ (l : List Edit). Each (λ (y : Edit). y.span.start ≡ place.start → ⊥) l) (sym texts)
      (each_permuted (λ (y : Edit). y.span.start ≡ place.start → ⊥) (expression_edits n cells edits) all same
      (each_of (λ (y : Edit). y.span.start ≡ place.start → ⊥) (expression_edits n cells edits) (λ y h. none y (kind_of n cells edits y h)))))

  -- places of pins and of right sides
  pin_at : (i : ℕ) (pin : List ℕ) (c : Connection) → IsPinOf n i pin c → Has c.expr.span (instance_spans n.instances)
  pin_at i pin c p = has_span n.instances i p.placed c p.at p.has

  one_of : (i k : ℕ) (pin : List ℕ) (b c : Connection) (placed : Instance) → IsPinOf n i pin b → slice_get n.instances k ≡ Some placed → Has c placed.connections → b.expr.span.start ≡ c.expr.span.start → (i ≡ k) × (pin ≡ c.pin)
  one_of i k pin b c placed p at h start =
      let mine = has_span n.instances k placed c at h in
      let place = one_place (instance_spans n.instances) 0 end b.expr.span c.expr.span slots.pins (pin_at i pin b p) mine start in
      let one = one_pin n.instances 0 end slots.pins i k p.placed placed b c p.at at p.has h place in
      (one.instance, sym p.pin_is ∙ ap (λ (z : Connection). z.pin) one.connection)

  not_both : (s t : Span) → Has s (instance_spans n.instances) → Has t (right_spans n.assigns) → s.start ≡ t.start → ⊥
  not_both s t a b start =
      let place = one_place ss 0 end s t slots.spaced (slots.pin s a) (slots.right t b) start in
      slots.apart s a (subst (λ (z : Span). Has z (right_spans n.assigns)) (sym place) b)

  -- a pin
  pins_once : (k : ℕ) (placed : Instance) → slice_get n.instances k ≡ Some placed → (b c : Connection) → Has b placed.connections → Has c placed.connections → b.pin ≡ c.pin → b ≡ c
  pins_once k placed at b c hb hc e =
      let pins = (each_has (IsInstance (length n.nets)) placed n.instances (each_from (IsInstance (length n.nets)) n.instances d.sound.instances) (get_has n.instances k placed at)).pins in
      one_of_pins placed.connections b c (once (map (λ (c : Connection). c.pin) placed.connections) pins) hb hc e

  tail_comes : (k : ℕ) (placed : Instance) (c : Connection) (number : ℕ) → slice_get n.instances k ≡ Some placed → Has c placed.connections
      → position_from (is_tail_at k c.pin) (length n.nets) edits.tails ≡ Some number → IsReplaced more m bits c.expr.span (record { 0 = number })
  tail_comes k placed c number at h is =
      let p = position_some (is_tail_at k c.pin) (length n.nets) edits.tails number is in
      let t = p.member in
      let has : Has t edits.tails = get_has edits.tails p.index t p.get in
      let both = and_parts (t.instance == k) (bytes_eq t.pin c.pin) p.passes in
      let instance : t.instance ≡ k = same_number t.instance k both.0 in
      let pin : t.pin ≡ c.pin = bytes_are t.pin c.pin both.1 in
      let mine : slice_get n.instances t.instance ≡ Some placed = subst (λ (i : ℕ). slice_get n.instances i ≡ Some placed) (sym instance) at in
      let found = found_one t.pin placed.connections c h (sym pin) (connection_at t.pin placed.connections) refl in
      let same_one : found.connection ≡ c = pins_once k placed at found.connection c (found_has t.pin placed.connections found.connection found.is) h (found_pin t.pin placed.connections found.connection found.is ∙ pin) in
      let there : pin_connection n t.instance t.pin ≡ Some c = ap (λ (o : Option Instance). option_and_then (λ (placed : Instance). connection_at t.pin placed.connections) o) mine ∙ found.is ∙ ap (λ (x : Connection). Some x) same_one in
      let y : Edit = record { span = c.expr.span; text = t.tail } in
      let made : Has y (tail_edit n t) = subst (λ (o : Option Connection). Has y (edit_at o t.tail)) (sym there) (inl refl) in
      let ports = flat_map (port_edit n edits.tails) edits.ports in
      let tails = flat_map (tail_edit n) edits.tails in
      let member : Has y (expression_edits n cells edits) = has_right y (flat_map (pin_edit n cells edits.tails) edits.pins) (ports ++ tails) (has_right y ports tails (has_flat (tail_edit n) t y edits.tails has made)) in
      let plain = number_plain edits.tails p.index t p.get in
      subst (λ (k : ℕ). IsReplaced more m bits c.expr.span (record { 0 = k })) (sym p.is) (edited_place y (record { 0 = length n.nets + p.index }) member (near_tail text n d cells edits are t p.index has plain))

  pin_edited : (k : ℕ) (placed : Instance) (c : Connection) (e : PinEdit) → slice_get n.instances k ≡ Some placed → Has c placed.connections → find (is_edit_at n cells k c.pin) edits.pins ≡ Some e
      → IsReplaced more m bits c.expr.span (net_of_wire n e.source)
  pin_edited k placed c e at h is =
      let f = find_some (is_edit_at n cells k c.pin) e edits.pins is in
      let both = and_parts (e.instance == k) (bytes_eq (input_of (scan_path_at n cells e.instance e.path)) c.pin) f.passes in
      let p = each_has (IsConnected n cells) e edits.pins are.there f.has in
      let q = in_pin_of n cells e p.connection p.is in
      let instance : e.instance ≡ k = same_number e.instance k both.0 in
      let own : q.placed ≡ placed = some_same (slice_get n.instances k) q.placed placed (subst (λ (i : ℕ). slice_get n.instances i ≡ Some q.placed) instance q.at) at in
      let there : Has p.connection placed.connections = subst (λ (i : Instance). Has p.connection i.connections) own q.has in
      let same_one : p.connection ≡ c = pins_once k placed at p.connection c there h (q.pin_is ∙ bytes_are (input_of (scan_path_at n cells e.instance e.path)) c.pin both.1) in
      let y : Edit = record { span = c.expr.span; text = wire_text n edits.tails e.source } in
      let made : Has y (pin_edit n cells edits.tails e)
      = subst (λ (o : Option Connection). Has y (edit_at o (wire_text n edits.tails e.source))) (sym p.is) (inl (ap (λ (z : Connection). let x : Edit = record { span = z.expr.span; text = wire_text n edits.tails e.source } in x) (sym same_one))) in
      edited_place y (net_of_wire n e.source)
      (has_left y (flat_map (pin_edit n cells edits.tails) edits.pins) (flat_map (port_edit n edits.tails) edits.ports ++ flat_map (tail_edit n) edits.tails) (has_flat (pin_edit n cells edits.tails) e y edits.pins f.has made))
      (near_wire text n d cells edits are e.source (each_has (λ e. IsWire n (length edits.tails) e.source) e edits.pins are.pins f.has))

  start_of : (y : Edit) (s : Span) (t : List ℕ) → y ≡ record { span = s; text = t } → y.span.start ≡ s.start
  start_of y s t is = ap (λ (z : Edit). z.span.start) is

  pin_kept : (k : ℕ) (placed : Instance) (c : Connection) → slice_get n.instances k ≡ Some placed → Has c placed.connections → ◌≡◌ {A = Option ℕ} (position_from (is_tail_at k c.pin) (length n.nets) edits.tails) None
      → find (is_edit_at n cells k c.pin) edits.pins ≡ None → (old : List Item) → changed_items bits c.expr.span old ≡ old
  pin_kept k placed c at h no_tail no_pin = unedited_place c.expr.span none
    where
      none : (y : Edit) → IsOfKind n cells edits y → y.span.start ≡ c.expr.span.start → ⊥
      none y (OfPin e has a) start =
          let one = one_of e.instance k (input_of (scan_path_at n cells e.instance e.path)) a.connection c placed (in_pin_of n cells e a.connection a.is) at h (sym (start_of y a.connection.expr.span _ a.edit) ∙ start) in
          never_both (is_edit_at n cells k c.pin e) (rw (number_same e.instance k one.0, bytes_same (input_of (scan_path_at n cells e.instance e.path)) c.pin one.1) refl)
          (find_none (is_edit_at n cells k c.pin) e edits.pins no_pin has)
      none y (OfPort e has a) start =
          not_both c.expr.span a.assign.right.span (has_span n.instances k placed c at h) (has_right_span n.assigns e.assign a.assign a.is) (sym start ∙ start_of y a.assign.right.span _ a.edit)
      none y (OfTail t has a) start =
          let one = one_of t.instance k t.pin a.connection c placed (tail_pin_of n t a.connection a.is) at h (sym (start_of y a.connection.expr.span _ a.edit) ∙ start) in
          never_both (is_tail_at k c.pin t) (rw (number_same t.instance k one.0, bytes_same t.pin c.pin one.1) refl) (position_none (is_tail_at k c.pin) (length n.nets) t edits.tails no_tail has)

  pub pin_comes : (k : ℕ) (placed : Instance) (c : Connection) → slice_get n.instances k ≡ Some placed → Has c placed.connections → Comes more m bits c.expr.span (at_pin n cells edits k c.pin)
  pin_comes k placed c at h =
      by (position_from (is_tail_at k c.pin) (length n.nets) edits.tails) (find (is_edit_at n cells k c.pin) edits.pins) (λ number is. tail_comes k placed c number at h is) (λ e is. pin_edited k placed c e at h is)
      (λ a b. pin_kept k placed c at h a b)
    where
      by : (o : Option ℕ) (p : Option PinEdit) → ((number : ℕ) → o ≡ Some number → IsReplaced more m bits c.expr.span (record { 0 = number })) → ((e : PinEdit) → p ≡ Some e → IsReplaced more m bits c.expr.span (net_of_wire n e.source))
          → (◌≡◌ {A = Option ℕ} o None → p ≡ None → (old : List Item) → changed_items bits c.expr.span old ≡ old)
          → Comes more m bits c.expr.span (option_or (tail_or o None) (option_map (λ (e : PinEdit). net_of_wire n e.source) p))
      by (Some number) p tail pin kept = tail number refl
      by None (Some e) tail pin kept = pin e refl
      by None None tail pin kept = kept refl refl

  -- a right side
  right_edited : (k : ℕ) (a : Assign) (e : PortEdit) → slice_get n.assigns k ≡ Some a → find (λ (e : PortEdit). e.assign == k) edits.ports ≡ Some e → IsReplaced more m bits a.right.span (net_of_wire n e.source)
  right_edited k a e at is =
      let f = find_some (λ (e : PortEdit). e.assign == k) e edits.ports is in
      let place : e.assign ≡ k = same_number e.assign k f.passes in
      let there : slice_get n.assigns e.assign ≡ Some a = subst (λ (i : ℕ). slice_get n.assigns i ≡ Some a) (sym place) at in
      let y : Edit = record { span = a.right.span; text = wire_text n edits.tails e.source } in
      let made : Has y (port_edit n edits.tails e) = subst (λ (o : Option Assign). Has y (right_edit o (wire_text n edits.tails e.source))) (sym there) (inl refl) in
      let ports = flat_map (port_edit n edits.tails) edits.ports in
      let tails = flat_map (tail_edit n) edits.tails in
      edited_place y (net_of_wire n e.source)
      (has_right y (flat_map (pin_edit n cells edits.tails) edits.pins) (ports ++ tails) (has_left y ports tails (has_flat (port_edit n edits.tails) e y edits.ports f.has made)))
      (near_wire text n d cells edits are e.source (each_has (λ e. IsWire n (length edits.tails) e.source) e edits.ports are.ports f.has))

  right_kept : (k : ℕ) (a : Assign) → slice_get n.assigns k ≡ Some a → find (λ (e : PortEdit). e.assign == k) edits.ports ≡ None → (old : List Item) → changed_items bits a.right.span old ≡ old
  right_kept k a at no_port = unedited_place a.right.span none
    where
      none : (y : Edit) → IsOfKind n cells edits y → y.span.start ≡ a.right.span.start → ⊥
      none y (OfPin e has b) start =
          not_both b.connection.expr.span a.right.span (pin_at e.instance _ b.connection (in_pin_of n cells e b.connection b.is)) (has_right_span n.assigns k a at) (sym (start_of y b.connection.expr.span _ b.edit) ∙ start)
      none y (OfTail t has b) start =
          not_both b.connection.expr.span a.right.span (pin_at t.instance _ b.connection (tail_pin_of n t b.connection b.is)) (has_right_span n.assigns k a at) (sym (start_of y b.connection.expr.span _ b.edit) ∙ start)
      none y (OfPort e has b) start =
          let place = one_place (right_spans n.assigns) 0 end b.assign.right.span a.right.span slots.rights (has_right_span n.assigns e.assign b.assign b.is) (has_right_span n.assigns k a at) (sym (start_of y b.assign.right.span _ b.edit) ∙ start) in
          let one = one_assign n.assigns 0 end slots.rights e.assign k b.assign a b.is at place in
          never_both (e.assign == k) (number_same e.assign k one) (find_none (λ (e : PortEdit). e.assign == k) e edits.ports no_port has)

  pub right_comes : (k : ℕ) (a : Assign) → slice_get n.assigns k ≡ Some a → Comes more m bits a.right.span (at_right n edits k)
  right_comes k a at = by (find (λ (e : PortEdit). e.assign == k) edits.ports) (λ none. right_kept k a at none) (λ e is. right_edited k a e at is)
    where
      by : (o : Option PortEdit) → (o ≡ None → (old : List Item) → changed_items bits a.right.span old ≡ old) → ((e : PortEdit) → o ≡ Some e → IsReplaced more m bits a.right.span (net_of_wire n e.source))
          → Comes more m bits a.right.span (option_map (λ (e : PortEdit). net_of_wire n e.source) o)
      by None kept edited = kept refl
      by (Some e) kept edited = edited e refl

  pub left_wide : (k : ℕ) (a : Assign) (net : NetId) → slice_get n.assigns k ≡ Some a → at_right n edits k ≡ Some net → length a.left.bits ≡ 1
  left_wide k a net at is = by (find (λ (e : PortEdit). e.assign == k) edits.ports) refl is
    where
      by : (o : Option PortEdit) → find (λ (e : PortEdit). e.assign == k) edits.ports ≡ o → option_map (λ (e : PortEdit). net_of_wire n e.source) o ≡ Some net → length a.left.bits ≡ 1
      by None found is = absurd cc
      by (Some e) found is =
          let f = find_some (λ (e : PortEdit). e.assign == k) e edits.ports found in
          let place : e.assign ≡ k = same_number e.assign k f.passes in
          each_has (λ e. (a : Assign) → slice_get n.assigns e.assign ≡ Some a → length a.left.bits ≡ 1) e edits.ports are.lefts f.has a (subst (λ (i : ℕ). slice_get n.assigns i ≡ Some a) (sym place) at)
