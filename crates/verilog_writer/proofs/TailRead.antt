-- The statements with the edits and the tails' lines denote the netlist with the edits.
use Rattle.std.proofs.Common.{◌≡◌, ℕ, ◌+◌, ◌<◌, ◌^◌, true, false, List, [], ◌∷◌, ◌++◌, length, map, take, Option, Some, Ok, refl, sym, ap, ap₂, ◌∙◌, subst, arith, append_assoc}
use Rattle.std.specs.Prelude.{IsPermutation}
use Rattle.std.specs.List.{flat_map, slice_get, AllByRecursion as Each}
use Rattle.std.proofs.lemmas.List.{append-nil, take-append-le, map-append, length-map}
use Rattle.base_types.specs.declared.span.Span.{Span}
use Rattle.splice.specs.declared.Edit.{Edit}
use Rattle.splice.specs.Spliced.{AreRising}
use Rattle.netlist_core.specs.declared.netlist.NetName.{NetName}
use Rattle.netlist_core.specs.declared.netlist.Port.{Port}
use Rattle.netlist_core.specs.declared.netlist.Assign.{Assign}
use Rattle.netlist_core.specs.declared.netlist.Connection.{Connection}
use Rattle.netlist_core.specs.declared.netlist.Netlist.{Netlist}
use Rattle.netlist_core.specs.Netlists.{NamedBit, Named, NamedPort, NamedInstance, pairs, named_port, named_instance, named_assign, IsAssign, IsInstance, IsNetlist}
use Rattle.cell_table.specs.Cells.{Cells}
use Rattle.path_links.specs.Edited.{map_from}
use Rattle.net_edit.specs.declared.edits.TailEdit.{TailEdit}
use Rattle.net_edit.specs.declared.edits.Edits.{Edits}
use Rattle.net_edit.specs.Applied.{tail_assign}
use Rattle.net_edit.specs.Tails.{net_named}
use Rattle.net_edit.specs.Wires.{IsWire, names_of}
use Rattle.verilog_syntax.specs.declared.statement.Statement.{Statement}
use Rattle.verilog_syntax.specs.declared.reading.Placed.{Placed}
use Rattle.verilog_syntax.specs.Laws.{nowhere, bare}
use Rattle.verilog_syntax.specs.declared.statement.Item.{Item}
use Rattle.verilog_syntax.specs.declared.statement.Statement.TheVariants as statements
use Rattle.verilog_syntax.specs.Reading.{read_statements}
use Rattle.verilog_syntax.specs.StatementParts.{is_header}
use Rattle.verilog_names.specs.declared.bounds.Bounds.{Bounds}
use Rattle.verilog_names.specs.Declarations.{Declaration, declarations_in, declarations, bounds_in, mentions}
use Rattle.verilog_names.specs.NameTables.{total}
use Rattle.verilog_checks.specs.Checks.{check_number, check_twice, check_select}
use Rattle.verilog_checks.specs.Faults.{differ_in_width, IsFaultless}
use Rattle.verilog_checks.proofs.Faultless.{passed, faultless}
use Rattle.verilog_reader.specs.Denoted.{item_bits, said_assigns_in, said_instances_in, seen_assign, seen_instance, first_declared, header_name, IsNetlistOf, DenotesNetlist}
use Rattle.verilog_reader.specs.Numbering.{entries, numbered}
use Rattle.verilog_reader.proofs.Checked.{IsSound, mentioned_named, each_from, each_left, each_right}
use Rattle.verilog_reader.proofs.Distinct.{Distinct, each_weaker, each_both, each_append}
use Rattle.verilog_reader.proofs.NetlistOf.{is_netlist_of, is_netlist}
use Rattle.verilog_reader.proofs.NumberedLists.{length-nets}
use Rattle.verilog_reader.proofs.Places.{named as has_entry, entries_are}
use Rattle.verilog_writer.specs.NetTexts.{net_name}
use Rattle.verilog_writer.specs.VerilogText.{NetBit, BitEdit, net_item, text_edits, changed_items, changed_statement, changed_statements, IsPlaceIn, IsNetBit, AreVerilogEdits}
use Rattle.verilog_writer.specs.Written.{IsWrittenFrom, DenotesAlike}
use Rattle.verilog_writer.specs.Inserted.{BitAssign, wire_statement, bit_expression, assign_statement, extended}
use Rattle.verilog_writer.specs.Wired.{expression_edits, DeclareBehind}
use Rattle.verilog_writer.proofs.KeptBits.{IsKnownEdit, IsKnownBit, bit_edits, bit_edits_texts, bit_edits_known, bit_edits_are}
use Rattle.verilog_writer.proofs.KeptChecks.{number_good, twice_good, select_good}
use Rattle.verilog_writer.proofs.KeptCounts.{fewer_nets}
use Rattle.verilog_writer.proofs.KeptDenoted.{nets_from, plains, ports_named, declared_plains, ports_are_named, ports_alike, length_map_from, flat_changed}
use Rattle.verilog_writer.proofs.KeptEdits.{StartsApart, AreSlots}
use Rattle.verilog_writer.proofs.KeptFrames.{AreAlike, alike, same_declarations, same_header, bare_flat}
use Rattle.verilog_writer.proofs.KeptLists.{Has, each_permuted}
use Rattle.verilog_writer.proofs.KeptNames.{put_instance, put_assign, assigns_named, instances_named, assigns_bare, instances_bare, assigns_are_named, instances_are_named, instances_come, assigns_come, bit_bits}
use Rattle.verilog_writer.proofs.KeptPlaces.{places, place_is_in, has_span, has_right_span}
use Rattle.verilog_writer.proofs.KeptSound.{changed_sound}
use Rattle.verilog_writer.proofs.KeptSlots.{slots_are}
use Rattle.verilog_writer.proofs.TailBits.{IsPinOf, in_pin_of, tail_pin_of, at_pin, at_right, pin_comes, right_comes, left_wide}
use Rattle.verilog_writer.proofs.TailEdits.{AreTailed, IsOfKind, OfPin, OfPort, OfTail, kind_of, each_of, longer, near_net, near_wire, near_edit}
use Rattle.verilog_writer.proofs.TailSeen.{front_instances, front_assigns, front_ports, instances_same, assigns_same}
use Rattle.verilog_writer.proofs.WireChecks.{sound, number_more, twice_more, select_more}
use Rattle.verilog_writer.proofs.WireParts.{IsNearBit, IsNearAssign, wires_none, assigns_none, flat_more, declared_more, bounds_same, near_known}
use Rattle.verilog_writer.proofs.TailDenoted.{rising_apart, IsTailBits, tail_assigns, near_assigns, count_assigns, put_netlist}
use Rattle.verilog_writer.proofs.WireNets.{said_plains, firsts_more, total_more}

-- lines of assigns that no edit changes
line_kept : (bits : List BitEdit) (ds : List Declaration) (all : List BitAssign) → (0 < length all → (old : List Item) → changed_items bits nowhere old ≡ old) → Each (λ (p : Placed). differ_in_width (bounds_in ds) p.statement ≡ false) (map assign_statement all)
    → Each (λ (p : Placed). differ_in_width (bounds_in ds) (changed_statement bits p.statement) ≡ false) (map assign_statement all)
line_kept bits ds [] kept fits = tt
line_kept bits ds (a ∷ all) kept fits = (
  ap (λ (xs : List Item). differ_in_width (bounds_in ds) (statements.Assign (bit_expression a.left) (record { items = xs; span = nowhere }))) (kept (omega arith) (net_item a.right ∷ [])) ∙ fits.0,
  line_kept bits ds all (λ some. kept (omega arith)) fits.1,
)

wire_kept : (bits : List BitEdit) (ds : List Declaration) (names : List (List ℕ)) → Each (λ (p : Placed). differ_in_width (bounds_in ds) (changed_statement bits p.statement) ≡ false) (map wire_statement names)
wire_kept bits ds [] = tt
wire_kept bits ds (name ∷ names) = (refl, wire_kept bits ds names)

module _ (text : List ℕ) (n : Netlist) (h : Placed) (body : List Placed) (header : is_header h.statement ≡ true) (reads : IsFaultless text (h ∷ body)) (is : IsNetlistOf (h ∷ body) n) (ok : IsNetlist n)
    (cells : Cells) (edits : Edits) (are : AreTailed n cells (h ∷ body) edits) (apart : Distinct (names_of edits)) (few : length n.nets + length edits.tails < 2 ^ 32)
    (all : List Edit) (same : IsPermutation (expression_edits n cells edits) all) (rising : AreRising 0 (length text) all) where
  abbrev ps : List Placed
  ps = h ∷ body

  abbrev d : DenotesNetlist text n
  d = record { statements = h ∷ body; reads = reads; is = is; sound = ok }

  abbrev names : List (List ℕ)
  names = names_of edits

  pub tail_bits : Each (IsTailBits n ps edits) edits.tails
  tail_bits =
      each_both (λ (t : TailEdit). t.port.0 < length n.nets) (λ (t : TailEdit). IsWire n (length edits.tails) t.source) (IsTailBits n ps edits) edits.tails
      (λ t a b. record { left = near_net text n d cells edits are t.port a; right = near_wire text n d cells edits are t.source b }) are.freed are.tails

  abbrev pub assigns : List BitAssign
  assigns = tail_assigns n ps edits edits.tails tail_bits

  near : Each (IsNearAssign ps names) assigns
  near = near_assigns n ps edits edits.tails tail_bits

  abbrev pub more : List Placed
  more = extended names assigns (h ∷ body)

  abbrev ds : List Declaration
  ds = declarations more

  near_bit : (bit : NetBit) → IsNearBit ps names bit → IsKnownBit more bit
  near_bit bit k = near_known h body header names assigns are.news bit k

  pub known_edits : Each (IsKnownEdit more) all
  known_edits =
      each_permuted (IsKnownEdit more) (expression_edits n cells edits) all same
      (each_of (IsKnownEdit more) (expression_edits n cells edits)
      (λ y has. let e = (near_edit text n d cells edits are y has).near in let k = near_bit e.bit e.near in record { bit = e.bit; is = k.is; written = e.written; known = k.known }))

  abbrev pub bits : List BitEdit
  bits = bit_edits more all known_edits

  pub texts_are : text_edits bits ≡ all
  texts_are = bit_edits_texts more all known_edits

  bits_known : Each (λ (e : BitEdit). IsKnownBit more e.bit) bits
  bits_known = bit_edits_known more all known_edits

  slots : AreSlots n (places ps) (length text)
  slots = slots_are text n d

  starts : StartsApart all
  starts = rising_apart all 0 (length text) rising

  placed : Each (λ (y : Edit). IsPlaceIn y.span ps) all
  placed = each_permuted (λ (y : Edit). IsPlaceIn y.span ps) (expression_edits n cells edits) all same (each_of (λ (y : Edit). IsPlaceIn y.span ps) (expression_edits n cells edits) (λ y has. one y (kind_of n cells edits y has)))
    where
      span_in : (y : Edit) (s : Span) (t : List ℕ) → y ≡ record { span = s; text = t } → Has s (places (h ∷ body)) → IsPlaceIn y.span (h ∷ body)
      span_in y s t e has = subst (λ (z : Edit). IsPlaceIn z.span (h ∷ body)) (sym e) (place_is_in s (h ∷ body) has)

      at : (i : ℕ) (pin : List ℕ) (c : Connection) → IsPinOf n i pin c → Has c.expr.span (places (h ∷ body))
      at i pin c p = slots.pin c.expr.span (has_span n.instances i p.placed c p.at p.has)

      one : (y : Edit) → IsOfKind n cells edits y → IsPlaceIn y.span (h ∷ body)
      one y (OfPin e has a) = span_in y a.connection.expr.span _ a.edit (at e.instance _ a.connection (in_pin_of n cells e a.connection a.is))
      one y (OfPort e has a) = span_in y a.assign.right.span _ a.edit (slots.right a.assign.right.span (has_right_span n.assigns e.assign a.assign a.is))
      one y (OfTail t has a) = span_in y a.connection.expr.span _ a.edit (at t.instance _ a.connection (tail_pin_of n t a.connection a.is))

  pub are_edits : AreVerilogEdits text ps bits
  are_edits = record {
    rising = subst (AreRising 0 (length text)) (sym texts_are) rising;
    places = bit_edits_are (λ (s : Span). IsPlaceIn s ps) more all known_edits placed;
    bits = each_weaker (λ (e : BitEdit). IsKnownBit more e.bit) (λ (e : BitEdit). IsNetBit e.bit) bits (λ e k. k.is) bits_known;
  }

  -- the statements with the lines pass
  checks : (check_number ps ≡ Ok tt) × (check_twice ps ≡ Ok tt) × (check_select ps ≡ Ok tt)
  checks = let p = passed text ps reads in (p.number, p.twice, p.select)

  number_now : check_number more ≡ Ok tt
  number_now = number_more h body header names assigns are.news near checks.0 checks.1 checks.2

  twice_now : check_twice more ≡ Ok tt
  twice_now = twice_more h body header names assigns are.news near checks.0 checks.1 checks.2 apart

  select_now : check_select more ≡ Ok tt
  select_now = select_more h body header names assigns are.news near checks.0 checks.1 checks.2

  sound_now : Each (λ q. IsSound more q.statement) more
  sound_now = sound h body header names assigns are.news near checks.0 checks.1 checks.2

  -- the longer netlist shows what the read statements say with the wires declared
  abbrev longer_n : Netlist
  longer_n = longer n edits

  agree : (q : List ℕ) → has_entry (entries ps) q ≡ true → bounds_in ds q ≡ bounds_in (declarations ps) q
  agree q k = bounds_same h body header names assigns are.news q k

  seen_instances : map (seen_instance longer_n.nets) n.instances ≡ flat_map (λ (p : Placed). said_instances_in ds p.line p.statement) ps
  seen_instances =
      front_instances n.nets (map net_named names) n.instances (each_from (IsInstance (length n.nets)) n.instances ok.instances) ∙ is.instances
      ∙ sym (instances_same (declarations ps) ds (λ (q : List ℕ). has_entry (entries ps) q ≡ true) agree ps (mentioned_named ps))

  seen_assigns : map (seen_assign longer_n.nets) n.assigns ≡ flat_map (λ (p : Placed). said_assigns_in ds p.line p.statement) ps
  seen_assigns =
      front_assigns n.nets (map net_named names) n.assigns (each_from (IsAssign (length n.nets)) n.assigns ok.assigns) ∙ is.assigns
      ∙ sym (assigns_same (declarations ps) ds (λ (q : List ℕ). has_entry (entries ps) q ≡ true) agree ps (mentioned_named ps))

  from_start : {X : Type 0} (xs : List X) (j : ℕ) (x : X) → slice_get xs j ≡ Some x → slice_get xs (0 + j) ≡ Some x
  from_start xs j x at = let e : 0 + j ≡ j = omega arith in subst (λ (k : ℕ). slice_get xs k ≡ Some x) (sym e) at

  old_sound : Each (λ q. IsSound more q.statement) ps
  old_sound =
      let P = λ (q : Placed). IsSound more q.statement in
      (sound_now.0, each_left P body (map assign_statement assigns) (each_right P (map wire_statement names) (body ++ map assign_statement assigns) sound_now.1))

  line_sound : Each (λ q. IsSound more q.statement) (map assign_statement assigns)
  line_sound =
      let P = λ (q : Placed). IsSound more q.statement in
      each_right P body (map assign_statement assigns) (each_right P (map wire_statement names) (body ++ map assign_statement assigns) sound_now.1)

  olds : (flat_map (λ (p : Placed). assigns_named ds (changed_statement bits p.statement)) ps ≡ map (named_assign longer_n.nets) (map_from (put_assign (λ k. at_right n edits k)) 0 n.assigns))
      × Each (λ (p : Placed). differ_in_width (bounds_in ds) (changed_statement bits p.statement) ≡ false) ps
  olds =
      let a = assigns_come more longer_n bits (λ k. at_right n edits k) (right_comes text n d cells edits are more near_bit (places ps) (length text) slots all same bits texts_are bits_known starts)
      (left_wide text n d cells edits are more near_bit (places ps) (length text) slots all same bits texts_are bits_known starts) ps 0 n.assigns seen_assigns (from_start n.assigns)
      (each_weaker (λ (p : Placed). IsSound more p.statement) (λ (p : Placed). differ_in_width (bounds_in ds) p.statement ≡ false) ps (λ p s. s.widths) old_sound) in
      (a.are_named, a.widths)

  pins : flat_map (λ (p : Placed). instances_named ds (changed_statement bits p.statement)) ps ≡ map (named_instance longer_n.nets) (map_from (put_instance (λ k pin. at_pin n cells edits k pin)) 0 n.instances)
  pins =
      instances_come more longer_n bits (λ k pin. at_pin n cells edits k pin) (pin_comes text n d cells edits are more near_bit (places ps) (length text) slots all same bits texts_are bits_known starts) ps 0 n.instances seen_instances
      (from_start n.instances)

  -- the assigns of freed ports
  line_named : (kept : (old : List Item) → changed_items bits nowhere old ≡ old) (t : TailEdit) (b : IsTailBits n ps edits t)
      → assigns_named ds (changed_statement bits (assign_statement (record { left = b.left.bit; right = b.right.bit })).statement) ≡ named_assign longer_n.nets (tail_assign n t) ∷ []
  line_named kept t b =
      let one : (bit : NetBit) → IsKnownBit more bit → flat_map (item_bits ds) (net_item bit ∷ []) ≡ Named (net_name bit) ∷ [] = λ bit k. append-nil (item_bits ds (net_item bit)) ∙ bit_bits more bit k in
      ap₂ (λ (l r : List NamedBit). pairs l r ∷ []) (one b.left.bit (near_bit b.left.bit b.left.near))
      (ap (flat_map (item_bits ds)) (kept (net_item b.right.bit ∷ [])) ∙ one b.right.bit (near_bit b.right.bit b.right.near))
      ∙ ap₂ (λ (l r : List ℕ). ((Named l, Named r) ∷ []) ∷ []) (sym b.left.named) (sym b.right.named)

  lines_named : (ts : List TailEdit) (each : Each (IsTailBits n ps edits) ts) → (0 < length ts → (old : List Item) → changed_items bits nowhere old ≡ old)
      → flat_map (λ (p : Placed). assigns_named ds (changed_statement bits p.statement)) (map assign_statement (tail_assigns n ps edits ts each)) ≡ map (named_assign longer_n.nets) (map (tail_assign n) ts)
  unfolding tail_assigns
  lines_named [] each kept = refl
  lines_named (t ∷ ts) each kept =
      ap₂ (λ (a b : List (List (NamedBit × NamedBit))). a ++ b) (line_named (kept (omega arith)) t each.0) (lines_named ts each.1 (λ some. kept (omega arith)))

  module _ (qs : List Placed) (y : List ℕ) (read : read_statements y ≡ Ok qs) (same_read : bare qs ≡ bare (changed_statements bits more)) (kept : 0 < length edits.tails → (old : List Item) → changed_items bits nowhere old ≡ old) where
    are_alike : AreAlike more qs
    are_alike = alike bits more qs same_read

    declared_same : declarations qs ≡ ds
    declared_same = same_declarations more qs are_alike

    abbrev w : Netlist
    w = numbered (entries qs) qs

    kept_lines : 0 < length assigns → (old : List Item) → changed_items bits nowhere old ≡ old
    kept_lines some = let c = count_assigns n ps edits edits.tails tail_bits in kept (omega (arith, c, some))

    widths : Each (λ (p : Placed). differ_in_width (bounds_in ds) (changed_statement bits p.statement) ≡ false) more
    widths =
        let W = λ (p : Placed). differ_in_width (bounds_in ds) (changed_statement bits p.statement) ≡ false in
        let lines = line_kept bits ds assigns kept_lines
        (each_weaker (λ (p : Placed). IsSound more p.statement) (λ (p : Placed). differ_in_width (bounds_in ds) p.statement ≡ false) (map assign_statement assigns) (λ p s. s.widths) line_sound) in
        (olds.1.0, each_append W (map wire_statement names) (body ++ map assign_statement assigns) (wire_kept bits ds names) (each_append W body (map assign_statement assigns) olds.1.1 lines))

    read_sound : Each (λ q. IsSound more q.statement) qs × Each (λ q. has_entry (entries more) q ≡ true) (mentions qs)
    read_sound = changed_sound more bits bits_known more qs same_read are_alike sound_now (mentioned_named more) widths

    number : check_number qs ≡ Ok tt
    number = number_good more qs are_alike read_sound.0 read_sound.1 number_now

    twice : check_twice qs ≡ Ok tt
    twice = twice_good more qs are_alike read_sound.0 read_sound.1 twice_now

    select : check_select qs ≡ Ok tt
    select = select_good more qs are_alike read_sound.0 read_sound.1 select_now

    is_of : IsNetlistOf qs w
    is_of = is_netlist_of qs number twice select

    abbrev target : Netlist
    target = put_netlist n cells edits

    -- by names they are the same
    same_nets : take w.declared (plains w.nets) ≡ names ++ take n.declared (plains target.nets)
    same_nets =
        ap₂ (λ (k : ℕ) (l : List NetName). take k (plains l)) is_of.declared is_of.nets
        ∙ declared_plains qs
        ∙ ap (λ (es : List Declaration). plains (nets_from (first_declared [] es))) declared_same
        ∙ ap (λ (es : List (List ℕ × Option Bounds)). plains (nets_from es)) (firsts_more h body header names assigns are.news near apart)
        ∙ said_plains names (first_declared [] (declarations ps))
        ∙ ap (λ (l : List (List ℕ)). names ++ l)
        (sym (ap (take n.declared) (map-append (λ (net : NetName). net.plain) n.nets (map net_named names))
        ∙ take-append-le n.declared (plains n.nets) (plains (map net_named names)) (let c = length-map n.nets (λ (net : NetName). net.plain) in let b = ok.declared in omega (arith, c, b))
        ∙ ap₂ (λ (k : ℕ) (l : List NetName). take k (plains l)) is.declared is.nets ∙ declared_plains ps))

    wire_ports : (list : List (List ℕ)) → flat_map (λ (p : Placed). flat_map ports_named (declarations_in p.statement)) (map wire_statement list) ≡ []
    wire_ports list = wires_none (λ (s : Statement). flat_map ports_named (declarations_in s)) (λ name. refl) list

    same_ports_named : map (named_port w.nets) w.ports ≡ map (named_port target.nets) n.ports
    same_ports_named =
        ports_are_named w.nets w.ports qs is_of.ports ∙ ports_alike more qs are_alike
        ∙ flat_more h body header names assigns (λ (s : Statement). flat_map ports_named (declarations_in s))
        ∙ ap₂ (λ (a b : List NamedPort). flat_map ports_named (declarations_in h.statement) ++ (a ++ (flat_map (λ (p : Placed). flat_map ports_named (declarations_in p.statement)) body ++ b))) (wire_ports names)
        (assigns_none (λ (s : Statement). flat_map ports_named (declarations_in s)) (λ a. refl) assigns)
        ∙ ap (λ (l : List NamedPort). flat_map ports_named (declarations_in h.statement) ++ l) (append-nil (flat_map (λ (p : Placed). flat_map ports_named (declarations_in p.statement)) body))
        ∙ sym (ports_are_named n.nets n.ports ps is.ports)
        ∙ sym (front_ports n.nets (map net_named names) n.ports (each_from (λ (port : Port). port.net.0 < length n.nets) n.ports ok.port_nets))

    -- statements of the changed list, in their parts
    changed_more : {X : Type 0} (f : Statement → List X) → ((name : List ℕ) → f (wire_statement name).statement ≡ []) → flat_map (λ (p : Placed). f (changed_statement bits p.statement)) more
        ≡ flat_map (λ (p : Placed). f (changed_statement bits p.statement)) ps ++ flat_map (λ (p : Placed). f (changed_statement bits p.statement)) (map assign_statement assigns)
    changed_more f none =
        flat_more h body header names assigns (λ (s : Statement). f (changed_statement bits s))
        ∙ ap (λ (l : List _). f (changed_statement bits h.statement) ++ (l ++ (flat_map (λ (p : Placed). f (changed_statement bits p.statement)) body ++ flat_map (λ (p : Placed). f (changed_statement bits p.statement)) (map assign_statement assigns))))
        (wires_none (λ (s : Statement). f (changed_statement bits s)) none names)
        ∙ sym (append_assoc (f (changed_statement bits h.statement)) (flat_map (λ (p : Placed). f (changed_statement bits p.statement)) body) (flat_map (λ (p : Placed). f (changed_statement bits p.statement)) (map assign_statement assigns)))

    same_assigns : map (named_assign w.nets) w.assigns ≡ map (named_assign target.nets) target.assigns
    same_assigns =
        assigns_are_named w.nets w.assigns (declarations qs) qs is_of.assigns
        ∙ ap (λ (es : List Declaration). flat_map (λ (p : Placed). assigns_named es p.statement) qs) declared_same
        ∙ bare_flat (assigns_named ds) (assigns_bare ds) (changed_statements bits more) qs same_read
        ∙ flat_changed (assigns_named ds) bits more
        ∙ changed_more (assigns_named ds) (λ name. refl)
        ∙ ap₂ (λ (a b : List (List (NamedBit × NamedBit))). a ++ b) olds.0 (lines_named edits.tails tail_bits kept)
        ∙ sym (map-append (named_assign target.nets) (map_from (put_assign (λ k. at_right n edits k)) 0 n.assigns) (map (tail_assign n) edits.tails))

    same_instances : map (named_instance w.nets) w.instances ≡ map (named_instance target.nets) target.instances
    same_instances =
        instances_are_named w.nets w.instances (declarations qs) qs is_of.instances
        ∙ ap (λ (es : List Declaration). flat_map (λ (p : Placed). instances_named es p.statement) qs) declared_same
        ∙ bare_flat (instances_named ds) (instances_bare ds) (changed_statements bits more) qs same_read
        ∙ flat_changed (instances_named ds) bits more
        ∙ changed_more (instances_named ds) (λ name. refl)
        ∙ ap₂ (λ (a b : List NamedInstance). a ++ b) pins (assigns_none (λ (s : Statement). instances_named ds (changed_statement bits s)) (λ a. refl) assigns)
        ∙ append-nil (map (named_instance target.nets) target.instances)

    header_same : header_name qs ≡ header_name ps
    header_same = same_header more qs are_alike

    same_named : IsWrittenFrom w target names
    same_named = record {
      module_name = is_of.module_name ∙ header_same ∙ sym is.module_name;
      nets = same_nets;
      wired = record { ports = same_ports_named; assigns = same_assigns; instances = same_instances };
    }

    -- and few enough
    few_nets : length w.nets < 2 ^ 32
    few_nets =
        let old : length n.nets ≡ total (entries ps) = ap (λ (l : List NetName). length l) (is.nets ∙ ap nets_from (sym (entries_are ps))) ∙ length-nets (entries ps) in
        let new : length w.nets ≡ total (entries qs) = length-nets (entries qs) in
        let fewer = fewer_nets more qs declared_same read_sound.1 in
        let longer = total_more h body header names assigns are.news near apart in
        let count = length-map edits.tails (λ (t : TailEdit). t.tail) in
        omega (arith, old, new, fewer, longer, count, few)

    few_instances : length w.instances < 2 ^ 32
    few_instances =
        let new = length-map w.instances (named_instance w.nets) in
        let old = length-map target.instances (named_instance target.nets) in
        let mapped = length_map_from (put_instance (λ k pin. at_pin n cells edits k pin)) 0 n.instances in
        let same_length = ap (λ (l : List NamedInstance). length l) same_instances in
        let few_old = ok.few_instances in
        omega (arith, new, old, mapped, same_length, few_old)

    pub read_denotes : DenotesAlike y target names
    read_denotes = record {
      netlist = w;
      is = record { statements = qs; reads = faultless y qs read number twice select; is = is_of; sound = is_netlist qs number twice select few_nets few_instances };
      same = same_named;
    }

    pub read_declares : DeclareBehind text names y
    read_declares = record {
      declared = declarations ps;
      here = record { statements = ps; reads = reads; is = refl };
      there = record { statements = qs; reads = faultless y qs read number twice select; is = declared_same ∙ declared_more h body header names assigns are.news };
    }
