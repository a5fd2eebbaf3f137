-- The text with lines put in is read as the changed statements with those of the lines.
use Rattle.std.proofs.Common.{◌≡◌, ℕ, Bool, true, false, cond, ◌+◌, ◌-◌, ◌<◌, ◌≤◌, List, [], ◌∷◌, ◌++◌, length, map, take, drop, codes, Option, Some, None, refl, sym, ap, ap₂, ◌∙◌, subst, arith, append_assoc}
use Rattle.std.specs.List.{flat_map, AllByRecursion as Each}
use Rattle.std.proofs.lemmas.List.{append-nil, append_cancel_left, append_cancel_right, map-append, take-append-drop}
use Rattle.std.proofs.lemmas.Bool.{false≢true}
use Rattle.std.proofs.lemmas.List.Concat.{flat_map-append}
use Rattle.base_types.specs.declared.span.Span.{Span}
use Rattle.token_forms.specs.Tokens.{Token, tokens_of}
use Rattle.token_forms.specs.Pieces.{tokens_from}
use Rattle.token_forms.specs.Runs.{bytes_of, texts_of}
use Rattle.token_forms.specs.Parts.{Part, spelled, token_texts, Fits}
use Rattle.token_forms.proofs.Fronts.{part}
use Rattle.token_forms.proofs.Spelled.{spelled_append, split_fits, fits_front}
use Rattle.splice.specs.declared.Edit.{Edit}
use Rattle.splice.specs.Spliced.{spliced, AreRising}
use Rattle.splice.proofs.Written.{kept, weaker, turned}
use Rattle.splice.proofs.Parts.{swapped_parts}
use Rattle.splice.proofs.Tokens.{back, back_again, IsOf, are_of, each_behind, each_join, swapped_back}
use Rattle.verilog_syntax.specs.VerilogTokens.{piece_at, texts, verilog_tokens}
use Rattle.verilog_syntax.specs.Seams.{IsMarkAt}
use Rattle.verilog_syntax.specs.declared.statement.Item.{Item}
use Rattle.verilog_syntax.specs.declared.statement.Statement.{Statement}
use Rattle.verilog_syntax.specs.declared.statement.Statement.TheVariants as statements
use Rattle.verilog_syntax.specs.declared.reading.Placed.{Placed}
use Rattle.verilog_syntax.specs.Reading.{read_statements}
use Rattle.verilog_syntax.specs.StatementParts.{statement_parts, IsGoodStatement, IsVariable, is_header}
use Rattle.verilog_syntax.specs.Laws.{module_parts, tokens_in, AreGood, AreRead}
use Rattle.verilog_syntax.proofs.SpelledLaw.{spelled_law}
use Rattle.verilog_syntax.proofs.ReadLaw.{read_law}
use Rattle.verilog_syntax.proofs.Closing.{statement_shape}
use Rattle.verilog_writer.specs.VerilogText.{NetBit, BitEdit, indexed_item, net_item, text_edits, changed_statement, changed_placed, changed_statements, IsNetBit, AreVerilogEdits}
use Rattle.verilog_writer.specs.Inserted.{BitAssign, wire_line, bit_line, header_end, last_start, put_in, with_lines, wire_statement, assign_statement, extended, IsPlainName, IsBitAssign, inserted_verilog, InsertedLaw}
use Rattle.verilog_writer.proofs.AtEnd.{part_split, part_first, put_from}
use Rattle.verilog_writer.proofs.Bits.{plain_good}
use Rattle.verilog_writer.proofs.Changed.{changed_parts, module_changed}
use Rattle.verilog_writer.proofs.Edited.{slots_rising, edits_made, edits_ready}
use Rattle.verilog_writer.proofs.Ends.{Last, header, two_last, module_spelled, closed}
use Rattle.verilog_writer.proofs.Good.{one_item, changed_good}
use Rattle.verilog_writer.proofs.Lines.{parts_of, wires_go, assigns_go}
use Rattle.verilog_writer.proofs.Seams.{verilog}
use Rattle.verilog_writer.proofs.Settled.{Settled, settled}
use Rattle.verilog_writer.proofs.Slots.{marked_module}
use Rattle.verilog_writer.proofs.WrittenLaw.{slots_of, tokens_texts}

lower : (es : List Edit) (at to end : ℕ) → at ≤ to → AreRising to end es → AreRising at end es
lower [] at to end le r = omega arith
lower (e ∷ es) at to end le r = let o = r.0 in (omega arith, r.1, r.2, r.3)

-- the header's bytes, and whatever stands behind them
header_goes : (text : List ℕ) (front : List Span) (last : Span) (z : List ℕ) → Settled text 0 front last → texts (part text 0 last.end ++ z) ≡ (texts_of text front ++ (59 ∷ []) ∷ []) ++ texts z
header_goes text front last z s =
    let one = s.one in
    let none : take (last.end - (last.start + 1)) (drop last.end text) ≡ [] = let k : last.end - (last.start + 1) ≡ 0 = omega (arith, one) in rw k refl in
    let cut : part text 0 last.end ≡ part text 0 last.start ++ 59 ∷ []
    = part_split text 0 last.start last.end (omega arith) (omega (arith, one))
    ∙ ap (λ (l : List ℕ). part text 0 last.start ++ l) (part_first text last.start last.end 59 (drop last.end text) (omega (arith, one)) s.here ∙ ap (λ (l : List ℕ). 59 ∷ l) none)
    in
    ap (λ (l : List ℕ). texts (l ++ z)) cut ∙ ap (λ (l : List ℕ). texts l) (append_assoc (part text 0 last.start) (59 ∷ []) z) ∙ s.goes z
    ∙ sym (append_assoc (texts_of text front) ((59 ∷ []) ∷ []) (texts z))

-- the edited text begins as the text
kept_cut : (text : List ℕ) (es : List Edit) (n : ℕ) → AreRising n (length text) es → spliced text es ≡ part text 0 n ++ drop n (spliced text es)
kept_cut text es n rising =
    let k : n - 0 ≡ n = omega arith in
    sym (take-append-drop n (spliced text es)) ∙ ap (λ (l : List ℕ). l ++ drop n (spliced text es)) (kept text es n rising ∙ ap (λ (m : ℕ). take m text) (sym k))

texts_back : (text : List ℕ) (ts : List Token) → Each (IsOf text) ts → texts_of text (map back ts) ≡ token_texts ts
texts_back text [] e = refl
texts_back text (t ∷ ts) e = rw (e.0) (ap (λ (l : List (List ℕ)). t.text ∷ l) (texts_back text ts e.1))

each_front : (text : List ℕ) (ts us : List Token) → Each (IsOf text) (ts ++ us) → Each (IsOf text) ts
each_front text [] us e = tt
each_front text (t ∷ ts) us e = (e.0, each_front text ts us e.1)

-- statements of a module
header_same : (edits : List BitEdit) (s : Statement) → is_header s ≡ true → changed_statement edits s ≡ s
header_same edits (statements.Module name ports) is = refl
header_same edits (statements.Declare kind range names) is = absurd (false≢true is)
header_same edits (statements.Assign left right) is = absurd (false≢true is)
header_same edits (statements.Instance cell name connections) is = absurd (false≢true is)

variable : (bit : NetBit) → IsVariable (net_item bit)
variable bit = by bit.index
  where
    by : (i : Option ℕ) → IsVariable (indexed_item bit.name i)
    by None = tt
    by (Some i) = tt

abbrev GoodIn : Bool → Placed → Type 0
GoodIn listed p = IsGoodStatement listed p.statement

abbrev NoHeader : Placed → Type 0
NoHeader p = is_header p.statement ≡ false

wires_good : (listed : Bool) (names : List (List ℕ)) → Each IsPlainName names → Each (GoodIn listed) (map wire_statement names)
wires_good listed [] plain = tt
wires_good listed (name ∷ names) plain = ((tt, omega arith, (plain_good name (rw (plain.0.identifier, plain.0.free) refl), tt)), wires_good listed names plain.1)

wires_behind : (names : List (List ℕ)) → Each NoHeader (map wire_statement names)
wires_behind [] = tt
wires_behind (name ∷ names) = (refl, wires_behind names)

assigns_good : (listed : Bool) (all : List BitAssign) → Each IsBitAssign all → Each (GoodIn listed) (map assign_statement all)
assigns_good listed [] are = tt
assigns_good listed (a ∷ all) are = ((one_item a.left are.0.left, (variable a.left, tt), one_item a.right are.0.right), assigns_good listed all are.1)

assigns_behind : (all : List BitAssign) → Each NoHeader (map assign_statement all)
assigns_behind [] = tt
assigns_behind (a ∷ all) = (refl, assigns_behind all)

pub extended_good : (listed : Bool) (names : List (List ℕ)) (all : List BitAssign) (ps : List Placed) → Each IsPlainName names → Each IsBitAssign all → AreGood listed ps → AreGood listed (extended names all ps)
extended_good listed names all [] plain are good = absurd good.order
extended_good listed names all (p ∷ ps) plain are good = record {
  order = (good.order.0, each_join NoHeader (map wire_statement names) (ps ++ map assign_statement all) (wires_behind names) (each_join NoHeader ps (map assign_statement all) good.order.1 (assigns_behind all)));
  good = (
    good.good.0,
    each_join (GoodIn listed) (map wire_statement names) (ps ++ map assign_statement all) (wires_good listed names plain) (each_join (GoodIn listed) ps (map assign_statement all) good.good.1 (assigns_good listed all are)),
  );
}

extended_spelled : (listed : Bool) (names : List (List ℕ)) (all : List BitAssign) (p : Placed) (ps : List Placed)
    → spelled (module_parts listed (extended names all (p ∷ ps)))
    ≡ spelled (statement_parts listed p.statement) ++ (spelled (parts_of listed (map wire_statement names)) ++ (spelled (parts_of listed ps) ++ (spelled (parts_of listed (map assign_statement all)) ++ codes "endmodule" ∷ [])))
extended_spelled listed names all p ps =
    let f = λ (q : Placed). statement_parts listed q.statement in
    let own = spelled (statement_parts listed p.statement) in
    let wires = map wire_statement names in
    let others = map assign_statement all in
    let end = codes "endmodule" ∷ [] in
    module_spelled listed (p ∷ (wires ++ (ps ++ others)))
    ∙ ap (λ (l : List (List ℕ)). l ++ end) (spelled_append (statement_parts listed p.statement) (parts_of listed (wires ++ (ps ++ others))))
    ∙ append_assoc own (spelled (parts_of listed (wires ++ (ps ++ others)))) end
    ∙ ap (λ (l : List (List ℕ)). own ++ l)
    (ap (λ (l : List Part). spelled l ++ end) (flat_map-append f wires (ps ++ others))
    ∙ ap (λ (l : List (List ℕ)). l ++ end) (spelled_append (parts_of listed wires) (parts_of listed (ps ++ others)))
    ∙ append_assoc (spelled (parts_of listed wires)) (spelled (parts_of listed (ps ++ others))) end
    ∙ ap (λ (l : List (List ℕ)). spelled (parts_of listed wires) ++ l)
    (ap (λ (l : List Part). spelled l ++ end) (flat_map-append f ps others)
    ∙ ap (λ (l : List (List ℕ)). l ++ end) (spelled_append (parts_of listed ps) (parts_of listed others))
    ∙ append_assoc (spelled (parts_of listed ps)) (spelled (parts_of listed others)) end))

no_mark : (text : List ℕ) (end : Span) → bytes_of text end ≡ codes "endmodule" → IsMarkAt text end → ⊥
no_mark text end is mark = let e : mark.mark ∷ [] ≡ codes "endmodule" = sym mark.only ∙ is in absurd cc

module _ (text : List ℕ) (p : Placed) (ps : List Placed) (edits : List BitEdit) (names : List (List ℕ)) (a : BitAssign) (all : List BitAssign) (listed : Bool) (good : AreGood listed (p ∷ ps))
    (fits : Fits (module_parts listed (p ∷ ps)) [] (tokens_in text)) (are : AreVerilogEdits text (p ∷ ps) edits) (plain : Each IsPlainName names) (assigned : Each IsBitAssign (a ∷ all)) where
  abbrev parts : List Part
  parts = module_parts listed (p ∷ ps)

  abbrev es : List Edit
  es = text_edits edits

  abbrev tokens : List Token
  tokens = tokens_in text

  -- the tokens of the lines
  abbrev wires : List (List ℕ)
  wires = spelled (parts_of listed (map wire_statement names))

  abbrev vs : List (List ℕ)
  vs = spelled (parts_of listed (map assign_statement (a ∷ all)))

  abbrev lines : List ℕ
  lines = drop 1 (flat_map bit_line (a ∷ all))

  -- the tokens of the header and of the statements behind it
  abbrev own : List (List ℕ)
  own = spelled (statement_parts listed p.statement)

  abbrev rest : List (List ℕ)
  rest = spelled (parts_of listed (changed_statements edits ps))

  abbrev end : List (List ℕ)
  end = codes "endmodule" ∷ []

  each : Each (IsOf text) tokens
  each = are_of text (verilog_tokens text)

  two : Last tokens (59 ∷ []) (codes "endmodule")
  two =
      let front = fits_front parts [] tokens fits in
      let c = closed listed p ps good.good in
      two_last tokens c.front (59 ∷ []) (codes "endmodule") (ap token_texts (front.is ∙ append-nil front.front) ∙ front.texts ∙ c.is)

  -- up to the end of the header
  record Begun (m : ℕ) : Type 0 where
    at : header_end tokens ≡ m
    goes : (z : List ℕ) → texts (part text 0 m ++ z) ≡ own ++ texts z

  record AnyBegun : Type 0 where
    m : ℕ
    begun : Begun m

  begins : AnyBegun
  begins =
      let cut = split_fits (statement_parts listed p.statement) (module_parts listed ps) [] tokens fits in
      let f = fits_front (statement_parts listed p.statement) cut.middle tokens cut.first in
      let shape = statement_shape listed p.statement good.good.0 in
      let h = header f.front cut.middle shape.front (f.texts ∙ shape.is) shape.inner in
      let whole : tokens ≡ h.before ++ h.semicolon ∷ cut.middle = f.is ∙ ap (λ (l : List Token). l ++ cut.middle) h.is ∙ append_assoc h.before (h.semicolon ∷ []) cut.middle in
      let known = subst (Each (IsOf text)) whole each in
      let semi : bytes_of text (back h.semicolon) ≡ 59 ∷ [] = (each_behind (IsOf text) h.before (h.semicolon ∷ cut.middle) known).0 ∙ h.text in
      let s = settled (length text) text 0 (map back h.before) (back h.semicolon) (map back cut.middle) (omega arith) semi
      (sym (back_again text (verilog_tokens text)) ∙ ap (λ (l : List Token). map back l) whole ∙ map-append back h.before (h.semicolon ∷ cut.middle)) in
      let front_is : texts_of text (map back h.before) ≡ shape.front = texts_back text h.before (each_front text h.before (h.semicolon ∷ cut.middle) known) ∙ h.texts in
      record {
        m = h.semicolon.end;
        begun = record {
          at = ap header_end f.is ∙ h.ends;
          goes = λ z. header_goes text (map back h.before) (back h.semicolon) z s ∙ ap (λ (l : List (List ℕ)). (l ++ (59 ∷ []) ∷ []) ++ texts z) front_is ∙ ap (λ (l : List (List ℕ)). l ++ texts z) (sym shape.is);
        };
      }

  -- the header stays
  own_same : spelled (statement_parts listed (changed_statement edits p.statement)) ≡ own
  own_same = ap (λ (s : Statement). spelled (statement_parts listed s)) (header_same edits p.statement good.order.0)

  module _ (m : ℕ) (b : Begun m) (rises : AreRising 0 (length text) (inserted_verilog text names edits (a ∷ all))) where
    abbrev added : Edit
    added = put_in two.end.start (32 ∷ lines)

    abbrev first : Edit
    first = put_in m (flat_map wire_line names)

    whole : inserted_verilog text names edits (a ∷ all) ≡ first ∷ (es ++ added ∷ [])
    whole = ap₂ (λ (k e : ℕ). put_in k (flat_map wire_line names) ∷ (es ++ put_in e (32 ∷ lines) ∷ [])) b.at two.starts

    rising : AreRising 0 (length text) (first ∷ (es ++ added ∷ []))
    rising = subst (AreRising 0 (length text)) whole rises

    -- the text without the wires
    abbrev shorter : List ℕ
    shorter = spliced text (es ++ added ∷ [])

    shorter_texts : texts shorter ≡ (own ++ rest) ++ (vs ++ end)
    shorter_texts =
        let W = spelled (changed_parts edits parts) in
        let made = edits_made parts edits 0 0 (length text) (slots_rising text parts fits) are.rising (slots_of listed (p ∷ ps) edits are.places) are.bits in
        let swapped = swapped_parts verilog es parts (changed_parts edits parts) tokens (marked_module listed (p ∷ ps)) (edits_ready edits are.bits) fits made in
        let known = each_behind (IsOf text) two.front (two.last ∷ two.end ∷ []) (subst (Each (IsOf text)) two.is each) in
        let semicolon : bytes_of text (back two.last) ≡ 59 ∷ [] = known.0 ∙ two.last_text in
        let ending : bytes_of text (back two.end) ≡ codes "endmodule" = known.1.0 ∙ two.end_text in
        let put = put_from text lines vs (back two.last) (back two.end) (λ z. assigns_go listed (a ∷ all) z assigned) semicolon (no_mark text (back two.end) ending) es 0 (map back tokens) (map back two.front) W
        (lower (es ++ added ∷ []) 0 (m + 1) (length text) (omega arith) rising.3) (sym (back_again text (verilog_tokens text)))
        (ap (λ (l : List Token). map back l) two.is ∙ map-append back two.front (two.last ∷ two.end ∷ [])) (swapped_back verilog text es tokens W each swapped) in
        let old : put.front ++ end ≡ (own ++ rest) ++ end
        = ap (λ (w : List ℕ). put.front ++ w ∷ []) (sym ending) ∙ sym put.old ∙ ap spelled (module_changed edits listed (p ∷ ps)) ∙ module_spelled listed (changed_statements edits (p ∷ ps))
        ∙ ap (λ (l : List (List ℕ)). l ++ end)
        (spelled_append (statement_parts listed (changed_statement edits p.statement)) (parts_of listed (changed_statements edits ps)) ∙ ap (λ (l : List (List ℕ)). l ++ rest) own_same)
        in
        put.new ∙ ap (λ (w : List ℕ). put.front ++ (vs ++ w ∷ [])) ending ∙ ap (λ (l : List (List ℕ)). l ++ (vs ++ end)) (append_cancel_right put.front (own ++ rest) end old)

    behind : texts (drop m shorter) ≡ rest ++ (vs ++ end)
    behind =
        append_cancel_left own (texts (drop m shorter)) (rest ++ (vs ++ end))
        (sym (b.goes (drop m shorter)) ∙ ap (λ (l : List ℕ). texts l) (sym (kept_cut text (es ++ added ∷ []) m (weaker (length text) (es ++ added ∷ []) m rising.3))) ∙ shorter_texts
        ∙ append_assoc own rest (vs ++ end))

    written : texts (spliced text (inserted_verilog text names edits (a ∷ all))) ≡ spelled (module_parts listed (extended names (a ∷ all) (changed_statements edits (p ∷ ps))))
    written =
        let t = turned text 0 first (es ++ added ∷ []) rising in
        ap (λ (l : List Edit). texts (spliced text l)) whole
        ∙ ap (λ (l : List ℕ). texts l) t.cut
        ∙ b.goes (flat_map wire_line names ++ drop m shorter)
        ∙ ap (λ (l : List (List ℕ)). own ++ l) (wires_go listed names (drop m shorter) plain ∙ ap (λ (l : List (List ℕ)). wires ++ l) behind)
        ∙ sym (extended_spelled listed names (a ∷ all) (changed_placed edits p) (changed_statements edits ps) ∙ ap (λ (l : List (List ℕ)). l ++ (wires ++ (rest ++ (vs ++ end)))) own_same)

pub inserted_law : InsertedLaw
inserted_law text [] edits names assigns read are plain assigned some rising = let s = spelled_law text [] read in absurd s.good.order
inserted_law text (p ∷ ps) edits names [] read are plain assigned some rising = absurd (omega arith)
inserted_law text (p ∷ ps) edits names (a ∷ all) read are plain assigned some rising =
    let s = spelled_law text (p ∷ ps) read in
    let y = spliced text (inserted_verilog text names edits (a ∷ all)) in
    let b = begins text p ps edits names a all s.listed s.good s.fits are plain assigned in
    read_law y s.listed (extended names (a ∷ all) (changed_statements edits (p ∷ ps)))
    (extended_good s.listed names (a ∷ all) (changed_statements edits (p ∷ ps)) plain assigned (changed_good edits are.bits s.listed (p ∷ ps) s.good))
    (tokens_texts y ∙ written text p ps edits names a all s.listed s.good s.fits are plain assigned b.m b.begun rising)
