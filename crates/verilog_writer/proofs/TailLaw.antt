-- The text with edits and tails denotes the netlist with the edits between the paths.
use Rattle.std.proofs.Common.{◌≡◌, ℕ, zero, suc, ◌+◌, ◌<◌, ◌≤◌, ◌^◌, Bool, true, false, inl, inr, List, [], ◌∷◌, ◌++◌, length, map, Option, Some, None, Ok, refl, sym, ap, ap₂, ◌∙◌, subst, arith}
use Rattle.std.specs.Prelude.{IsPermutation}
use Rattle.std.specs.List.{flat_map, AllByRecursion as Each}
use Rattle.std.proofs.lemmas.List.{append-nil, map-append, length-map}
use Rattle.base_types.specs.declared.span.Span.{Span}
use Rattle.splice.specs.declared.Edit.{Edit}
use Rattle.splice.specs.Spliced.{spliced, AreRising}
use Rattle.netlist_core.specs.declared.netlist.NetId.{NetId}
use Rattle.netlist_core.specs.declared.netlist.NetName.{NetName}
use Rattle.netlist_core.specs.declared.netlist.Connection.{Connection}
use Rattle.netlist_core.specs.declared.netlist.Instance.{Instance}
use Rattle.netlist_core.specs.declared.netlist.Assign.{Assign}
use Rattle.netlist_core.specs.declared.netlist.Netlist.{Netlist}
use Rattle.netlist_core.specs.Netlists.{IsNetlist}
use Rattle.cell_table.specs.Cells.{Cells}
use Rattle.chain_trace.specs.declared.path.Path.{Path}
use Rattle.path_links.specs.Edited.{edited_expr, map_from}
use Rattle.net_edit.specs.declared.edits.TailEdit.{TailEdit}
use Rattle.net_edit.specs.declared.edits.Edits.{Edits}
use Rattle.net_edit.specs.Applied.{tail_assign, assign_put}
use Rattle.net_edit.specs.Rearranged.{AreRearranged}
use Rattle.net_edit.specs.Tails.{net_named, freed_between, pin_edits, changed_instance, rewired, new_at, AreTailNames}
use Rattle.net_edit.specs.Wires.{names_of, AreEditsFor}
use Rattle.net_edit.proofs.PutSteps.{puts_are, rights_are, rebuilt}
use Rattle.verilog_syntax.specs.declared.statement.Item.{Item}
use Rattle.verilog_syntax.specs.declared.statement.Statement.TheVariants as statements
use Rattle.verilog_syntax.specs.declared.reading.Placed.{Placed}
use Rattle.verilog_syntax.specs.Laws.{nowhere, bare, AreRead}
use Rattle.verilog_syntax.specs.Reading.{read_statements}
use Rattle.verilog_syntax.specs.StatementParts.{is_header}
use Rattle.verilog_syntax.proofs.SpelledLaw.{spelled_law}
use Rattle.verilog_checks.specs.Faults.{IsFaultless}
use Rattle.verilog_checks.proofs.Faultless.{passed}
use Rattle.verilog_reader.specs.Denoted.{IsNetlistOf, DenotesNetlist}
use Rattle.verilog_reader.proofs.Distinct.{Distinct, IsApartFrom, each_weaker}
use Rattle.verilog_writer.specs.VerilogText.{BitEdit, text_edits, written_verilog, changed_items, changed_statement, changed_placed, changed_statements, AreVerilogEdits}
use Rattle.verilog_writer.specs.Written.{DenotesAlike}
use Rattle.verilog_writer.specs.Inserted.{BitAssign, wire_line, bit_line, put_in, with_lines, header_end, last_start, wire_statement, bit_expression, assign_statement, extended, IsPlainName, inserted_verilog}
use Rattle.verilog_syntax.specs.Laws.{tokens_in}
use Rattle.verilog_writer.specs.Wired.{tail_wire, tail_line, expression_edits, with_tails, DeclareBehind}
use Rattle.verilog_writer.proofs.InsertedLaw.{inserted_law}
use Rattle.verilog_writer.proofs.KeptBits.{kept_items}
use Rattle.verilog_writer.proofs.KeptEdits.{once}
use Rattle.verilog_writer.proofs.KeptNames.{put_instance}
use Rattle.verilog_writer.proofs.TailBits.{at_pin, at_right}
use Rattle.verilog_writer.proofs.TailDenoted.{IsTailBits, tail_assigns, tail_lines, bit_assigns, count_assigns, put_netlist}
use Rattle.verilog_writer.proofs.TailEdits.{AreTailed}
use Rattle.verilog_writer.proofs.TailFacts.{are_tailed}
use Rattle.verilog_writer.proofs.TailRead.{tail_bits, assigns, more, bits, texts_are, are_edits, read_denotes, read_declares}
use Rattle.verilog_writer.proofs.WireNames.{IsNew}
use Rattle.verilog_writer.proofs.WrittenLaw.{written_law}

-- edits in front of a last one
rising_front : (es : List Edit) (last : Edit) (at end : ℕ) → AreRising at end (es ++ last ∷ []) → AreRising at end es
rising_front [] last at end rising = let a = rising.0 in let b = rising.1 in let c = rising.2 in omega arith
rising_front (e ∷ es) last at end rising = (rising.0, rising.1, rising.2, rising_front es last (e.span.end + 1) end rising.3)

rising_lower : (es : List Edit) (at to end : ℕ) → at ≤ to → AreRising to end es → AreRising at end es
rising_lower [] at to end le r = omega arith
rising_lower (e ∷ es) at to end le r = let o = r.0 in (omega arith, r.1, r.2, r.3)

-- edits behind the beginning aren't at no place
not_at_start : (es : List Edit) (at end : ℕ) → 0 < at → AreRising at end es → Each (λ (y : Edit). y.span.start ≡ 0 → ⊥) es
not_at_start [] at end some rising = tt
not_at_start (e ∷ es) at end some rising =
    let a = rising.0 in
    let b = rising.1 in
    ((λ is. omega (arith, is)), not_at_start es (e.span.end + 1) end (omega arith) rising.3)

-- with the lines of tails, or without
all_rising : (text : List ℕ) (n : Netlist) (ts : List TailEdit) (all : List Edit) → AreRising 0 (length text) (with_tails text n ts all) → AreRising 0 (length text) all
all_rising text n [] all rising = rising
all_rising text n (t ∷ ts) all rising = rising_lower all 0 (header_end (tokens_in text) + 1) (length text) (omega arith) (rising_front all _ (header_end (tokens_in text) + 1) (length text) rising.3)

behind_start : (text : List ℕ) (n : Netlist) (ts : List TailEdit) (all : List Edit) → AreRising 0 (length text) (with_tails text n ts all) → 0 < length ts → Each (λ (y : Edit). y.span.start ≡ 0 → ⊥) all
behind_start text n [] all rising some = absurd (omega arith)
behind_start text n (t ∷ ts) all rising some =
    not_at_start all (header_end (tokens_in text) + 1) (length text) (omega arith) (rising_front all _ (header_end (tokens_in text) + 1) (length text) rising.3)

-- lines that no edit changes
same_wires : (edited : List BitEdit) (names : List (List ℕ)) → map (changed_placed edited) (map wire_statement names) ≡ map wire_statement names
same_wires edited [] = refl
same_wires edited (name ∷ names) = ap (λ (l : List Placed). wire_statement name ∷ l) (same_wires edited names)

same_lines : (edited : List BitEdit) (all : List BitAssign) → (0 < length all → (old : List Item) → changed_items edited nowhere old ≡ old) → map (changed_placed edited) (map assign_statement all) ≡ map assign_statement all
same_lines edited [] kept = refl
same_lines edited (a ∷ all) kept =
    ap₂ (λ (xs : List Item) (l : List Placed). let p : Placed = record { statement = statements.Assign (bit_expression a.left) (record { items = xs; span = nowhere }); line = 0 } in p ∷ l)
    (kept (omega arith) _) (same_lines edited all (λ some. kept (omega arith)))

extended_changed : (edited : List BitEdit) (names : List (List ℕ)) (all : List BitAssign) (h : Placed) (body : List Placed) → (0 < length all → (old : List Item) → changed_items edited nowhere old ≡ old)
    → changed_statements edited (extended names all (h ∷ body)) ≡ extended names all (changed_statements edited (h ∷ body))
extended_changed edited names all h body kept =
    ap (λ (l : List Placed). changed_placed edited h ∷ l)
    (map-append (changed_placed edited) (map wire_statement names) (body ++ map assign_statement all)
    ∙ ap₂ (λ (a b : List Placed). a ++ b) (same_wires edited names) (map-append (changed_placed edited) body (map assign_statement all) ∙ ap (λ (l : List Placed). map (changed_placed edited) body ++ l) (same_lines edited all kept)))

-- the wires' lines by names
wire_lines : (ts : List TailEdit) → flat_map wire_line (map (λ (t : TailEdit). t.tail) ts) ≡ flat_map tail_wire ts
wire_lines [] = refl
wire_lines (t ∷ ts) = ap (λ (l : List ℕ). tail_wire t ++ l) (wire_lines ts)

-- names behind others are apart
distinct_behind : {X : Type 0} (xs ys : List X) → Distinct (xs ++ ys) → Distinct ys
distinct_behind [] ys d = d
distinct_behind (x ∷ xs) ys d = distinct_behind xs ys d.1

-- the netlist with what stands newly is the rewired one
map_alike : {X Y : Type 0} (f g : X → Y) (xs : List X) → ((x : X) → f x ≡ g x) → map f xs ≡ map g xs
map_alike f g [] same = refl
map_alike {X} {Y} f g (x ∷ xs) same = ap₂ (λ (y : Y) (l : List Y). y ∷ l) (same x) (map_alike f g xs same)

from_alike : {X Y : Type 0} (f g : ℕ → X → Y) (k : ℕ) (xs : List X) → ((i : ℕ) (x : X) → f i x ≡ g i x) → map_from f k xs ≡ map_from g k xs
from_alike f g k [] same = refl
from_alike {X} {Y} f g k (x ∷ xs) same = ap₂ (λ (y : Y) (l : List Y). y ∷ l) (same k x) (from_alike f g (k + 1) xs same)

tails_named : (ts : List TailEdit) → map net_named (map (λ (t : TailEdit). t.tail) ts) ≡ map (λ t. net_named t.tail) ts
tails_named [] = refl
tails_named (t ∷ ts) = ap (λ (l : List NetName). net_named t.tail ∷ l) (tails_named ts)

pub target_is : (n : Netlist) (cells : Cells) (old new : List Path) (edits : Edits) → AreEditsFor n cells old new edits → put_netlist n cells edits ≡ rewired n cells (names_of edits) old new
target_is n cells old new edits e =
    rebuilt n cells old new edits e n.«module» _ n.ports _ _ refl (ap (λ (l : List NetName). n.nets ++ l) (tails_named edits.tails)) refl
    (ap (λ (l : List Assign). l ++ map (tail_assign n) edits.tails) (rights_are n cells old new edits e (λ k. at_right n edits k) (λ k. refl)))
    (from_alike (put_instance (λ k pin. at_pin n cells edits k pin)) (changed_instance n cells (freed_between n cells old new) (pin_edits n cells old new)) 0 n.instances
    (λ k placed.
    ap (λ (cs : List Connection). let i : Instance = record { name = placed.name; cell = placed.cell; connections = cs; line = placed.line } in i)
    (map_alike _ _ placed.connections (λ c. ap (λ (net : Option NetId). let x : Connection = record { pin = c.pin; expr = edited_expr net c.expr } in x) (puts_are n cells old new edits e k c.pin)))))

-- the text is read
module _ (text : List ℕ) (n : Netlist) (h : Placed) (body : List Placed) (header : is_header h.statement ≡ true) (reads : IsFaultless text (h ∷ body)) (is : IsNetlistOf (h ∷ body) n) (ok : IsNetlist n)
    (cells : Cells) (edits : Edits) (are : AreTailed n cells (h ∷ body) edits) (apart : Distinct (names_of edits)) (few : length n.nets + length edits.tails < 2 ^ 32)
    (all : List Edit) (same : IsPermutation (expression_edits n cells edits) all) (lines : AreRising 0 (length text) (with_tails text n edits.tails all)) where
  rising : AreRising 0 (length text) all
  rising = all_rising text n edits.tails all lines

  abbrev my_bits : List BitEdit
  my_bits = bits text n h body header reads is ok cells edits are apart few all same rising

  abbrev my_assigns : List BitAssign
  my_assigns = assigns text n h body header reads is ok cells edits are apart few all same rising

  abbrev my_more : List Placed
  my_more = more text n h body header reads is ok cells edits are apart few all same rising

  my_texts : text_edits my_bits ≡ all
  my_texts = texts_are text n h body header reads is ok cells edits are apart few all same rising

  my_edits : AreVerilogEdits text (h ∷ body) my_bits
  my_edits = are_edits text n h body header reads is ok cells edits are apart few all same rising

  kept : 0 < length edits.tails → (old : List Item) → changed_items my_bits nowhere old ≡ old
  kept some old = kept_items my_bits nowhere old (subst (λ (l : List Edit). Each (λ (y : Edit). y.span.start ≡ 0 → ⊥) l) (sym my_texts) (behind_start text n edits.tails all lines some))

  count : length my_assigns ≡ length edits.tails
  count = count_assigns n (h ∷ body) edits edits.tails (tail_bits text n h body header reads is ok cells edits are apart few all same rising)

  abbrev y : List ℕ
  y = spliced text (with_tails text n edits.tails all)

  read : read_statements text ≡ Ok (h ∷ body)
  read = (passed text (h ∷ body) reads).read

  record IsRead : Type 0 where
    values : List Placed
    read_is : read_statements y ≡ Ok values
    alike : bare values ≡ bare (changed_statements my_bits my_more)

  -- with lines
  read_lines : (t : TailEdit) (ts : List TailEdit) → edits.tails ≡ t ∷ ts → IsRead
  read_lines t ts cut =
      let some : 0 < length edits.tails = let e = ap (λ (l : List TailEdit). length l) cut in omega (arith, e) in
      let assigned : 0 < length my_assigns = let c = count in omega (arith, c, some) in
      let whole : inserted_verilog text (names_of edits) my_bits my_assigns ≡ with_tails text n edits.tails all
      = ap₂ (λ (a b : List ℕ). with_lines text a b (text_edits my_bits)) (wire_lines edits.tails)
      (tail_lines n (h ∷ body) edits edits.tails (tail_bits text n h body header reads is ok cells edits are apart few all same rising))
      ∙ ap (λ (l : List Edit). with_lines text (flat_map tail_wire edits.tails) (flat_map (tail_line n edits.tails) edits.tails) l) my_texts
      ∙ lines_of edits.tails t ts cut
      in
      let r = inserted_law text (h ∷ body) my_bits (names_of edits) my_assigns read my_edits
      (each_weaker (IsNew (h ∷ body)) IsPlainName (names_of edits) (λ name k. k.plain) are.news)
      (bit_assigns n (h ∷ body) edits edits.tails (tail_bits text n h body header reads is ok cells edits are apart few all same rising))
      assigned (subst (AreRising 0 (length text)) (sym whole) lines) in
      record {
        values = r.values;
        read_is = ap (λ (l : List Edit). read_statements (spliced text l)) (sym whole) ∙ r.is;
        alike = r.same ∙ ap bare (sym (extended_changed my_bits (names_of edits) my_assigns h body (λ k. kept some)));
      }
    where
      lines_of : (all_tails : List TailEdit) (t : TailEdit) (ts : List TailEdit) → all_tails ≡ t ∷ ts
          → with_lines text (flat_map tail_wire all_tails) (flat_map (tail_line n all_tails) all_tails) all ≡ with_tails text n all_tails all
      lines_of [] t ts e = absurd cc
      lines_of (x ∷ xs) t ts e = refl

  -- without
  read_none : edits.tails ≡ [] → IsRead
  read_none none =
      let r = written_law text (h ∷ body) my_bits read my_edits in
      let no_names : names_of edits ≡ [] = ap (λ (l : List TailEdit). map (λ (t : TailEdit). t.tail) l) none in
      let no_assigns : my_assigns ≡ [] = empty my_assigns (count ∙ ap (λ (l : List TailEdit). length l) none) in
      let same_more : my_more ≡ h ∷ body = ap₂ (λ (names : List (List ℕ)) (as' : List BitAssign). extended names as' (h ∷ body)) no_names no_assigns ∙ ap (λ (l : List Placed). h ∷ l) (append-nil body) in
      let whole : written_verilog text my_bits ≡ y = ap (spliced text) my_texts ∙ ap (λ (ts : List TailEdit). spliced text (with_tails text n ts all)) (sym none) in
      record {
        values = r.values;
        read_is = ap read_statements (sym whole) ∙ r.is;
        alike = r.same ∙ ap (λ (l : List Placed). bare (changed_statements my_bits l)) (sym same_more);
      }
    where
      empty : (l : List BitAssign) → length l ≡ 0 → l ≡ []
      empty [] e = refl
      empty (x ∷ xs) e = absurd (omega (arith, e))

  is_read : (ts : List TailEdit) → edits.tails ≡ ts → IsRead
  is_read [] e = read_none e
  is_read (t ∷ ts) e = read_lines t ts e

  pub text_denotes : DenotesAlike y (put_netlist n cells edits) (names_of edits)
  text_denotes = let r = is_read edits.tails refl in read_denotes text n h body header reads is ok cells edits are apart few all same rising r.values y r.read_is r.alike kept

  pub text_declares : DeclareBehind text (names_of edits) y
  text_declares = let r = is_read edits.tails refl in read_declares text n h body header reads is ok cells edits are apart few all same rising r.values y r.read_is r.alike kept

-- the written text
pub record IsDenoted (text : List ℕ) (n : Netlist) (cells : Cells) (old new : List Path) (edits : Edits) (written : List ℕ) : Type 0 where
  pub denoted : DenotesAlike written (rewired n cells (names_of edits) old new) (names_of edits)
  pub declared : DeclareBehind text (names_of edits) written

pub text_law : (text : List ℕ) (n : Netlist) → DenotesNetlist text n → (cells : Cells) (old new : List Path) (edits : Edits) → AreEditsFor n cells old new edits → AreRearranged n cells old new
    → AreTailNames n (freed_between n cells old new) (names_of edits) → (all : List Edit) → IsPermutation (expression_edits n cells edits) all → AreRising 0 (length text) (with_tails text n edits.tails all)
    → IsDenoted text n cells old new edits (spliced text (with_tails text n edits.tails all))
text_law text n d cells old new edits e r named all same lines = by d.statements d.reads d.is (are_tailed text n d cells old new edits e r)
  where
    count : length (names_of edits) ≡ length edits.tails
    count = length-map edits.tails (λ (t : TailEdit). t.tail)

    apart : Distinct (names_of edits)
    apart = distinct_behind (map (λ (net : NetName). net.plain) n.nets) (names_of edits) (once (map (λ (net : NetName). net.plain) n.nets ++ names_of edits) named.apart)

    few : length n.nets + length edits.tails < 2 ^ 32
    few = let f = named.few in let c = count in omega (arith, f, c)

    by : (ps : List Placed) → IsFaultless text ps → IsNetlistOf ps n → AreTailed n cells ps edits → IsDenoted text n cells old new edits (spliced text (with_tails text n edits.tails all))
    by [] reads is are = let s = spelled_law text [] (passed text [] reads).read in absurd s.good.order
    by (h ∷ body) reads is are =
        let s = spelled_law text (h ∷ body) (passed text (h ∷ body) reads).read in
        let header = s.good.order.0 in
        record {
          denoted = subst (λ (m : Netlist). DenotesAlike (spliced text (with_tails text n edits.tails all)) m (names_of edits)) (target_is n cells old new edits e)
              (text_denotes text n h body header reads is d.sound cells edits are apart few all same lines);
          declared = text_declares text n h body header reads is d.sound cells edits are apart few all same lines;
        }
