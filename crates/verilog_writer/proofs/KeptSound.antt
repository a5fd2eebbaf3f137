-- The changed statements are sound: their items fit the declarations, and name what is declared or mentioned.
use Rattle.std.proofs.Common.{◌≡◌, ℕ, ◌<◌, ◌^◌, Bool, true, false, cond, not, nat_lt, List, [], ◌∷◌, map, decimal, Option, Some, None, refl, sym, ap, ◌∙◌, subst, arith}
use Rattle.std.specs.List.{flat_map, list_any}
use Rattle.std.proofs.lemmas.Bool.{false≢true, or_parts, or_from}
use Rattle.std.proofs.lemmas.Fmt.{digits_value-decimal}
use Rattle.std.specs.List.{AllByRecursion as Each}
use Rattle.verilog_syntax.specs.Seams.{is_escapable}
use Rattle.base_types.specs.declared.span.Span.{Span}
use Rattle.verilog_syntax.specs.declared.statement.Item.{Item}
use Rattle.verilog_syntax.specs.declared.statement.Connection.{Connection}
use Rattle.verilog_syntax.specs.declared.statement.Statement.{Statement}
use Rattle.verilog_syntax.specs.declared.statement.Statement.TheVariants as statements
use Rattle.verilog_syntax.specs.declared.reading.Placed.{Placed}
use Rattle.verilog_syntax.specs.Laws.{bare_statement, bare}
use Rattle.verilog_names.specs.declared.bounds.Bounds.{Bounds}
use Rattle.verilog_names.specs.Values.{unescaped, decimal_value, name_text}
use Rattle.verilog_names.specs.Declarations.{declarations, bounds_in, mentions_of, mentions_in, mentions, connection_items, items_in, selects}
use Rattle.verilog_checks.specs.Faults.{is_bad_number, is_bad_range, is_bad_select, differ_in_width}
use Rattle.verilog_reader.specs.Numbering.{entries}
use Rattle.verilog_reader.proofs.Checked.{IsSound, each_left, each_right}
use Rattle.verilog_reader.proofs.Distinct.{each_append}
use Rattle.verilog_reader.proofs.Places.{named, no_place, bounds_are}
use Rattle.verilog_writer.specs.VerilogText.{NetBit, BitEdit, indexed_item, net_item, is_at, changed_items, changed_connection, changed_statement, changed_statements, IsIndex}
use Rattle.verilog_writer.proofs.Bits.{own}
use Rattle.verilog_writer.proofs.Names.{name_again}
use Rattle.verilog_writer.proofs.KeptNets.{IsKnown}
use Rattle.verilog_writer.proofs.KeptBits.{IsKnownBit}
use Rattle.verilog_writer.proofs.KeptFrames.{AreAlike, items_bare, widths_bare}

-- an item with small numbers, within its declaration, and of a known name
pub record IsFine (ps : List Placed) (x : Item) : Type 0 where
  pub number : is_bad_number x ≡ false
  pub select : is_bad_select (bounds_in (declarations ps)) x ≡ false
  pub mentions : Each (λ q. named (entries ps) q ≡ true) (mentions_of x)

abbrev pub AreKnownNames : List Placed → List (List ℕ) → Type 0
AreKnownNames ps names = Each (λ q. named (entries ps) q ≡ true) names

-- a vector with a bit has a name
pub vector_named : (ps : List Placed) (q : List ℕ) (i : ℕ) → selects (bounds_in (declarations ps) q) i ≡ true → named (entries ps) q ≡ true
vector_named ps q i is = by (named (entries ps) q) refl
  where
    by : (t : Bool) → named (entries ps) q ≡ t → t ≡ true
    by true there = refl
    by false none = absurd (false≢true (sym (ap (λ (b : Option Bounds). selects b i) (sym (bounds_are ps q) ∙ no_place (entries ps) q none)) ∙ is))

pub item_fine : (ps : List Placed) (name : List ℕ) (index : Option ℕ) → is_escapable name ≡ true → IsIndex index → IsKnown ps name index → IsFine ps (indexed_item name index)
item_fine ps name None black small known = record { number = refl; select = refl; mentions = (ap (named (entries ps)) (name_again name black) ∙ known.0, tt) }
item_fine ps name (Some i) black small known =
    let low : i < 2 ^ 64 = omega arith in
    let value : decimal_value (decimal i) ≡ i = digits_value-decimal own i low in
    let again = name_again name black in
    record {
      number = ap (nat_lt 65535) value ∙ known.0;
      select = ap not (ap (λ (v : ℕ). selects (bounds_in (declarations ps) (unescaped (name_text name))) v) value ∙ ap (λ (q : List ℕ). selects (bounds_in (declarations ps) q) i) again ∙ known.1);
      mentions = (ap (named (entries ps)) again ∙ vector_named ps name i known.1, tt);
    }

pub bit_fine : (ps : List Placed) (bit : NetBit) → IsKnownBit ps bit → IsFine ps (net_item bit)
bit_fine ps bit known = item_fine ps bit.name bit.index known.is.name known.is.index known.known

-- all items of a list
pub all_fine : (ps : List Placed) (xs : List Item) → list_any is_bad_number xs ≡ false → list_any (is_bad_select (bounds_in (declarations ps))) xs ≡ false → AreKnownNames ps (flat_map mentions_of xs) → Each (IsFine ps) xs
all_fine ps [] number select known = tt
all_fine ps (x ∷ xs) number select known =
    let numbers = or_parts (is_bad_number x) (list_any is_bad_number xs) number in
    let selected = or_parts (is_bad_select (bounds_in (declarations ps)) x) (list_any (is_bad_select (bounds_in (declarations ps))) xs) select in
    let P = λ (q : List ℕ). named (entries ps) q ≡ true in (
      record { number = numbers.0; select = selected.0; mentions = each_left P (mentions_of x) (flat_map mentions_of xs) known },
      all_fine ps xs numbers.1 selected.1 (each_right P (mentions_of x) (flat_map mentions_of xs) known),
    )

pub numbers_fine : (ps : List Placed) (xs : List Item) → Each (IsFine ps) xs → list_any is_bad_number xs ≡ false
numbers_fine ps [] fine = refl
numbers_fine ps (x ∷ xs) fine = or_from (is_bad_number x) (list_any is_bad_number xs) fine.0.number (numbers_fine ps xs fine.1)

pub selects_fine : (ps : List Placed) (xs : List Item) → Each (IsFine ps) xs → list_any (is_bad_select (bounds_in (declarations ps))) xs ≡ false
selects_fine ps [] fine = refl
selects_fine ps (x ∷ xs) fine = or_from (is_bad_select (bounds_in (declarations ps)) x) (list_any (is_bad_select (bounds_in (declarations ps))) xs) fine.0.select (selects_fine ps xs fine.1)

pub mentions_fine : (ps : List Placed) (xs : List Item) → Each (IsFine ps) xs → AreKnownNames ps (flat_map mentions_of xs)
mentions_fine ps [] fine = tt
mentions_fine ps (x ∷ xs) fine = each_append (λ (q : List ℕ). named (entries ps) q ≡ true) (mentions_of x) (flat_map mentions_of xs) fine.0.mentions (mentions_fine ps xs fine.1)

module _ (ps : List Placed) (bits : List BitEdit) (known : Each (λ (e : BitEdit). IsKnownBit ps e.bit) bits) where
  items_fine : (edits : List BitEdit) → Each (λ (e : BitEdit). IsKnownBit ps e.bit) edits → (place : Span) (old : List Item) → Each (IsFine ps) old → Each (IsFine ps) (changed_items edits place old)
  items_fine [] all place old fine = fine
  items_fine (e ∷ edits) all place old fine =
      elim (is_at e.span place) as (λ t. Each (IsFine ps) (cond t (net_item e.bit ∷ []) (changed_items edits place old))) [
        | true ↦ (bit_fine ps e.bit all.0, tt)
        | false ↦ items_fine edits all.1 place old fine
      ]

  connections_fine : (cs : List Connection) → Each (IsFine ps) (connection_items cs) → Each (IsFine ps) (connection_items (map (changed_connection bits) cs))
  connections_fine [] fine = tt
  connections_fine (c ∷ cs) fine =
      each_append (IsFine ps) (changed_items bits c.expression.span c.expression.items) (connection_items (map (changed_connection bits) cs))
      (items_fine bits known c.expression.span c.expression.items (each_left (IsFine ps) c.expression.items (connection_items cs) fine))
      (connections_fine cs (each_right (IsFine ps) c.expression.items (connection_items cs) fine))

  statement_fine : (s : Statement) → Each (IsFine ps) (items_in s) → Each (IsFine ps) (items_in (changed_statement bits s))
  statement_fine (statements.Module name ports) fine = fine
  statement_fine (statements.Declare kind range names) fine = fine
  statement_fine (statements.Assign left right) fine =
      each_append (IsFine ps) left.items (changed_items bits right.span right.items) (each_left (IsFine ps) left.items right.items fine)
      (items_fine bits known right.span right.items (each_right (IsFine ps) left.items right.items fine))
  statement_fine (statements.Instance cell name connections) fine = connections_fine connections fine

  -- the statements that are read again
  pub changed_sound : (olds news : List Placed) → bare news ≡ bare (changed_statements bits olds) → AreAlike olds news → Each (λ p. IsSound ps p.statement) olds → AreKnownNames ps (mentions olds)
      → Each (λ p. differ_in_width (bounds_in (declarations ps)) (changed_statement bits p.statement) ≡ false) olds → Each (λ p. IsSound ps p.statement) news × AreKnownNames ps (mentions news)
  changed_sound [] [] same are sound names widths = (tt, tt)
  changed_sound [] (q ∷ qs) same are sound names widths = absurd are
  changed_sound (p ∷ olds) [] same are sound names widths = absurd are
  changed_sound (p ∷ olds) (q ∷ news) same are sound names widths =
      let first : bare_statement q.statement ≡ bare_statement (changed_statement bits p.statement) = cc in
      let others : bare news ≡ bare (changed_statements bits olds) = cc in
      let P = λ (q : List ℕ). named (entries ps) q ≡ true in
      let items : items_in q.statement ≡ items_in (changed_statement bits p.statement)
      = sym (items_bare q.statement) ∙ ap items_in first ∙ items_bare (changed_statement bits p.statement) in
      let fine : Each (IsFine ps) (items_in q.statement)
      = subst (Each (IsFine ps)) (sym items) (statement_fine p.statement (all_fine ps (items_in p.statement) sound.0.number sound.0.select (each_left P (mentions_in p.statement) (mentions olds) names))) in
      let more = changed_sound olds news others are.1 sound.1 (each_right P (mentions_in p.statement) (mentions olds) names) widths.1 in
      let bounds = bounds_in (declarations ps) in (
        (
          record {
            range = ap is_bad_range are.0.range ∙ sound.0.range;
            number = numbers_fine ps (items_in q.statement) fine;
            select = selects_fine ps (items_in q.statement) fine;
            widths = sym (widths_bare bounds q.statement) ∙ ap (differ_in_width bounds) first ∙ widths_bare bounds (changed_statement bits p.statement) ∙ widths.0;
          },
          more.0,
        ),
        each_append P (mentions_in q.statement) (mentions news) (mentions_fine ps (items_in q.statement) fine) more.1,
      )
