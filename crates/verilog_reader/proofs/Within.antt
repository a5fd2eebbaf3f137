-- The net numbers of a numbered netlist lie within its nets, and its assigns are as wide on both sides.
use Rattle.std.proofs.Common.{◌≡◌, ℕ, zero, suc, ◌+◌, ◌-◌, ◌/◌, ◌<◌, ◌≤◌, Bool, true, false, cond, eqb, List, [], ◌∷◌, length, map, drop, replicate, Option, Some, None, refl, sym, ap, subst, ◌∙◌, arith}
use Rattle.std.specs.Prelude.{fold}
use Rattle.std.specs.Option.{IsSome}
use Rattle.std.specs.List.{flat_map, All}
use Rattle.std.proofs.lemmas.Bool.{false≢true, not-false, eqb-true}
use Rattle.std.proofs.lemmas.List.{length-append, length-map, length-replicate, length-drop}
use Rattle.std.proofs.lemmas.List.Elements.{All-head, All-tail}
use Rattle.std.specs.List.{AllByRecursion as Each}
use Rattle.netlist_core.specs.declared.netlist.Bit.{Bit}
use Rattle.netlist_core.specs.declared.netlist.Bit.TheVariants.{Net, Zero, One, Unknown}
use Rattle.netlist_core.specs.declared.netlist.Connection.{Connection as NetConnection}
use Rattle.netlist_core.specs.Netlists.{IsBitWithin, IsAssign, IsInstance, AreDistinct}
use Rattle.verilog_syntax.specs.declared.statement.Item.{Item}
use Rattle.verilog_syntax.specs.declared.statement.Item.TheVariants as items
use Rattle.verilog_syntax.specs.declared.statement.Expression.{Expression}
use Rattle.verilog_syntax.specs.declared.statement.Connection.{Connection}
use Rattle.verilog_syntax.specs.declared.statement.Statement.{Statement}
use Rattle.verilog_syntax.specs.declared.statement.Statement.TheVariants as statements
use Rattle.verilog_syntax.specs.declared.reading.Placed.{Placed}
use Rattle.verilog_names.specs.declared.bounds.Bounds.{Bounds}
use Rattle.verilog_names.specs.declared.entry.Entry.{Entry}
use Rattle.verilog_names.specs.Values.{unescaped, decimal_value}
use Rattle.verilog_checks.specs.ConstantSizes.{constant_size}
use Rattle.verilog_reader.specs.Constants.{value_bits, fill_of, fitted, digit_bits, digit_width, is_decimal_base, constant_base, constant_digits, constant_bits}
use Rattle.verilog_names.specs.Declarations.{Declaration, width, bounds_in, width_or_one, selects, selects_part, part_of}
use Rattle.verilog_checks.specs.Checks.{has_twice}
use Rattle.verilog_checks.specs.Faults.{item_width, expression_width, differ_in_width, pins_in}
use Rattle.verilog_names.specs.NameTables.{total, place, offset_in}
use Rattle.verilog_reader.specs.Numbering.{bounds_or, numbers_from, net_bit, net_bits, all_bits, one_bit, part_bits, numbered_item, numbered_items, numbered_connection, numbered_assigns_in, numbered_assigns, numbered_instances_in, numbered_instances, IsFineItem, IsFineExpression, IsFineStatement}
use Rattle.verilog_reader.proofs.Filling.{Entries}
use Rattle.verilog_names.proofs.Tables.{within}
use Rattle.verilog_reader.proofs.NumberedLists.{length-numbers}
use Rattle.verilog_reader.proofs.NetBits.{offset_within, part_end}
use Rattle.verilog_reader.proofs.ConstantMarks.{IsMark, marks}
use Rattle.verilog_reader.proofs.Distinct.{each_append, each_weaker, all_of, distinct, distinct_names}

-- numbers in a row
nets_within : (count first n : ℕ) → first + n ≤ count → Each (IsBitWithin count) (net_bits first n)
nets_within count first zero fits = tt
nets_within count first (suc n) fits = (omega (arith, fits), nets_within count (first + 1) n (omega (arith, fits)))

length-bits : (first n : ℕ) → length (net_bits first n) ≡ n
length-bits first n = length-map (numbers_from first n) net_bit ∙ length-numbers first n

mark_within : (count : ℕ) (b : Bit) → IsMark b → IsBitWithin count b
mark_within count (Net net) is = absurd is
mark_within count Zero is = tt
mark_within count One is = tt
mark_within count Unknown is = tt

-- how many bits a constant has
length-value : (n v : ℕ) → length (value_bits n v) ≡ n
length-value zero v = refl
length-value (suc n) v = length-append (value_bits n (v / 2)) _ ∙ (let l = length-value n (v / 2) in omega (arith, l))

length-fitted : (size : ℕ) (fill : Bit) (bits : List Bit) → length (fitted size fill bits) ≡ size
length-fitted size fill bits =
    let l = length-append (replicate (size - length bits) fill) (drop (length bits - size) bits) in
    let r = length-replicate (size - length bits) fill in
    let d = length-drop (length bits - size) bits in
    omega (arith, l, r, d)

pub length-constant : (text : List ℕ) → length (constant_bits text) ≡ constant_size text
unfolding constant_bits
length-constant text = by (is_decimal_base (constant_base text))
  where
    digits : List Bit
    digits = flat_map (digit_bits (digit_width (constant_base text))) (constant_digits text)

    by : (t : Bool) → length (cond t (value_bits (constant_size text) (decimal_value (constant_digits text))) (fitted (constant_size text) (fill_of (constant_digits text)) digits)) ≡ constant_size text
    by true = length-value (constant_size text) (decimal_value (constant_digits text))
    by false = length-fitted (constant_size text) (fill_of (constant_digits text)) digits

module _ (es : Entries) (ds : List Declaration) (agree : (q : List ℕ) → bounds_or (place es q) ≡ bounds_in ds q) where
  -- the bits of an item, and how many they are
  record IsItem (bits : List Bit) (n : ℕ) : Type 0 where
    inside : Each (IsBitWithin (total es)) bits
    many : length bits ≡ n

  name_item : (q : List ℕ) → IsSome (place es q) → IsItem (all_bits (place es q)) (width_or_one (bounds_in ds q))
  name_item q some = by (place es q) refl some
    where
      by : (o : Option Entry) → place es q ≡ o → IsSome o → IsItem (all_bits o) (width_or_one (bounds_in ds q))
      by None is some = absurd (false≢true some)
      by (Some e) is some = record {
        inside = nets_within (total es) e.first (width_or_one e.bounds) (within q es e is);
        many = length-bits e.first (width_or_one e.bounds) ∙ ap width_or_one (sym (ap bounds_or is) ∙ agree q);
      }

  bit_item : (q : List ℕ) (i : ℕ) → selects (bounds_or (place es q)) i ≡ true → IsItem (one_bit (place es q) i) 1
  bit_item q i chosen = by (place es q) refl chosen
    where
      at : (e : Entry) (b : Option Bounds) → place es q ≡ Some e → e.bounds ≡ b → selects b i ≡ true → e.first + offset_in b i < total es
      at e None is some chosen = absurd (false≢true chosen)
      at e (Some b) is some chosen =
          let fits = subst (λ (b : Option Bounds). e.first + width_or_one b ≤ total es) some (within q es e is) in
          let here = offset_within b i chosen in
          omega (arith, fits, here)

      by : (o : Option Entry) → place es q ≡ o → selects (bounds_or o) i ≡ true → IsItem (one_bit o i) 1
      by None is chosen = absurd (false≢true chosen)
      by (Some e) is chosen = record { inside = (at e e.bounds is refl chosen, tt); many = refl }

  part_item : (q : List ℕ) (part : Bounds) → selects_part (bounds_or (place es q)) part ≡ true → IsItem (part_bits (place es q) part) (width part)
  part_item q part chosen = by (place es q) refl chosen
    where
      at : (e : Entry) (b : Option Bounds) → place es q ≡ Some e → e.bounds ≡ b → selects_part b part ≡ true → e.first + offset_in b part.left + width part ≤ total es
      at e None is some chosen = absurd (false≢true chosen)
      at e (Some b) is some chosen =
          let fits = subst (λ (b : Option Bounds). e.first + width_or_one b ≤ total es) some (within q es e is) in
          let here = part_end b part chosen in
          omega (arith, fits, here)

      by : (o : Option Entry) → place es q ≡ o → selects_part (bounds_or o) part ≡ true → IsItem (part_bits o part) (width part)
      by None is chosen = absurd (false≢true chosen)
      by (Some e) is chosen = record {
        inside = nets_within (total es) (e.first + offset_in e.bounds part.left) (width part) (at e e.bounds is refl chosen);
        many = length-bits (e.first + offset_in e.bounds part.left) (width part);
      }

  item_is : (x : Item) → IsFineItem es x → IsItem (numbered_item es x) (item_width (bounds_in ds) x)
  item_is items.Open fine = record { inside = tt; many = refl }
  item_is items.Comma fine = record { inside = tt; many = refl }
  item_is items.Close fine = record { inside = tt; many = refl }
  item_is (items.Name name) fine = name_item (unescaped name) fine
  item_is (items.Bit name index) fine = bit_item (unescaped name) (decimal_value index) fine.1
  item_is (items.Part name left right) fine = part_item (unescaped name) (part_of left right) fine.2
  item_is (items.Constant text) fine = record {
    inside = each_weaker IsMark (IsBitWithin (total es)) (constant_bits text) (mark_within (total es)) (marks text);
    many = length-constant text;
  }

  items_within : (xs : List Item) → All (IsFineItem es) xs → Each (IsBitWithin (total es)) (numbered_items es xs)
  items_within [] fine = tt
  items_within (x ∷ xs) fine =
      each_append (IsBitWithin (total es)) (numbered_item es x) (numbered_items es xs) (item_is x (All-head (IsFineItem es) x xs fine)).inside (items_within xs (All-tail (IsFineItem es) x xs fine))

  items_many : (n : ℕ) (xs : List Item) → All (IsFineItem es) xs → fold (λ a x. a + item_width (bounds_in ds) x) n xs ≡ n + length (numbered_items es xs)
  items_many n [] fine = omega arith
  items_many n (x ∷ xs) fine =
      let here = (item_is x (All-head (IsFineItem es) x xs fine)).many in
      let rest = items_many (n + item_width (bounds_in ds) x) xs (All-tail (IsFineItem es) x xs fine) in
      let both = length-append (numbered_item es x) (numbered_items es xs) in
      omega (arith, here, rest, both)

  pub wide : (e : Expression) → IsFineExpression es e → length (numbered_items es e.items) ≡ expression_width (bounds_in ds) e
  wide e fine = let all = items_many 0 e.items fine in omega (arith, all)

  bits_within : (e : Expression) → IsFineExpression es e → All (IsBitWithin (total es)) (numbered_items es e.items)
  bits_within e fine = all_of (IsBitWithin (total es)) (numbered_items es e.items) (items_within e.items fine)

  assigns_in : (line : ℕ) (s : Statement) → IsFineStatement es s → differ_in_width (bounds_in ds) s ≡ false → Each (IsAssign (total es)) (numbered_assigns_in es line s)
  assigns_in line (statements.Module name ports) fine widths = tt
  assigns_in line (statements.Declare kind range names) fine widths = tt
  assigns_in line (statements.Assign left right) fine widths = (
    record {
      left = bits_within left fine.0;
      right = bits_within right fine.1;
      widths = wide left fine.0 ∙ eqb-true (expression_width (bounds_in ds) left) (expression_width (bounds_in ds) right) (not-false (eqb (expression_width (bounds_in ds) left) (expression_width (bounds_in ds) right)) widths) ∙ sym (wide right fine.1);
    },
    tt,
  )
  assigns_in line (statements.Instance cell name connections) fine widths = tt

  pins_within : (cs : List Connection) → All (λ (c : Connection). IsFineExpression es c.expression) cs
      → Each (λ (c : NetConnection). All (IsBitWithin (total es)) c.expr.bits) (map (numbered_connection es) cs)
  pins_within [] fine = tt
  pins_within (c ∷ cs) fine =
      (bits_within c.expression (All-head (λ (c : Connection). IsFineExpression es c.expression) c cs fine), pins_within cs (All-tail (λ (c : Connection). IsFineExpression es c.expression) c cs fine))

  pins_named : (cs : List Connection) → map (λ (c : NetConnection). c.pin) (map (numbered_connection es) cs) ≡ map (λ (c : Connection). unescaped c.pin) cs
  pins_named [] = refl
  pins_named (c ∷ cs) = ap (λ (pins : List (List ℕ)). unescaped c.pin ∷ pins) (pins_named cs)

  instances_in : (line : ℕ) (s : Statement) → IsFineStatement es s → has_twice (pins_in s) ≡ false → Each (IsInstance (total es)) (numbered_instances_in es line s)
  instances_in line (statements.Module name ports) fine once = tt
  instances_in line (statements.Declare kind range names) fine once = tt
  instances_in line (statements.Assign left right) fine once = tt
  instances_in line (statements.Instance cell name connections) fine once = (
    record {
      nets = all_of (λ (c : NetConnection). All (IsBitWithin (total es)) c.expr.bits) (map (numbered_connection es) connections) (pins_within connections fine);
      pins = subst AreDistinct (sym (pins_named connections)) (distinct (map (λ (c : Connection). unescaped c.pin) connections) (distinct_names (map (λ (c : Connection). unescaped c.pin) connections) once));
    },
    tt,
  )

  pub assigns_are : (ps : List Placed) → All (λ (p : Placed). IsFineStatement es p.statement) ps → Each (λ p. differ_in_width (bounds_in ds) p.statement ≡ false) ps → Each (IsAssign (total es)) (numbered_assigns es ps)
  assigns_are [] fine widths = tt
  assigns_are (p ∷ ps) fine widths =
      each_append (IsAssign (total es)) (numbered_assigns_in es p.line p.statement) (numbered_assigns es ps)
      (assigns_in p.line p.statement (All-head (λ (p : Placed). IsFineStatement es p.statement) p ps fine) widths.0) (assigns_are ps (All-tail (λ (p : Placed). IsFineStatement es p.statement) p ps fine) widths.1)

  pub instances_are : (ps : List Placed) → All (λ (p : Placed). IsFineStatement es p.statement) ps → Each (λ p. has_twice (pins_in p.statement) ≡ false) ps → Each (IsInstance (total es)) (numbered_instances es ps)
  instances_are [] fine once = tt
  instances_are (p ∷ ps) fine once =
      each_append (IsInstance (total es)) (numbered_instances_in es p.line p.statement) (numbered_instances es ps)
      (instances_in p.line p.statement (All-head (λ (p : Placed). IsFineStatement es p.statement) p ps fine) once.0) (instances_are ps (All-tail (λ (p : Placed). IsFineStatement es p.statement) p ps fine) once.1)
