-- A name that has an entry keeps its place, whatever is mentioned later, and so what is made of it stays.
use Rattle.std.proofs.Common.{◌≡◌, ℕ, ◌+◌, Bool, true, false, cond, ◌||◌, List, [], ◌∷◌, ◌++◌, map, Option, Some, None, refl, sym, ap, subst, ◌∙◌}
use Rattle.std.specs.Option.{is_some}
use Rattle.std.specs.List.{flat_map, All}
use Rattle.std.specs.Str.{bytes_eq}
use Rattle.std.proofs.lemmas.Bool.{false≢true}
use Rattle.std.proofs.lemmas.List.Concat.{flat_map-append}
use Rattle.std.proofs.lemmas.List.Elements.{All-nil, All-cons, All-head, All-tail}
use Rattle.std.specs.List.{AllByRecursion as Each}
use Rattle.base_types.proofs.TruthValues.{bytes_same}
use Rattle.netlist_core.specs.declared.netlist.Bit.{Bit}
use Rattle.netlist_core.specs.declared.netlist.Assign.{Assign}
use Rattle.netlist_core.specs.declared.netlist.Expr.{Expr}
use Rattle.netlist_core.specs.declared.netlist.Connection.{Connection as NetConnection}
use Rattle.netlist_core.specs.declared.netlist.Instance.{Instance}
use Rattle.verilog_syntax.specs.declared.statement.Item.{Item}
use Rattle.verilog_syntax.specs.declared.statement.Item.TheVariants as items
use Rattle.verilog_syntax.specs.declared.statement.Expression.{Expression}
use Rattle.verilog_syntax.specs.declared.statement.Connection.{Connection}
use Rattle.verilog_syntax.specs.declared.statement.Statement.{Statement}
use Rattle.verilog_syntax.specs.declared.statement.Statement.TheVariants as statements
use Rattle.verilog_names.specs.declared.bounds.Bounds.{Bounds}
use Rattle.verilog_names.specs.declared.entry.Entry.{Entry}
use Rattle.verilog_names.specs.Values.{unescaped, decimal_value}
use Rattle.verilog_names.specs.Declarations.{mentions_of, mentions_in, connection_items, width_or_one, part_of, selects, selects_part}
use Rattle.verilog_names.specs.NameTables.{place_from, place, with_entry, with_entries}
use Rattle.verilog_reader.specs.Numbering.{bounds_or, with_mentioned, all_bits, one_bit, part_bits, numbered_item, numbered_items, numbered_expression, numbered_connection, numbered_assigns_in, numbered_instances_in, IsFineItem, IsFineExpression, IsFineStatement, HasFineItems}
use Rattle.verilog_reader.proofs.Filling.{Entries}
use Rattle.verilog_reader.proofs.Places.{named, named_more, named_all}

-- entries behind those that have the name
place_append : (q : List ℕ) (at : ℕ) (es more : Entries) → named es q ≡ true → place_from at (es ++ more) q ≡ place_from at es q
place_append q at [] more is = absurd (false≢true is)
place_append q at (e ∷ es) more is = by (bytes_eq q e.0) is (place_append q (at + width_or_one e.1) es more)
  where
    here : Option Entry
    here = Some (record { first = at; bounds = e.1 })

    by : (t : Bool) → (t || named es q) ≡ true → (named es q ≡ true → place_from (at + width_or_one e.1) (es ++ more) q ≡ place_from (at + width_or_one e.1) es q)
        → cond t here (place_from (at + width_or_one e.1) (es ++ more) q) ≡ cond t here (place_from (at + width_or_one e.1) es q)
    by true is rest = refl
    by false is rest = rest is

kept_by : (es : Entries) (n : List ℕ) (b : Option Bounds) (q : List ℕ) → named es q ≡ true → place (with_entry es n b) q ≡ place es q
kept_by es n b q is = by (is_some (place es n))
  where
    by : (t : Bool) → place (cond t es (es ++ (n, b) ∷ [])) q ≡ place es q
    by true = refl
    by false = place_append q 0 es ((n, b) ∷ []) is

pub kept : (es xs : Entries) (q : List ℕ) → named es q ≡ true → place (with_entries es xs) q ≡ place es q
kept es [] q is = refl
kept es (x ∷ xs) q is = kept (with_entry es x.0 x.1) xs q (named_more es x.0 x.1 q ∙ ap (λ (t : Bool). t || bytes_eq q x.0) is) ∙ kept_by es x.0 x.1 q is

-- two lists of entries have the same places for names
abbrev pub Agree : Entries → Entries → List (List ℕ) → Type 0
Agree es more names = Each (λ q. place more q ≡ place es q) names

pub each_left : {X : Type 0} (P : X → Type 0) (xs ys : List X) → Each P (xs ++ ys) → Each P xs
each_left P [] ys is = tt
each_left P (x ∷ xs) ys is = (is.0, each_left P xs ys is.1)

pub each_right : {X : Type 0} (P : X → Type 0) (xs ys : List X) → Each P (xs ++ ys) → Each P ys
each_right P [] ys is = is
each_right P (x ∷ xs) ys is = each_right P xs ys is.1

agree_left : (es more : Entries) (xs ys : List (List ℕ)) → Agree es more (xs ++ ys) → Agree es more xs
agree_left es more xs ys is = each_left (λ (q : List ℕ). place more q ≡ place es q) xs ys is

agree_right : (es more : Entries) (xs ys : List (List ℕ)) → Agree es more (xs ++ ys) → Agree es more ys
agree_right es more xs ys is = each_right (λ (q : List ℕ). place more q ≡ place es q) xs ys is

-- what is mentioned is settled
pub settled : (es : Entries) (names : List (List ℕ)) (xs : Entries) → Agree (with_mentioned es names) (with_entries (with_mentioned es names) xs) names
settled es [] xs = tt
settled es (n ∷ names) xs = (
  kept (with_mentioned es (n ∷ names)) xs n
      (named_all (with_entry es n None) (map (λ (name : List ℕ). let e : List ℕ × Option Bounds = (name, None) in e) names) n
      ∙ ap (λ (t : Bool). t || named (map (λ (name : List ℕ). let e : List ℕ × Option Bounds = (name, None) in e) names) n) (named_more es n None n ∙ self)),
  settled (with_entry es n None) names xs,
)
  where
    or_true : (t : Bool) → (t || true) ≡ true
    or_true true = refl
    or_true false = refl

    self : (named es n || bytes_eq n n) ≡ true
    self = ap (λ (t : Bool). named es n || t) (bytes_same n n refl) ∙ or_true (named es n)

module _ (es more : Entries) where
  pub same_item : (x : Item) → Agree es more (mentions_of x) → numbered_item more x ≡ numbered_item es x
  same_item items.Open is = refl
  same_item items.Comma is = refl
  same_item items.Close is = refl
  same_item (items.Name name) is = ap all_bits is.0
  same_item (items.Bit name index) is = ap (λ (o : Option Entry). one_bit o (decimal_value index)) is.0
  same_item (items.Part name left right) is = ap (λ (o : Option Entry). part_bits o (part_of left right)) is.0
  same_item (items.Constant text) is = refl

  pub fine_item : (x : Item) → Agree es more (mentions_of x) → IsFineItem more x → IsFineItem es x
  fine_item items.Open is fine = tt
  fine_item items.Comma is fine = tt
  fine_item items.Close is fine = tt
  fine_item (items.Name name) is fine = sym (ap is_some is.0) ∙ fine
  fine_item (items.Bit name index) is fine = (fine.0, sym (ap (λ (o : Option Entry). selects (bounds_or o) (decimal_value index)) is.0) ∙ fine.1)
  fine_item (items.Part name left right) is fine = (fine.0, fine.1, sym (ap (λ (o : Option Entry). selects_part (bounds_or o) (part_of left right)) is.0) ∙ fine.2)
  fine_item (items.Constant text) is fine = fine

  pub same_items : (xs : List Item) → Agree es more (flat_map mentions_of xs) → numbered_items more xs ≡ numbered_items es xs
  same_items [] is = refl
  same_items (x ∷ xs) is =
      ap (λ (bits : List Bit). bits ++ numbered_items more xs) (same_item x (agree_left es more (mentions_of x) (flat_map mentions_of xs) is))
      ∙ ap (λ (bits : List Bit). numbered_item es x ++ bits) (same_items xs (agree_right es more (mentions_of x) (flat_map mentions_of xs) is))

  pub fine_items : (xs : List Item) → Agree es more (flat_map mentions_of xs) → All (IsFineItem more) xs → All (IsFineItem es) xs
  fine_items [] is fine = All-nil (IsFineItem es)
  fine_items (x ∷ xs) is fine =
      All-cons (IsFineItem es) x xs (fine_item x (agree_left es more (mentions_of x) (flat_map mentions_of xs) is) (All-head (IsFineItem more) x xs fine))
      (fine_items xs (agree_right es more (mentions_of x) (flat_map mentions_of xs) is) (All-tail (IsFineItem more) x xs fine))

  pub same_expression : (e : Expression) → Agree es more (flat_map mentions_of e.items) → numbered_expression more e ≡ numbered_expression es e
  same_expression e is = ap (λ (bits : List Bit). let made : Expr = record { bits = bits; span = e.span } in made) (same_items e.items is)

  pub same_connection : (c : Connection) → Agree es more (flat_map mentions_of c.expression.items) → numbered_connection more c ≡ numbered_connection es c
  same_connection c is = ap (λ (e : Expr). let made : NetConnection = record { pin = unescaped c.pin; expr = e } in made) (same_expression c.expression is)

  -- connections' names are those of each
  agree_first : (c : Connection) (cs : List Connection) → Agree es more (flat_map mentions_of (connection_items (c ∷ cs)))
      → Agree es more (flat_map mentions_of c.expression.items ++ flat_map mentions_of (connection_items cs))
  agree_first c cs is = subst (Agree es more) (flat_map-append mentions_of c.expression.items (connection_items cs)) is

  same_connections : (cs : List Connection) → Agree es more (flat_map mentions_of (connection_items cs)) → map (numbered_connection more) cs ≡ map (numbered_connection es) cs
  same_connections [] is = refl
  same_connections (c ∷ cs) is =
      let both = agree_first c cs is in
      ap (λ (made : NetConnection). made ∷ map (numbered_connection more) cs) (same_connection c (agree_left es more (flat_map mentions_of c.expression.items) (flat_map mentions_of (connection_items cs)) both))
      ∙ ap (λ (made : List NetConnection). numbered_connection es c ∷ made) (same_connections cs (agree_right es more (flat_map mentions_of c.expression.items) (flat_map mentions_of (connection_items cs)) both))

  fine_connections : (cs : List Connection) → Agree es more (flat_map mentions_of (connection_items cs)) → All (λ (c : Connection). IsFineExpression more c.expression) cs
      → All (λ (c : Connection). IsFineExpression es c.expression) cs
  fine_connections [] is fine = All-nil (λ (c : Connection). IsFineExpression es c.expression)
  fine_connections (c ∷ cs) is fine =
      let both = agree_first c cs is in
      All-cons (λ (c : Connection). IsFineExpression es c.expression) c cs
      (fine_items c.expression.items (agree_left es more (flat_map mentions_of c.expression.items) (flat_map mentions_of (connection_items cs)) both) (All-head (λ (c : Connection). IsFineExpression more c.expression) c cs fine))
      (fine_connections cs (agree_right es more (flat_map mentions_of c.expression.items) (flat_map mentions_of (connection_items cs)) both) (All-tail (λ (c : Connection). IsFineExpression more c.expression) c cs fine))

  -- an assign's names are those of its sides
  pub agree_sides : (xs ys : List Item) → Agree es more (flat_map mentions_of (xs ++ ys)) → Agree es more (flat_map mentions_of xs ++ flat_map mentions_of ys)
  agree_sides xs ys is = subst (Agree es more) (flat_map-append mentions_of xs ys) is

  pub same_assigns : (line : ℕ) (s : Statement) → Agree es more (mentions_in s) → numbered_assigns_in more line s ≡ numbered_assigns_in es line s
  same_assigns line (statements.Module name ports) is = refl
  same_assigns line (statements.Declare kind range names) is = refl
  same_assigns line (statements.Assign left right) is =
      let both = agree_sides left.items right.items is in
      ap (λ (e : Expr). let made : Assign = record { left = e; right = numbered_expression more right; line = line } in made ∷ [])
      (same_expression left (agree_left es more (flat_map mentions_of left.items) (flat_map mentions_of right.items) both))
      ∙ ap (λ (e : Expr). let made : Assign = record { left = numbered_expression es left; right = e; line = line } in made ∷ [])
      (same_expression right (agree_right es more (flat_map mentions_of left.items) (flat_map mentions_of right.items) both))
  same_assigns line (statements.Instance cell name connections) is = refl

  pub same_instances : (line : ℕ) (s : Statement) → Agree es more (mentions_in s) → numbered_instances_in more line s ≡ numbered_instances_in es line s
  same_instances line (statements.Module name ports) is = refl
  same_instances line (statements.Declare kind range names) is = refl
  same_instances line (statements.Assign left right) is = refl
  same_instances line (statements.Instance cell name connections) is =
      ap (λ (pins : List NetConnection). let made : Instance = record { name = unescaped name; cell = unescaped cell; connections = pins; line = line } in made ∷ []) (same_connections connections is)

  pub has_fine_items : (s : Statement) → Agree es more (mentions_in s) → HasFineItems more s → HasFineItems es s
  has_fine_items (statements.Module name ports) is fine = tt
  has_fine_items (statements.Declare kind range names) is fine = tt
  has_fine_items (statements.Assign left right) is fine =
      let both = agree_sides left.items right.items is in (
        fine_items left.items (agree_left es more (flat_map mentions_of left.items) (flat_map mentions_of right.items) both) fine.0,
        fine_items right.items (agree_right es more (flat_map mentions_of left.items) (flat_map mentions_of right.items) both) fine.1,
      )
  has_fine_items (statements.Instance cell name connections) is fine = fine_connections connections is fine

pub items_of_fine : (es : Entries) (s : Statement) → IsFineStatement es s → HasFineItems es s
items_of_fine es (statements.Module name ports) fine = tt
items_of_fine es (statements.Declare kind range names) fine = tt
items_of_fine es (statements.Assign left right) fine = fine
items_of_fine es (statements.Instance cell name connections) fine = fine
