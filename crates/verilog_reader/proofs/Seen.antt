-- What the numbered netlist shows is what the statements say.
use Rattle.std.proofs.Common.{◌≡◌, ℕ, ◌+◌, true, List, [], ◌∷◌, ◌++◌, map, Option, Some, None, refl, sym, ap, ◌∙◌}
use Rattle.std.specs.Option.{IsSome}
use Rattle.std.specs.List.{flat_map, All}
use Rattle.std.proofs.lemmas.Bool.{false≢true}
use Rattle.std.proofs.lemmas.List.{map-append}
use Rattle.std.proofs.lemmas.List.Elements.{All-head, All-tail}
use Rattle.netlist_core.specs.Netlists.{NamedBit, Named, named_bit, plain_of as net_plain}
use Rattle.verilog_syntax.specs.declared.statement.Item.{Item}
use Rattle.verilog_syntax.specs.declared.statement.Item.TheVariants as items
use Rattle.verilog_syntax.specs.declared.statement.Expression.{Expression}
use Rattle.verilog_syntax.specs.declared.statement.Connection.{Connection}
use Rattle.verilog_syntax.specs.declared.statement.Statement.{Statement}
use Rattle.verilog_syntax.specs.declared.statement.Statement.TheVariants as statements
use Rattle.verilog_syntax.specs.declared.reading.Placed.{Placed}
use Rattle.verilog_names.specs.declared.bounds.Bounds.{Bounds}
use Rattle.verilog_names.specs.declared.entry.Entry.{Entry}
use Rattle.verilog_names.specs.Values.{unescaped, decimal_value, bit_name}
use Rattle.verilog_reader.specs.Constants.{constant_bits}
use Rattle.verilog_names.specs.Declarations.{Declaration, width, bounds_in, selects, selects_part, part_of}
use Rattle.verilog_reader.specs.Denoted.{SeenExpression, SeenAssign, SeenConnection, SeenInstance, item_bits, name_bits, named_of, said_expression, said_assigns_in, said_connection, said_instances_in, seen_expression, seen_assign, seen_connection, seen_instance}
use Rattle.verilog_names.specs.NameTables.{place, offset_in}
use Rattle.verilog_reader.specs.Numbering.{bounds_or, net_bits, all_bits, one_bit, part_bits, numbered_item, numbered_items, numbered_expression, numbered_connection, numbered_assigns_in, numbered_instances_in, numbered_assigns, numbered_instances, IsFineItem, IsFineExpression, IsFineStatement}
use Rattle.verilog_reader.proofs.Filling.{Entries}
use Rattle.verilog_reader.proofs.NetBits.{nets_of, all_named, one_named, part_named}
use Rattle.verilog_reader.proofs.ConstantMarks.{marks, same_marks}

module _ (es : Entries) (ds : List Declaration) (agree : (q : List ℕ) → bounds_or (place es q) ≡ bounds_in ds q) where
  seen_name : (q : List ℕ) → IsSome (place es q) → map (named_bit (nets_of es)) (all_bits (place es q)) ≡ named_of (name_bits q (bounds_in ds q))
  seen_name q some = by (place es q) refl some
    where
      by : (o : Option Entry) → place es q ≡ o → IsSome o → map (named_bit (nets_of es)) (all_bits o) ≡ named_of (name_bits q (bounds_in ds q))
      by None is some = absurd (false≢true some)
      by (Some e) is some = all_named es q e is ∙ ap (λ (b : Option Bounds). named_of (name_bits q b)) (sym (ap bounds_or is) ∙ agree q)

  seen_bit : (q : List ℕ) (i : ℕ) → selects (bounds_or (place es q)) i ≡ true → map (named_bit (nets_of es)) (one_bit (place es q) i) ≡ Named (bit_name q i) ∷ []
  seen_bit q i within = by (place es q) refl within
    where
      at : (e : Entry) (b : Option Bounds) → place es q ≡ Some e → e.bounds ≡ b → selects b i ≡ true → net_plain (nets_of es) (record { 0 = e.first + offset_in b i }) ≡ bit_name q i
      at e None is some within = absurd (false≢true within)
      at e (Some b) is some within = one_named es q e b i is some within

      by : (o : Option Entry) → place es q ≡ o → selects (bounds_or o) i ≡ true → map (named_bit (nets_of es)) (one_bit o i) ≡ Named (bit_name q i) ∷ []
      by None is within = absurd (false≢true within)
      by (Some e) is within = ap (λ (name : List ℕ). Named name ∷ []) (at e e.bounds is refl within)

  seen_part : (q : List ℕ) (part : Bounds) → selects_part (bounds_or (place es q)) part ≡ true → map (named_bit (nets_of es)) (part_bits (place es q) part) ≡ named_of (name_bits q (Some part))
  seen_part q part within = by (place es q) refl within
    where
      at : (e : Entry) (b : Option Bounds) → place es q ≡ Some e → e.bounds ≡ b → selects_part b part ≡ true
          → map (named_bit (nets_of es)) (net_bits (e.first + offset_in b part.left) (width part)) ≡ named_of (name_bits q (Some part))
      at e None is some within = absurd (false≢true within)
      at e (Some b) is some within = part_named es q e b part is some within

      by : (o : Option Entry) → place es q ≡ o → selects_part (bounds_or o) part ≡ true → map (named_bit (nets_of es)) (part_bits o part) ≡ named_of (name_bits q (Some part))
      by None is within = absurd (false≢true within)
      by (Some e) is within = at e e.bounds is refl within

  seen_item : (item : Item) → IsFineItem es item → map (named_bit (nets_of es)) (numbered_item es item) ≡ item_bits ds item
  seen_item items.Open fine = refl
  seen_item items.Comma fine = refl
  seen_item items.Close fine = refl
  seen_item (items.Name name) fine = seen_name (unescaped name) fine
  seen_item (items.Bit name index) fine = seen_bit (unescaped name) (decimal_value index) fine.1
  seen_item (items.Part name left right) fine = seen_part (unescaped name) (part_of left right) fine.2
  seen_item (items.Constant text) fine = same_marks (nets_of es) (constant_bits text) (marks text)

  seen_items : (xs : List Item) → All (IsFineItem es) xs → map (named_bit (nets_of es)) (numbered_items es xs) ≡ flat_map (item_bits ds) xs
  seen_items [] fine = refl
  seen_items (x ∷ xs) fine =
      map-append (named_bit (nets_of es)) (numbered_item es x) (numbered_items es xs)
      ∙ ap (λ (bits : List NamedBit). bits ++ map (named_bit (nets_of es)) (numbered_items es xs)) (seen_item x (All-head (IsFineItem es) x xs fine))
      ∙ ap (λ (bits : List NamedBit). item_bits ds x ++ bits) (seen_items xs (All-tail (IsFineItem es) x xs fine))

  seen_one : (e : Expression) → IsFineExpression es e → seen_expression (nets_of es) (numbered_expression es e) ≡ said_expression ds e
  seen_one e fine = ap (λ (bits : List NamedBit). let s : SeenExpression = record { bits = bits; span = e.span } in s) (seen_items e.items fine)

  seen_pins : (cs : List Connection) → All (λ (c : Connection). IsFineExpression es c.expression) cs
      → map (seen_connection (nets_of es)) (map (numbered_connection es) cs) ≡ map (said_connection ds) cs
  seen_pins [] fine = refl
  seen_pins (c ∷ cs) fine =
      ap (λ (e : SeenExpression). let s : SeenConnection = record { pin = unescaped c.pin; expression = e } in s ∷ map (seen_connection (nets_of es)) (map (numbered_connection es) cs))
      (seen_one c.expression (All-head (λ (c : Connection). IsFineExpression es c.expression) c cs fine))
      ∙ ap (λ (rest : List SeenConnection). said_connection ds c ∷ rest) (seen_pins cs (All-tail (λ (c : Connection). IsFineExpression es c.expression) c cs fine))

  assigns_in : (line : ℕ) (s : Statement) → IsFineStatement es s → map (seen_assign (nets_of es)) (numbered_assigns_in es line s) ≡ said_assigns_in ds line s
  assigns_in line (statements.Module name ports) fine = refl
  assigns_in line (statements.Declare kind range names) fine = refl
  assigns_in line (statements.Assign left right) fine =
      ap (λ (l : SeenExpression). let s : SeenAssign = record { left = l; right = seen_expression (nets_of es) (numbered_expression es right); line = line } in s ∷ []) (seen_one left fine.0)
      ∙ ap (λ (r : SeenExpression). let s : SeenAssign = record { left = said_expression ds left; right = r; line = line } in s ∷ []) (seen_one right fine.1)
  assigns_in line (statements.Instance cell name connections) fine = refl

  instances_in : (line : ℕ) (s : Statement) → IsFineStatement es s → map (seen_instance (nets_of es)) (numbered_instances_in es line s) ≡ said_instances_in ds line s
  instances_in line (statements.Module name ports) fine = refl
  instances_in line (statements.Declare kind range names) fine = refl
  instances_in line (statements.Assign left right) fine = refl
  instances_in line (statements.Instance cell name connections) fine =
      ap (λ (cs : List SeenConnection). let s : SeenInstance = record { name = unescaped name; cell = unescaped cell; connections = cs; line = line } in s ∷ []) (seen_pins connections fine)

  pub seen_assigns : (ps : List Placed) → All (λ (p : Placed). IsFineStatement es p.statement) ps
      → map (seen_assign (nets_of es)) (numbered_assigns es ps) ≡ flat_map (λ (p : Placed). said_assigns_in ds p.line p.statement) ps
  seen_assigns [] fine = refl
  seen_assigns (p ∷ ps) fine =
      map-append (seen_assign (nets_of es)) (numbered_assigns_in es p.line p.statement) (numbered_assigns es ps)
      ∙ ap (λ (xs : List SeenAssign). xs ++ map (seen_assign (nets_of es)) (numbered_assigns es ps)) (assigns_in p.line p.statement (All-head (λ (p : Placed). IsFineStatement es p.statement) p ps fine))
      ∙ ap (λ (xs : List SeenAssign). said_assigns_in ds p.line p.statement ++ xs) (seen_assigns ps (All-tail (λ (p : Placed). IsFineStatement es p.statement) p ps fine))

  pub seen_instances : (ps : List Placed) → All (λ (p : Placed). IsFineStatement es p.statement) ps
      → map (seen_instance (nets_of es)) (numbered_instances es ps) ≡ flat_map (λ (p : Placed). said_instances_in ds p.line p.statement) ps
  seen_instances [] fine = refl
  seen_instances (p ∷ ps) fine =
      map-append (seen_instance (nets_of es)) (numbered_instances_in es p.line p.statement) (numbered_instances es ps)
      ∙ ap (λ (xs : List SeenInstance). xs ++ map (seen_instance (nets_of es)) (numbered_instances es ps)) (instances_in p.line p.statement (All-head (λ (p : Placed). IsFineStatement es p.statement) p ps fine))
      ∙ ap (λ (xs : List SeenInstance). said_instances_in ds p.line p.statement ++ xs) (seen_instances ps (All-tail (λ (p : Placed). IsFineStatement es p.statement) p ps fine))
