-- Statements in which no check finds a fault.
use Rattle.std.proofs.Common.{◌≡◌, ℕ, ◌<◌, Bool, true, false, cond, not, ◌||◌, List, [], ◌∷◌, ◌++◌, length, map, get_or, Option, None, Result, Ok, Err, refl, sym, ap, subst, ◌∙◌, nat_lt}
use Rattle.std.specs.List.{flat_map, list_any, All}
use Rattle.std.specs.Str.{bytes_eq}
use Rattle.std.proofs.lemmas.Bool.{or_parts, not-false, or_right, or_left}
use Rattle.std.proofs.lemmas.List.{get_or-map, length-map}
use Rattle.std.proofs.lemmas.List.Concat.{flat_map-append}
use Rattle.std.proofs.lemmas.List.Elements.{All-nil, All-cons, All-head, All-tail}
use Rattle.std.proofs.lemmas.List.Folds.{list_any-append, list_any_at}
use Rattle.std.specs.List.{AllByRecursion as Each}
use Rattle.base_types.specs.declared.fault.Fault.{Fault}
use Rattle.base_types.specs.declared.kind.Kind.{Kind}
use Rattle.base_types.proofs.TruthValues.{bytes_same}
use Rattle.verilog_syntax.specs.declared.statement.Declared.{Declared}
use Rattle.verilog_syntax.specs.declared.statement.Range.{Range}
use Rattle.verilog_syntax.specs.declared.statement.Item.{Item}
use Rattle.verilog_syntax.specs.declared.statement.Item.TheVariants as items
use Rattle.verilog_syntax.specs.declared.statement.Connection.{Connection}
use Rattle.verilog_syntax.specs.declared.statement.Statement.{Statement}
use Rattle.verilog_syntax.specs.declared.statement.Statement.TheVariants as statements
use Rattle.verilog_syntax.specs.declared.reading.Placed.{Placed}
use Rattle.verilog_syntax.specs.Reading.{fault_at}
use Rattle.verilog_names.specs.declared.bounds.Bounds.{Bounds}
use Rattle.verilog_names.specs.Values.{unescaped, decimal_value, is_big_index}
use Rattle.verilog_names.specs.Declarations.{Declaration, declaration_of, declarations_in, declarations, bounds_in, mentions_of, mentions_in, mentions, connection_items, items_in, header_ports, ports_in, selects, selects_part, part_of}
use Rattle.verilog_checks.specs.Checks.{check_from}
use Rattle.verilog_checks.specs.Faults.{is_bad_number, is_bad_range, range_in, bad_number, vector_bits, is_bad_select, differ_in_width, has_direction, is_badly_listed, bad_select}
use Rattle.verilog_names.specs.NameTables.{place, with_declared}
use Rattle.verilog_reader.specs.Numbering.{bounds_or, entries, IsListed, IsFineItem, IsFineExpression, IsFineStatement}
use Rattle.verilog_reader.proofs.Filling.{Entries}
use Rattle.verilog_reader.proofs.Places.{named, placed, named_all, bounds_are}

-- no statement fails a test beside those before it
abbrev pub Passes : (List Placed → Placed → Bool) → List Placed → List Placed → Type 0
Passes bad before [] = Unit {0}
Passes bad before (p ∷ ps) = (bad before p ≡ false) × Passes bad (before ++ p ∷ []) ps

pub passes : (bad : List Placed → Placed → Bool) (kind : Kind) (before ps : List Placed) → check_from bad kind before ps ≡ Ok tt → Passes bad before ps
unfolding check_from
passes bad kind before [] is = tt
passes bad kind before (p ∷ ps) is = by (bad before p) refl is (passes bad kind (before ++ p ∷ []) ps)
  where
    by : (t : Bool) → bad before p ≡ t → ◌≡◌ {A = Result (Unit {0}) Fault} (cond t (Err (fault_at kind p.line)) (check_from bad kind (before ++ p ∷ []) ps)) (Ok tt)
        → (check_from bad kind (before ++ p ∷ []) ps ≡ Ok tt → Passes bad (before ++ p ∷ []) ps) → (bad before p ≡ false) × Passes bad (before ++ p ∷ []) ps
    by true fails is rest = cc
    by false fine is rest = (fine, rest is)

-- a fact of each member
pub each_left : {X : Type 0} (P : X → Type 0) (xs ys : List X) → Each P (xs ++ ys) → Each P xs
each_left P [] ys a = tt
each_left P (x ∷ xs) ys a = (a.0, each_left P xs ys a.1)

pub each_right : {X : Type 0} (P : X → Type 0) (xs ys : List X) → Each P (xs ++ ys) → Each P ys
each_right P [] ys a = a
each_right P (x ∷ xs) ys a = each_right P xs ys a.1

pub each_from : {X : Type 0} (P : X → Type 0) (xs : List X) → All P xs → Each P xs
each_from P [] a = tt
each_from P (x ∷ xs) a = (All-head P x xs a, each_from P xs (All-tail P x xs a))

pub mentioned_named : (ps : List Placed) → Each (λ q. named (entries ps) q ≡ true) (mentions ps)
mentioned_named ps = each_from (λ (q : List ℕ). named (entries ps) q ≡ true) (mentions ps) (λ k d lt.
    let names = mentions ps in
    let es : Entries = map (λ (name : List ℕ). let e : List ℕ × Option Bounds = (name, None) in e) names in
    let lt' : k < length es = subst (λ (n : ℕ). k < n) (sym (length-map names (λ (name : List ℕ). let e : List ℕ × Option Bounds = (name, None) in e))) lt in
    named_all (with_declared [] (declarations ps)) es (get_or names k d)
    ∙ or_right (named (with_declared [] (declarations ps)) (get_or names k d)) (named es (get_or names k d))
    (list_any_at (λ (e : List ℕ × Option Bounds). bytes_eq (get_or names k d) e.0) es k (d, None) lt'
    (bytes_same (get_or names k d) (get_or es k (d, None)).0
    (sym (ap (λ (e : List ℕ × Option Bounds). e.0) (get_or-map (λ (name : List ℕ). let e : List ℕ × Option Bounds = (name, None) in e) names k d (d, None) lt))))))

pub declared_named : (ps : List Placed) → Each (λ d. named (entries ps) d.name ≡ true) (declarations ps)
declared_named ps = each_from (λ (d : Declaration). named (entries ps) d.name ≡ true) (declarations ps) (λ k d lt.
    let ds = declarations ps in
    let entry = λ (d : Declaration). let e : List ℕ × Option Bounds = (d.name, d.bounds) in e in
    let es : Entries = map entry ds in
    let lt' : k < length es = subst (λ (n : ℕ). k < n) (sym (length-map ds entry)) lt in
    named_all (with_declared [] ds) (map (λ (name : List ℕ). let e : List ℕ × Option Bounds = (name, None) in e) (mentions ps)) (get_or ds k d).name
    ∙ or_left (named (with_declared [] ds) (get_or ds k d).name) (named (map (λ (name : List ℕ). let e : List ℕ × Option Bounds = (name, None) in e) (mentions ps)) (get_or ds k d).name)
    (named_all [] es (get_or ds k d).name
    ∙ list_any_at (λ (e : List ℕ × Option Bounds). bytes_eq (get_or ds k d).name e.0) es k (entry d) lt'
    (bytes_same (get_or ds k d).name (get_or es k (entry d)).0 (sym (ap (λ (e : List ℕ × Option Bounds). e.0) (get_or-map entry ds k d (entry d) lt))))))

-- fine items
module _ (es : Entries) (ds : List Declaration) (agree : (q : List ℕ) → bounds_or (place es q) ≡ bounds_in ds q) where
  fine_item : (x : Item) → is_bad_number x ≡ false → is_bad_select (bounds_in ds) x ≡ false → Each (λ q. named es q ≡ true) (mentions_of x) → IsFineItem es x
  fine_item items.Open number select listed = tt
  fine_item items.Comma number select listed = tt
  fine_item items.Close number select listed = tt
  fine_item (items.Name name) number select listed = placed es (unescaped name) ∙ listed.0
  fine_item (items.Bit name index) number select listed =
      (number, ap (λ (b : Option Bounds). selects b (decimal_value index)) (agree (unescaped name)) ∙ not-false (selects (bounds_in ds (unescaped name)) (decimal_value index)) select)
  fine_item (items.Part name left right) number select listed =
      let both = or_parts (is_big_index left) (is_big_index right) number in
      (both.0, both.1, ap (λ (b : Option Bounds). selects_part b (part_of left right)) (agree (unescaped name)) ∙ not-false (selects_part (bounds_in ds (unescaped name)) (part_of left right)) select)
  fine_item (items.Constant text) number select listed = number

  pub fine_items : (xs : List Item) → list_any is_bad_number xs ≡ false → list_any (is_bad_select (bounds_in ds)) xs ≡ false → Each (λ q. named es q ≡ true) (flat_map mentions_of xs) → All (IsFineItem es) xs
  fine_items [] number select listed = All-nil (IsFineItem es)
  fine_items (x ∷ xs) number select listed =
      let numbers = or_parts (is_bad_number x) (list_any is_bad_number xs) number in
      let chosen = or_parts (is_bad_select (bounds_in ds) x) (list_any (is_bad_select (bounds_in ds)) xs) select in
      All-cons (IsFineItem es) x xs (fine_item x numbers.0 chosen.0 (each_left (λ (q : List ℕ). named es q ≡ true) (mentions_of x) (flat_map mentions_of xs) listed))
      (fine_items xs numbers.1 chosen.1 (each_right (λ (q : List ℕ). named es q ≡ true) (mentions_of x) (flat_map mentions_of xs) listed))

  -- of two lists in a row
  none_left : (f : Item → Bool) (xs ys : List Item) → list_any f (xs ++ ys) ≡ false → (list_any f xs ≡ false) × (list_any f ys ≡ false)
  none_left f xs ys is = or_parts (list_any f xs) (list_any f ys) (sym (list_any-append f xs ys) ∙ is)

  listed_parts : (xs ys : List Item) → Each (λ q. named es q ≡ true) (flat_map mentions_of (xs ++ ys)) → Each (λ q. named es q ≡ true) (flat_map mentions_of xs) × Each (λ q. named es q ≡ true) (flat_map mentions_of ys)
  listed_parts xs ys is =
      let P = λ (q : List ℕ). named es q ≡ true in
      let all = subst (λ (ns : List (List ℕ)). Each P ns) (flat_map-append mentions_of xs ys) is in
      (each_left P (flat_map mentions_of xs) (flat_map mentions_of ys) all, each_right P (flat_map mentions_of xs) (flat_map mentions_of ys) all)

  fine_connections : (cs : List Connection) → list_any is_bad_number (connection_items cs) ≡ false → list_any (is_bad_select (bounds_in ds)) (connection_items cs) ≡ false
      → Each (λ q. named es q ≡ true) (flat_map mentions_of (connection_items cs)) → All (λ (c : Connection). IsFineExpression es c.expression) cs
  fine_connections [] number select listed = All-nil (λ (c : Connection). IsFineExpression es c.expression)
  fine_connections (c ∷ cs) number select listed =
      let numbers = none_left is_bad_number c.expression.items (connection_items cs) number in
      let chosen = none_left (is_bad_select (bounds_in ds)) c.expression.items (connection_items cs) select in
      let names = listed_parts c.expression.items (connection_items cs) listed in
      All-cons (λ (c : Connection). IsFineExpression es c.expression) c cs (fine_items c.expression.items numbers.0 chosen.0 names.0) (fine_connections cs numbers.1 chosen.1 names.1)

  fine_names : (kind : Declared) (range : Option Range) (names : List (List ℕ)) → Each (λ d. named es d.name ≡ true) (map (declaration_of kind range) names) → All (IsListed es) names
  fine_names kind range [] listed = All-nil (IsListed es)
  fine_names kind range (name ∷ names) listed = All-cons (IsListed es) name names (placed es (unescaped name) ∙ listed.0) (fine_names kind range names listed.1)

  pub fine_statement : (s : Statement) → is_bad_range (range_in s) ≡ false → list_any is_bad_number (items_in s) ≡ false → list_any (is_bad_select (bounds_in ds)) (items_in s) ≡ false
      → Each (λ q. named es q ≡ true) (mentions_in s) → Each (λ d. named es d.name ≡ true) (declarations_in s) → IsFineStatement es s
  fine_statement (statements.Module name ports) range number select listed declared = tt
  fine_statement (statements.Declare kind range names) bounds number select listed declared = (bounds, fine_names kind range names declared)
  fine_statement (statements.Assign left right) range number select listed declared =
      let numbers = none_left is_bad_number left.items right.items number in
      let chosen = none_left (is_bad_select (bounds_in ds)) left.items right.items select in
      let names = listed_parts left.items right.items listed in
      (fine_items left.items numbers.0 chosen.0 names.0, fine_items right.items numbers.1 chosen.1 names.1)
  fine_statement (statements.Instance cell name connections) range number select listed declared = fine_connections connections number select listed

-- what the checks say of a statement
pub record IsSound (all : List Placed) (s : Statement) : Type 0 where
  pub range : is_bad_range (range_in s) ≡ false
  pub number : list_any is_bad_number (items_in s) ≡ false
  pub select : list_any (is_bad_select (bounds_in (declarations all))) (items_in s) ≡ false
  pub widths : differ_in_width (bounds_in (declarations all)) s ≡ false

pub sound : (all before ps : List Placed) → Passes bad_number before ps → Passes (λ before p. bad_select all p) before ps → Each (λ p. IsSound all p.statement) ps
unfolding bad_number bad_select
sound all before [] number select = tt
sound all before (p ∷ ps) number select =
    let n = or_parts (is_bad_range (range_in p.statement) || list_any is_bad_number (items_in p.statement)) (nat_lt 16777216 (vector_bits (declarations (before ++ p ∷ [])))) number.0 in
    let m = or_parts (is_bad_range (range_in p.statement)) (list_any is_bad_number (items_in p.statement)) n.0 in
    let s = or_parts (list_any (is_bad_select (bounds_in (declarations all))) (items_in p.statement) || differ_in_width (bounds_in (declarations all)) p.statement || list_any (λ port. not (has_direction (declarations all) port)) (ports_in p.statement))
    (list_any (is_badly_listed (header_ports all)) (declarations_in p.statement)) select.0 in
    let t = or_parts (list_any (is_bad_select (bounds_in (declarations all))) (items_in p.statement) || differ_in_width (bounds_in (declarations all)) p.statement) (list_any (λ port. not (has_direction (declarations all) port)) (ports_in p.statement)) s.0 in
    let u = or_parts (list_any (is_bad_select (bounds_in (declarations all))) (items_in p.statement)) (differ_in_width (bounds_in (declarations all)) p.statement) t.0 in
    (record { range = m.0; number = m.1; select = u.0; widths = u.1 }, sound all (before ++ p ∷ []) ps number.1 select.1)

fine_from : (all ps : List Placed) → Each (λ p. IsSound all p.statement) ps → Each (λ q. named (entries all) q ≡ true) (mentions ps) → Each (λ d. named (entries all) d.name ≡ true) (declarations ps)
    → All (λ (p : Placed). IsFineStatement (entries all) p.statement) ps
fine_from all [] sounds listed declared = All-nil (λ (p : Placed). IsFineStatement (entries all) p.statement)
fine_from all (p ∷ ps) sounds listed declared =
    let P = λ (q : List ℕ). named (entries all) q ≡ true in
    let Q = λ (d : Declaration). named (entries all) d.name ≡ true in
    All-cons (λ (p : Placed). IsFineStatement (entries all) p.statement) p ps
    (fine_statement (entries all) (declarations all) (bounds_are all) p.statement sounds.0.range sounds.0.number sounds.0.select
    (each_left P (mentions_in p.statement) (mentions ps) listed) (each_left Q (declarations_in p.statement) (declarations ps) declared))
    (fine_from all ps sounds.1 (each_right P (mentions_in p.statement) (mentions ps) listed) (each_right Q (declarations_in p.statement) (declarations ps) declared))

pub fine : (ps : List Placed) → Each (λ p. IsSound ps p.statement) ps → All (λ (p : Placed). IsFineStatement (entries ps) p.statement) ps
fine ps sounds = fine_from ps ps sounds (mentioned_named ps) (declared_named ps)
