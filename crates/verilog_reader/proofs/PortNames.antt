-- Ports by their names: a name has one direction, at its first declaration.
use Rattle.std.proofs.Common.{◌≡◌, ℕ, Bool, true, false, cond, not, ◌||◌, ◌&&◌, List, [], ◌∷◌, ◌++◌, map, Option, Some, None, refl, sym, ap, subst, inl, inr, ◌⊎◌, ◌∙◌}
use Rattle.std.specs.Option.{is_some, IsSome, option_or}
use Rattle.std.specs.List.{flat_map, list_any, find}
use Rattle.std.proofs.lemmas.Bool.{false≢true, or_parts}
use Rattle.std.proofs.lemmas.List.{append_assoc, append-nil, map-append}
use Rattle.std.proofs.lemmas.List.Concat.{flat_map-append}
use Rattle.std.proofs.lemmas.List.Folds.{find-append}
use Rattle.std.specs.List.{AllByRecursion as Each}
use Rattle.base_types.proofs.TruthValues.{bytes_same}
use Rattle.netlist_core.specs.declared.netlist.NetName.{NetName}
use Rattle.netlist_core.specs.declared.netlist.Direction.{Direction}
use Rattle.netlist_core.specs.Netlists.{NamedBit, Named, Low, High, Undefined, named_bit, plain_of as net_plain}
use Rattle.verilog_syntax.specs.declared.statement.Declared.{Declared}
use Rattle.verilog_syntax.specs.declared.statement.Declared.TheVariants.{Input, Output, Inout, Wire, Tri, Supply0, Supply1}
use Rattle.verilog_syntax.specs.declared.reading.Placed.{Placed}
use Rattle.verilog_names.specs.declared.bounds.Bounds.{Bounds}
use Rattle.verilog_names.specs.declared.entry.Entry.{Entry}
use Rattle.verilog_names.specs.Declarations.{Declaration, declarations_in, declarations, is_named, first_of, bounds_or_none, bounds_in, is_port_kind, is_wire, ports_in, has, width_or_one}
use Rattle.verilog_checks.specs.Checks.{stands_again, any_again, has_twice, are_bits, have_bits, bad_twice}
use Rattle.verilog_checks.specs.Faults.{same_bounds, pins_in, instance_names, instances_named, scalars_in, scalars}
use Rattle.verilog_reader.specs.Denoted.{SeenPort, directions_of, name_bits, named_of, said_port, said_ports_of, said_ports, seen_port}
use Rattle.verilog_names.specs.NameTables.{place}
use Rattle.verilog_reader.specs.Numbering.{bounds_or, numbers_from, net_bit, numbered_port, port_bits, numbered_ports_of, numbered_ports_in, numbered_ports}
use Rattle.verilog_reader.proofs.Filling.{Entries}
use Rattle.verilog_reader.proofs.Places.{placed, named}
use Rattle.verilog_reader.proofs.NetBits.{nets_of, all_named}
use Rattle.verilog_reader.proofs.Checked.{Passes, each_left, each_right}

-- declarations in a row
pub again-append : (before xs ys : List Declaration) → any_again before (xs ++ ys) ≡ (any_again before xs || any_again (before ++ xs) ys)
unfolding any_again
again-append before [] ys = ap (λ (ds : List Declaration). any_again ds ys) (sym (append-nil before))
again-append before (x ∷ xs) ys =
    ap (λ (t : Bool). stands_again (first_of x.name before) x || t) (again-append (before ++ x ∷ []) xs ys)
    ∙ ap (λ (ds : List Declaration). stands_again (first_of x.name before) x || (any_again (before ++ x ∷ []) xs || any_again ds ys)) (append_assoc before (x ∷ []) xs)
    ∙ sym (or_assoc (stands_again (first_of x.name before) x) (any_again (before ++ x ∷ []) xs) (any_again (before ++ (x ∷ xs)) ys))
  where
    or_assoc : (a b c : Bool) → ((a || b) || c) ≡ (a || (b || c))
    or_assoc true b c = refl
    or_assoc false b c = refl

pub declarations_push : (before : List Placed) (p : Placed) → declarations (before ++ p ∷ []) ≡ declarations before ++ declarations_in p.statement
declarations_push before p =
    flat_map-append (λ (p : Placed). declarations_in p.statement) before (p ∷ []) ∙ ap (λ (ds : List Declaration). declarations before ++ ds) (append-nil (declarations_in p.statement))

-- what the check of names says of a statement beside those before it
pub record IsApart (all before : List Placed) (p : Placed) : Type 0 where
  pub again : any_again (declarations before) (declarations_in p.statement) ≡ false
  pub instances : list_any (has (instance_names before)) (instances_named p.statement) ≡ false
  pub pins : has_twice (pins_in p.statement) ≡ false
  pub no_scalar : are_bits (declarations before) (scalars_in (declarations all) p.statement) ≡ false
  pub no_vector : have_bits (declarations_in p.statement) (scalars (declarations all) before) ≡ false

pub apart : (all before : List Placed) (p : Placed) → bad_twice all before p ≡ false → IsApart all before p
unfolding bad_twice
apart all before p is =
    let a = has_twice (ports_in p.statement) in
    let b = any_again (declarations before) (declarations_in p.statement) in
    let c = list_any (has (instance_names before)) (instances_named p.statement) in
    let d = has_twice (pins_in p.statement) in
    let e = are_bits (declarations before) (scalars_in (declarations all) p.statement) in
    let f = have_bits (declarations_in p.statement) (scalars (declarations all) before) in
    let five = or_parts (a || b || c || d || e) f is in
    let four = or_parts (a || b || c || d) e five.0 in
    let three = or_parts (a || b || c) d four.0 in
    let two = or_parts (a || b) c three.0 in
    let one = or_parts a b two.0 in
    record { again = one.1; instances = two.1; pins = three.1; no_scalar = four.1; no_vector = five.1 }

pub all_again : (all before ps : List Placed) → Passes (bad_twice all) before ps → any_again (declarations before) (declarations ps) ≡ false
unfolding any_again
all_again all before [] passes = refl
all_again all before (p ∷ ps) passes =
    again-append (declarations before) (declarations_in p.statement) (declarations ps)
    ∙ ap (λ (t : Bool). t || any_again (declarations before ++ declarations_in p.statement) (declarations ps)) (apart all before p passes.0).again
    ∙ ap (λ (ds : List Declaration). any_again ds (declarations ps)) (sym (declarations_push before p))
    ∙ all_again all (before ++ p ∷ []) ps passes.1

-- a port's declaration is the first of its name
pub find_any : (test : Declaration → Bool) (ds : List Declaration) → is_some (find test ds) ≡ list_any test ds
find_any test [] = refl
find_any test (d ∷ ds) = by (test d) (find_any test ds)
  where
    by : (t : Bool) → is_some (find test ds) ≡ list_any test ds → is_some (cond t (Some d) (find test ds)) ≡ (t || list_any test ds)
    by true is = refl
    by false is = is

no_wire : (kind : Declared) → is_port_kind kind ≡ true → is_wire kind ≡ false
no_wire Input is = refl
no_wire Output is = refl
no_wire Inout is = refl
no_wire Wire is = absurd (false≢true is)
no_wire Tri is = refl
no_wire Supply0 is = refl
no_wire Supply1 is = refl

pub first_port : (before : List Declaration) (d : Declaration) → is_port_kind d.kind ≡ true → stands_again (first_of d.name before) d ≡ false → is_some (first_of d.name before) ≡ false
first_port before d port is = by (first_of d.name before) is
  where
    by : (o : Option Declaration) → stands_again o d ≡ false → is_some o ≡ false
    by None is = refl
    by (Some first) is = absurd (false≢true (sym is ∙ ap not (at (is_port_kind first.kind) (is_wire d.kind) (same_bounds first.bounds d.bounds) (no_wire d.kind port))))
      where
        at : (a b c : Bool) → b ≡ false → (a && b && c) ≡ false
        at true b c is = ap (λ (b : Bool). b && c) is
        at false b c is = refl

-- the ports' bounds are those of their names
abbrev pub IsFirst : List Declaration → Declaration → Type 0
IsFirst all d = is_port_kind d.kind ≡ true → bounds_in all d.name ≡ d.bounds

bounds_at : (before : List Declaration) (d : Declaration) (after : List Declaration) → is_some (first_of d.name before) ≡ false → bounds_in (before ++ d ∷ after) d.name ≡ d.bounds
bounds_at before d after new =
    ap bounds_or_none (find-append (is_named d.name) before (d ∷ after)) ∙ by (first_of d.name before) (is_named d.name d) new (bytes_same d.name d.name refl)
  where
    by : (o : Option Declaration) (t : Bool) → is_some o ≡ false → t ≡ true → bounds_or_none (option_or o (cond t (Some d) (find (is_named d.name) after))) ≡ d.bounds
    by None t new same = ap (λ (t : Bool). bounds_or_none (cond t (Some d) (find (is_named d.name) after))) same
    by (Some first) t new same = absurd (false≢true (sym new))

firsts_from : (before ds : List Declaration) → any_again before ds ≡ false → Each (IsFirst (before ++ ds)) ds
unfolding any_again
firsts_from before [] is = tt
firsts_from before (d ∷ ds) is =
    let both = or_parts (stands_again (first_of d.name before) d) (any_again (before ++ d ∷ []) ds) is in
    (λ port. bounds_at before d ds (first_port before d port both.0), subst (λ (all : List Declaration). Each (IsFirst all) ds) (append_assoc before (d ∷ []) ds) (firsts_from (before ++ d ∷ []) ds both.1))

pub firsts : (ps : List Placed) → Passes (bad_twice ps) [] ps → Each (IsFirst (declarations ps)) (declarations ps)
firsts ps passes = firsts_from [] (declarations ps) (all_again ps [] ps passes)

-- port bits by their names
unnamed : NamedBit → List ℕ
unnamed (Named name) = name
unnamed Low = []
unnamed High = []
unnamed Undefined = []

plain_bits : (nets : List NetName) (ns : List ℕ) (names : List (List ℕ)) → map (named_bit nets) (map net_bit ns) ≡ named_of names
    → (line : ℕ) (direction : Direction) → map (seen_port nets) (map (numbered_port line direction) ns) ≡ map (said_port line direction) names
unfolding unnamed
plain_bits nets [] [] is line direction = refl
plain_bits nets [] (name ∷ names) is line direction = cc
plain_bits nets (n ∷ ns) [] is line direction = cc
plain_bits nets (n ∷ ns) (name ∷ names) is line direction =
    let here : net_plain nets (record { 0 = n }) ≡ name = ap unnamed (head_of (Named (net_plain nets (record { 0 = n }))) (Named name) (map (named_bit nets) (map net_bit ns)) (named_of names) is) in
    let rest = plain_bits nets ns names (tail_of (Named (net_plain nets (record { 0 = n }))) (Named name) (map (named_bit nets) (map net_bit ns)) (named_of names) is) line direction in
    ap (λ (name : List ℕ). said_port line direction name ∷ map (seen_port nets) (map (numbered_port line direction) ns)) here ∙ ap (λ (ports : List SeenPort). said_port line direction name ∷ ports) rest
  where
    head_of : (x y : NamedBit) (xs ys : List NamedBit) → ◌≡◌ {A = List NamedBit} (x ∷ xs) (y ∷ ys) → x ≡ y
    head_of x y xs ys is = cc

    tail_of : (x y : NamedBit) (xs ys : List NamedBit) → ◌≡◌ {A = List NamedBit} (x ∷ xs) (y ∷ ys) → xs ≡ ys
    tail_of x y xs ys is = cc

module _ (es : Entries) (line : ℕ) (d : Declaration) where
  port_run : (direction : Direction) → IsSome (place es d.name) → bounds_or (place es d.name) ≡ d.bounds
      → map (seen_port (nets_of es)) (port_bits line direction (place es d.name)) ≡ map (said_port line direction) (name_bits d.name d.bounds)
  port_run direction some bounds = by (place es d.name) refl some bounds
    where
      by : (o : Option Entry) → place es d.name ≡ o → IsSome o → bounds_or o ≡ d.bounds
          → map (seen_port (nets_of es)) (port_bits line direction o) ≡ map (said_port line direction) (name_bits d.name d.bounds)
      by None is some bounds = absurd (false≢true some)
      by (Some e) is some bounds =
          plain_bits (nets_of es) (numbers_from e.first (width_or_one e.bounds)) (name_bits d.name d.bounds) (all_named es d.name e is ∙ ap (λ (b : Option Bounds). named_of (name_bits d.name b)) bounds) line direction

  port_runs : (directions : List Direction) → IsSome (place es d.name) → bounds_or (place es d.name) ≡ d.bounds
      → map (seen_port (nets_of es)) (flat_map (λ (direction : Direction). port_bits line direction (place es d.name)) directions)
      ≡ flat_map (λ (direction : Direction). map (said_port line direction) (name_bits d.name d.bounds)) directions
  port_runs [] some bounds = refl
  port_runs (direction ∷ directions) some bounds =
      map-append (seen_port (nets_of es)) (port_bits line direction (place es d.name)) (flat_map (λ (direction : Direction). port_bits line direction (place es d.name)) directions)
      ∙ ap (λ (ports : List SeenPort). ports ++ map (seen_port (nets_of es)) (flat_map (λ (direction : Direction). port_bits line direction (place es d.name)) directions)) (port_run direction some bounds)
      ∙ ap (λ (ports : List SeenPort). map (said_port line direction) (name_bits d.name d.bounds) ++ ports) (port_runs directions some bounds)

  no_direction : (kind : Declared) → (is_port_kind kind ≡ true) ⊎ (directions_of kind ≡ [])
  no_direction Input = inl refl
  no_direction Output = inl refl
  no_direction Inout = inl refl
  no_direction Wire = inr refl
  no_direction Tri = inr refl
  no_direction Supply0 = inr refl
  no_direction Supply1 = inr refl

  ports_of : IsSome (place es d.name) → (is_port_kind d.kind ≡ true → bounds_or (place es d.name) ≡ d.bounds) → map (seen_port (nets_of es)) (numbered_ports_of es line d) ≡ said_ports_of line d
  ports_of some bounds =
      elim (no_direction d.kind) [
        | inl port ↦ port_runs (directions_of d.kind) some (bounds port)
        | inr none ↦
            ap (λ (ds : List Direction). map (seen_port (nets_of es)) (flat_map (λ (direction : Direction). port_bits line direction (place es d.name)) ds)) none
            ∙ sym (ap (λ (ds : List Direction). flat_map (λ (direction : Direction). map (said_port line direction) (name_bits d.name d.bounds)) ds) none)
      ]

ports_in_row : (es : Entries) (all : List Declaration) → ((q : List ℕ) → bounds_or (place es q) ≡ bounds_in all q) → (line : ℕ) (ds : List Declaration) → Each (λ d. named es d.name ≡ true) ds → Each (IsFirst all) ds
    → map (seen_port (nets_of es)) (flat_map (numbered_ports_of es line) ds) ≡ flat_map (said_ports_of line) ds
ports_in_row es all agree line [] declared first = refl
ports_in_row es all agree line (d ∷ ds) declared first =
    map-append (seen_port (nets_of es)) (numbered_ports_of es line d) (flat_map (numbered_ports_of es line) ds)
    ∙ ap (λ (ports : List SeenPort). ports ++ map (seen_port (nets_of es)) (flat_map (numbered_ports_of es line) ds)) (ports_of es line d (placed es d.name ∙ declared.0) (λ port. agree d.name ∙ first.0 port))
    ∙ ap (λ (ports : List SeenPort). said_ports_of line d ++ ports) (ports_in_row es all agree line ds declared.1 first.1)

pub seen_ports : (es : Entries) (all : List Declaration) → ((q : List ℕ) → bounds_or (place es q) ≡ bounds_in all q) → (ps : List Placed) → Each (λ d. named es d.name ≡ true) (declarations ps)
    → Each (IsFirst all) (declarations ps) → map (seen_port (nets_of es)) (numbered_ports es ps) ≡ said_ports ps
seen_ports es all agree [] declared first = refl
seen_ports es all agree (p ∷ ps) declared first =
    let P = λ (d : Declaration). named es d.name ≡ true in
    map-append (seen_port (nets_of es)) (numbered_ports_in es p.line p.statement) (numbered_ports es ps)
    ∙ ap (λ (ports : List SeenPort). ports ++ map (seen_port (nets_of es)) (numbered_ports es ps))
    (ports_in_row es all agree p.line (declarations_in p.statement) (each_left P (declarations_in p.statement) (declarations ps) declared) (each_left (IsFirst all) (declarations_in p.statement) (declarations ps) first))
    ∙ ap (λ (ports : List SeenPort). flat_map (said_ports_of p.line) (declarations_in p.statement) ++ ports)
    (seen_ports es all agree ps (each_right P (declarations_in p.statement) (declarations ps) declared) (each_right (IsFirst all) (declarations_in p.statement) (declarations ps) first))
