-- Ports have nets of their own, and instances names of their own.
use Rattle.std.proofs.Common.{◌≡◌, ℕ, zero, suc, ◌+◌, ◌<◌, ◌≤◌, Bool, true, false, cond, List, [], ◌∷◌, ◌++◌, map, Option, Some, None, refl, sym, ap, subst, inl, inr, ◌⊎◌, ◌∙◌, arith}
use Rattle.std.specs.List.{flat_map, list_any}
use Rattle.std.specs.Str.{bytes_eq}
use Rattle.std.proofs.lemmas.Bool.{false≢true, or_parts, cases_Bool}
use Rattle.std.proofs.lemmas.Option.{none-some, same_Some}
use Rattle.std.proofs.lemmas.List.{append-nil, map-append}
use Rattle.std.proofs.lemmas.List.Concat.{flat_map-append}
use Rattle.std.proofs.lemmas.List.Folds.{list_any-append}
use Rattle.std.specs.List.{AllByRecursion as Each}
use Rattle.base_types.proofs.TruthValues.{bytes_same, bytes_are}
use Rattle.netlist_core.specs.declared.netlist.Direction.{Direction}
use Rattle.netlist_core.specs.declared.netlist.Port.{Port}
use Rattle.netlist_core.specs.declared.netlist.Instance.{Instance}
use Rattle.verilog_syntax.specs.declared.statement.Declared.{Declared}
use Rattle.verilog_syntax.specs.declared.statement.Declared.TheVariants.{Input, Output, Inout, Wire, Tri, Supply0, Supply1}
use Rattle.verilog_syntax.specs.declared.statement.Statement.{Statement}
use Rattle.verilog_syntax.specs.declared.statement.Statement.TheVariants as statements
use Rattle.verilog_syntax.specs.declared.reading.Placed.{Placed}
use Rattle.verilog_names.specs.declared.bounds.Bounds.{Bounds}
use Rattle.verilog_names.specs.declared.entry.Entry.{Entry}
use Rattle.verilog_names.specs.Values.{unescaped}
use Rattle.verilog_names.specs.Declarations.{Declaration, declarations_in, declarations, is_named, first_of, is_declared, is_port_kind, has, width_or_one}
use Rattle.verilog_checks.specs.Checks.{stands_again, any_again, bad_twice}
use Rattle.verilog_checks.specs.Faults.{instances_named, instance_names}
use Rattle.verilog_reader.specs.Denoted.{directions_of}
use Rattle.verilog_names.specs.NameTables.{total, place_from, place}
use Rattle.verilog_reader.specs.Numbering.{numbers_from, numbered_port, port_bits, numbered_ports_of, numbered_ports_in, numbered_ports, numbered_instances_in, numbered_instances}
use Rattle.verilog_reader.proofs.Filling.{Entries}
use Rattle.verilog_names.proofs.Tables.{within}
use Rattle.verilog_reader.proofs.Checked.{Passes}
use Rattle.verilog_reader.proofs.PortNames.{apart, first_port, find_any}
use Rattle.verilog_reader.proofs.Distinct.{IsApartFrom, Distinct, AreNew, distinct_append, each_append, each_weaker, each_any, new_list, new_append}

-- the numbers of a name's nets
abbrev numbers_of : Option Entry → List ℕ
numbers_of None = []
numbers_of (Some e) = numbers_from e.first (width_or_one e.bounds)

abbrev if_port : Bool → List ℕ → List ℕ
if_port true numbers = numbers
if_port false numbers = []

abbrev port_numbers : Entries → Declaration → List ℕ
port_numbers es d = if_port (is_port_kind d.kind) (numbers_of (place es d.name))

abbrev net_number : Port → ℕ
net_number port = port.net.0

row_numbers : (line : ℕ) (direction : Direction) (ns : List ℕ) → map net_number (map (numbered_port line direction) ns) ≡ ns
row_numbers line direction [] = refl
row_numbers line direction (n ∷ ns) = ap (λ (ns : List ℕ). n ∷ ns) (row_numbers line direction ns)

one_direction : (line : ℕ) (direction : Direction) (o : Option Entry) → map net_number (port_bits line direction o ++ []) ≡ numbers_of o
one_direction line direction None = refl
one_direction line direction (Some e) =
    ap (map net_number) (append-nil (map (numbered_port line direction) (numbers_from e.first (width_or_one e.bounds)))) ∙ row_numbers line direction (numbers_from e.first (width_or_one e.bounds))

declared_numbers : (es : Entries) (line : ℕ) (d : Declaration) → map net_number (numbered_ports_of es line d) ≡ port_numbers es d
declared_numbers es line d = by d.kind
  where
    by : (kind : Declared) → map net_number (flat_map (λ (direction : Direction). port_bits line direction (place es d.name)) (directions_of kind)) ≡ if_port (is_port_kind kind) (numbers_of (place es d.name))
    by Input = one_direction line _ (place es d.name)
    by Output = one_direction line _ (place es d.name)
    by Inout = one_direction line _ (place es d.name)
    by Wire = refl
    by Tri = refl
    by Supply0 = refl
    by Supply1 = refl

row_of : (es : Entries) (line : ℕ) (ds : List Declaration) → map net_number (flat_map (numbered_ports_of es line) ds) ≡ flat_map (port_numbers es) ds
row_of es line [] = refl
row_of es line (d ∷ ds) =
    map-append net_number (numbered_ports_of es line d) (flat_map (numbered_ports_of es line) ds)
    ∙ ap (λ (ns : List ℕ). ns ++ map net_number (flat_map (numbered_ports_of es line) ds)) (declared_numbers es line d) ∙ ap (λ (ns : List ℕ). port_numbers es d ++ ns) (row_of es line ds)

all_numbers : (es : Entries) (ps : List Placed) → map net_number (numbered_ports es ps) ≡ flat_map (port_numbers es) (declarations ps)
all_numbers es [] = refl
all_numbers es (p ∷ ps) =
    map-append net_number (numbered_ports_in es p.line p.statement) (numbered_ports es ps)
    ∙ ap (λ (ns : List ℕ). ns ++ map net_number (numbered_ports es ps)) (row_of es p.line (declarations_in p.statement))
    ∙ ap (λ (ns : List ℕ). flat_map (port_numbers es) (declarations_in p.statement) ++ ns) (all_numbers es ps)
    ∙ sym (flat_map-append (port_numbers es) (declarations_in p.statement) (declarations ps))

-- nets of two names
place_above : (q : List ℕ) (at : ℕ) (es : Entries) (e : Entry) → place_from at es q ≡ Some e → at ≤ e.first
place_above q at [] e is = absurd (none-some e is)
place_above q at (x ∷ es) e is =
    elim (cases_Bool (bytes_eq q x.0)) [
      | inl here ↦
          let first : Entry = record { first = at; bounds = x.1 } in
          let one = same_Some first e (ap (λ (t : Bool). cond t (Some first) (place_from (at + width_or_one x.1) es q)) (sym here) ∙ is) in
          subst (λ (e : Entry). at ≤ e.first) one (omega arith)
      | inr later ↦
          let rest = place_above q (at + width_or_one x.1) es e (ap (λ (t : Bool). cond t (Some (record { first = at; bounds = x.1 })) (place_from (at + width_or_one x.1) es q)) (sym later) ∙ is) in
          omega (arith, rest)
    ]

abbrev IsBefore : Entry → Entry → Type 0
IsBefore e f = e.first + width_or_one e.bounds ≤ f.first

head_before : (p q : List ℕ) (at : ℕ) (x : List ℕ × Option Bounds) (es : Entries) (e f : Entry) → bytes_eq p x.0 ≡ true → bytes_eq q x.0 ≡ false → place_from at (x ∷ es) p ≡ Some e → place_from at (x ∷ es) q ≡ Some f
    → IsBefore e f
head_before p q at x es e f here there is_e is_f =
    let first : Entry = record { first = at; bounds = x.1 } in
    let one = same_Some first e (ap (λ (t : Bool). cond t (Some first) (place_from (at + width_or_one x.1) es p)) (sym here) ∙ is_e) in
    let rest = place_above q (at + width_or_one x.1) es f (ap (λ (t : Bool). cond t (Some first) (place_from (at + width_or_one x.1) es q)) (sym there) ∙ is_f) in
    subst (λ (e : Entry). IsBefore e f) one rest

places_apart : (p q : List ℕ) (at : ℕ) (es : Entries) (e f : Entry) → (p ≡ q → ⊥) → place_from at es p ≡ Some e → place_from at es q ≡ Some f → IsBefore e f ⊎ IsBefore f e
places_apart p q at [] e f ne is_e is_f = absurd (none-some e is_e)
places_apart p q at (x ∷ es) e f ne is_e is_f =
    elim (cases_Bool (bytes_eq p x.0)) [
      | inl here ↦
          elim (cases_Bool (bytes_eq q x.0)) [
            | inl same ↦ absurd (ne (bytes_are p x.0 here ∙ sym (bytes_are q x.0 same)))
            | inr there ↦ inl (head_before p q at x es e f here there is_e is_f)
          ]
      | inr other ↦
          elim (cases_Bool (bytes_eq q x.0)) [
            | inl here ↦ inr (head_before q p at x es f e here other is_f is_e)
            | inr there ↦
                let first : Entry = record { first = at; bounds = x.1 } in
                places_apart p q (at + width_or_one x.1) es e f ne (ap (λ (t : Bool). cond t (Some first) (place_from (at + width_or_one x.1) es p)) (sym other) ∙ is_e)
                (ap (λ (t : Bool). cond t (Some first) (place_from (at + width_or_one x.1) es q)) (sym there) ∙ is_f)
          ]
    ]

numbers_below : (first n : ℕ) → Each (λ k. (first ≤ k) × (k < first + n)) (numbers_from first n)
numbers_below first zero = tt
numbers_below first (suc n) = (
  (omega arith, omega arith),
  each_weaker (λ (k : ℕ). (first + 1 ≤ k) × (k < first + 1 + n)) (λ (k : ℕ). (first ≤ k) × (k < first + suc n)) (numbers_from (first + 1) n)
      (λ k h. (let a = h.0 in omega (arith, a), let b = h.1 in omega (arith, b))) (numbers_below (first + 1) n),
)

numbers_apart : (first n : ℕ) → Distinct (numbers_from first n)
numbers_apart first zero = tt
numbers_apart first (suc n) = (
  each_weaker (λ (k : ℕ). (first + 1 ≤ k) × (k < first + 1 + n)) (λ (k : ℕ). first ≡ k → ⊥) (numbers_from (first + 1) n) (λ k h same. let a = h.0 in omega (arith, a, same)) (numbers_below (first + 1) n),
  numbers_apart (first + 1) n,
)

rows_apart : (e f : Entry) → IsBefore e f ⊎ IsBefore f e
    → Each (λ x. IsApartFrom x (numbers_from f.first (width_or_one f.bounds))) (numbers_from e.first (width_or_one e.bounds))
rows_apart e f order =
    each_weaker (λ (x : ℕ). (e.first ≤ x) × (x < e.first + width_or_one e.bounds)) (λ (x : ℕ). IsApartFrom x (numbers_from f.first (width_or_one f.bounds))) (numbers_from e.first (width_or_one e.bounds))
    (λ x h.
    each_weaker (λ (y : ℕ). (f.first ≤ y) × (y < f.first + width_or_one f.bounds)) (λ (y : ℕ). x ≡ y → ⊥) (numbers_from f.first (width_or_one f.bounds))
    (λ y g same. let a = h.0 in let b = h.1 in let c = g.0 in let d = g.1 in elim order [ inl first ↦ omega (arith, a, b, c, d, first, same) | inr second ↦ omega (arith, a, b, c, d, second, same) ])
    (numbers_below f.first (width_or_one f.bounds)))
    (numbers_below e.first (width_or_one e.bounds))

names_apart : (es : Entries) (p q : List ℕ) → (p ≡ q → ⊥) → Each (λ x. IsApartFrom x (numbers_of (place es q))) (numbers_of (place es p))
names_apart es p q ne = by (place es p) (place es q) refl refl
  where
    by : (a b : Option Entry) → place es p ≡ a → place es q ≡ b → Each (λ x. IsApartFrom x (numbers_of b)) (numbers_of a)
    by None b is_a is_b = tt
    by (Some e) None is_a is_b = each_any (λ (x : ℕ). IsApartFrom x []) (numbers_from e.first (width_or_one e.bounds)) (λ x. tt)
    by (Some e) (Some f) is_a is_b = rows_apart e f (places_apart p q 0 es e f ne is_a is_b)

-- ports of two names
abbrev ArePortsNew : List Declaration → List Declaration → Type 0
ArePortsNew before [] = Unit {0}
ArePortsNew before (d ∷ ds) = (is_port_kind d.kind ≡ true → is_declared before d.name ≡ false) × ArePortsNew (before ++ d ∷ []) ds

abbrev IsOther : Declaration → Declaration → Type 0
IsOther d f = is_port_kind f.kind ≡ true → d.name ≡ f.name → ⊥

abbrev ArePortsApart : List Declaration → Type 0
ArePortsApart [] = Unit {0}
ArePortsApart (d ∷ ds) = Each (IsOther d) ds × ArePortsApart ds

record IsPortList (before ds : List Declaration) : Type 0 where
  new : Each (λ d. is_port_kind d.kind ≡ true → is_declared before d.name ≡ false) ds
  apart : ArePortsApart ds

port_list : (before ds : List Declaration) → ArePortsNew before ds → IsPortList before ds
port_list before [] are = record { new = tt; apart = tt }
port_list before (d ∷ ds) are =
    let rest = port_list (before ++ d ∷ []) ds are.1 in
    let both = λ (f : Declaration) (h : is_declared (before ++ d ∷ []) f.name ≡ false). or_parts (is_declared before f.name) (is_declared (d ∷ []) f.name) (sym (list_any-append (is_named f.name) before (d ∷ [])) ∙ h) in
    record {
      new = (
        are.0,
        each_weaker (λ (f : Declaration). is_port_kind f.kind ≡ true → is_declared (before ++ d ∷ []) f.name ≡ false) (λ (f : Declaration). is_port_kind f.kind ≡ true → is_declared before f.name ≡ false) ds
            (λ f h port. (both f (h port)).0) rest.new,
      );
      apart = (
        each_weaker (λ (f : Declaration). is_port_kind f.kind ≡ true → is_declared (before ++ d ∷ []) f.name ≡ false) (IsOther d) ds
            (λ f h port same. false≢true (sym (or_parts (bytes_eq d.name f.name) false (both f (h port)).1).0 ∙ bytes_same d.name f.name same)) rest.new,
        rest.apart,
      );
    }

ports_new : (before ds : List Declaration) → any_again before ds ≡ false → ArePortsNew before ds
unfolding any_again
ports_new before [] is = tt
ports_new before (d ∷ ds) is =
    let both = or_parts (stands_again (first_of d.name before) d) (any_again (before ++ d ∷ []) ds) is in
    ((λ port. sym (find_any (is_named d.name) before) ∙ first_port before d port both.0), ports_new (before ++ d ∷ []) ds both.1)

declared_apart : (es : Entries) (d f : Declaration) → IsOther d f → Each (λ x. IsApartFrom x (port_numbers es f)) (port_numbers es d)
declared_apart es d f other = by (is_port_kind d.kind) (is_port_kind f.kind) other
  where
    by : (s t : Bool) → (t ≡ true → d.name ≡ f.name → ⊥) → Each (λ x. IsApartFrom x (if_port t (numbers_of (place es f.name)))) (if_port s (numbers_of (place es d.name)))
    by false t other = tt
    by true false other = each_any (λ (x : ℕ). IsApartFrom x []) (numbers_of (place es d.name)) (λ x. tt)
    by true true other = names_apart es d.name f.name (other refl)

others_apart : (es : Entries) (d : Declaration) (fs : List Declaration) → Each (IsOther d) fs → Each (λ x. IsApartFrom x (flat_map (port_numbers es) fs)) (port_numbers es d)
others_apart es d [] others = each_any (λ (x : ℕ). IsApartFrom x []) (port_numbers es d) (λ x. tt)
others_apart es d (f ∷ fs) others =
    join (port_numbers es d) (declared_apart es d f others.0) (others_apart es d fs others.1)
  where
    join : (xs : List ℕ) → Each (λ x. IsApartFrom x (port_numbers es f)) xs → Each (λ x. IsApartFrom x (flat_map (port_numbers es) fs)) xs → Each (λ x. IsApartFrom x (port_numbers es f ++ flat_map (port_numbers es) fs)) xs
    join [] a b = tt
    join (x ∷ xs) a b = (each_append (λ (y : ℕ). x ≡ y → ⊥) (port_numbers es f) (flat_map (port_numbers es) fs) a.0 b.0, join xs a.1 b.1)

port_apart : (es : Entries) (d : Declaration) → Distinct (port_numbers es d)
port_apart es d = by (is_port_kind d.kind) (place es d.name)
  where
    by : (t : Bool) (o : Option Entry) → Distinct (if_port t (numbers_of o))
    by false o = tt
    by true None = tt
    by true (Some e) = numbers_apart e.first (width_or_one e.bounds)

numbers_distinct : (es : Entries) (ds : List Declaration) → ArePortsApart ds → Distinct (flat_map (port_numbers es) ds)
numbers_distinct es [] apart = tt
numbers_distinct es (d ∷ ds) apart = distinct_append (port_numbers es d) (flat_map (port_numbers es) ds) (port_apart es d) (numbers_distinct es ds apart.1) (others_apart es d ds apart.0)

pub ports_distinct : (es : Entries) (ps : List Placed) → any_again [] (declarations ps) ≡ false → Distinct (map net_number (numbered_ports es ps))
ports_distinct es ps is = subst (λ (ns : List ℕ). Distinct ns) (sym (all_numbers es ps)) (numbers_distinct es (declarations ps) (port_list [] (declarations ps) (ports_new [] (declarations ps) is)).apart)

-- and they lie within
row_within : (count first n : ℕ) (line : ℕ) (direction : Direction) → first + n ≤ count → Each (λ (port : Port). port.net.0 < count) (map (numbered_port line direction) (numbers_from first n))
row_within count first zero line direction fits = tt
row_within count first (suc n) line direction fits = (omega (arith, fits), row_within count (first + 1) n line direction (omega (arith, fits)))

directed_within : (es : Entries) (line : ℕ) (q : List ℕ) (ds : List Direction) → Each (λ (port : Port). port.net.0 < total es) (flat_map (λ (direction : Direction). port_bits line direction (place es q)) ds)
directed_within es line q [] = tt
directed_within es line q (direction ∷ ds) =
    each_append (λ (port : Port). port.net.0 < total es) (port_bits line direction (place es q)) (flat_map (λ (direction : Direction). port_bits line direction (place es q)) ds) (by (place es q) refl) (directed_within es line q ds)
  where
    by : (o : Option Entry) → place es q ≡ o → Each (λ (port : Port). port.net.0 < total es) (port_bits line direction o)
    by None is = tt
    by (Some e) is = row_within (total es) e.first (width_or_one e.bounds) line direction (within q es e is)

declared_within : (es : Entries) (line : ℕ) (ds : List Declaration) → Each (λ (port : Port). port.net.0 < total es) (flat_map (numbered_ports_of es line) ds)
declared_within es line [] = tt
declared_within es line (d ∷ ds) = each_append (λ (port : Port). port.net.0 < total es) (numbered_ports_of es line d) (flat_map (numbered_ports_of es line) ds) (directed_within es line d.name (directions_of d.kind)) (declared_within es line ds)

pub ports_within : (es : Entries) (ps : List Placed) → Each (λ (port : Port). port.net.0 < total es) (numbered_ports es ps)
ports_within es [] = tt
ports_within es (p ∷ ps) = each_append (λ (port : Port). port.net.0 < total es) (numbered_ports_in es p.line p.statement) (numbered_ports es ps) (declared_within es p.line (declarations_in p.statement)) (ports_within es ps)

-- instances
named_in : (es : Entries) (line : ℕ) (s : Statement) → map (λ (i : Instance). i.name) (numbered_instances_in es line s) ≡ instances_named s
named_in es line (statements.Module name ports) = refl
named_in es line (statements.Declare kind range names) = refl
named_in es line (statements.Assign left right) = refl
named_in es line (statements.Instance cell name connections) = refl

instances_named_all : (es : Entries) (ps : List Placed) → map (λ (i : Instance). i.name) (numbered_instances es ps) ≡ instance_names ps
instances_named_all es [] = refl
instances_named_all es (p ∷ ps) =
    map-append (λ (i : Instance). i.name) (numbered_instances_in es p.line p.statement) (numbered_instances es ps)
    ∙ ap (λ (ns : List (List ℕ)). ns ++ map (λ (i : Instance). i.name) (numbered_instances es ps)) (named_in es p.line p.statement)
    ∙ ap (λ (ns : List (List ℕ)). instances_named p.statement ++ ns) (instances_named_all es ps)

new_in : (before : List (List ℕ)) (s : Statement) → list_any (has before) (instances_named s) ≡ false → AreNew before (instances_named s)
new_in before (statements.Module name ports) is = tt
new_in before (statements.Declare kind range names) is = tt
new_in before (statements.Assign left right) is = tt
new_in before (statements.Instance cell name connections) is = ((or_parts (has before (unescaped name)) false is).0, tt)

names_push : (before : List Placed) (p : Placed) → instance_names (before ++ p ∷ []) ≡ instance_names before ++ instances_named p.statement
names_push before p =
    flat_map-append (λ (p : Placed). instances_named p.statement) before (p ∷ []) ∙ ap (λ (ns : List (List ℕ)). instance_names before ++ ns) (append-nil (instances_named p.statement))

new_names : (all before ps : List Placed) → Passes (bad_twice all) before ps → AreNew (instance_names before) (instance_names ps)
new_names all before [] passes = tt
new_names all before (p ∷ ps) passes =
    new_append (instance_names before) (instances_named p.statement) (instance_names ps) (new_in (instance_names before) p.statement (apart all before p passes.0).instances)
    (subst (λ (ns : List (List ℕ)). AreNew ns (instance_names ps)) (names_push before p) (new_names all (before ++ p ∷ []) ps passes.1))

pub instances_distinct : (es : Entries) (ps : List Placed) → Passes (bad_twice ps) [] ps → Distinct (map (λ (i : Instance). i.name) (numbered_instances es ps))
instances_distinct es ps passes = subst (λ (ns : List (List ℕ)). Distinct ns) (sym (instances_named_all es ps)) (new_list [] (instance_names ps) (new_names ps [] ps passes)).apart
