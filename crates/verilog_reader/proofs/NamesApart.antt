-- No two nets have one name.
use Rattle.std.proofs.Common.{◌≡◌, ℕ, ◌+◌, Bool, true, false, cond, ◌||◌, List, [], ◌∷◌, ◌++◌, map, Option, Some, None, refl, sym, ap, subst, ◌∙◌, arith}
use Rattle.std.specs.Option.{is_some, option_map}
use Rattle.std.specs.List.{flat_map, list_any, find}
use Rattle.std.specs.Str.{bytes_eq}
use Rattle.std.proofs.lemmas.Bool.{false≢true, or_parts, ltb-false}
use Rattle.std.proofs.lemmas.List.{map-append}
use Rattle.std.specs.List.{AllByRecursion as Each}
use Rattle.base_types.proofs.TruthValues.{bytes_are, bytes_same}
use Rattle.netlist_core.specs.declared.netlist.NetName.{NetName}
use Rattle.verilog_syntax.specs.declared.statement.Declared.{Declared}
use Rattle.verilog_syntax.specs.declared.statement.Range.{Range}
use Rattle.verilog_syntax.specs.declared.statement.Statement.{Statement}
use Rattle.verilog_syntax.specs.declared.statement.Statement.TheVariants as statements
use Rattle.verilog_syntax.specs.declared.reading.Placed.{Placed}
use Rattle.verilog_names.specs.declared.bounds.Bounds.{Bounds}
use Rattle.verilog_names.specs.Values.{decimal_value, is_big_index, bit_name}
use Rattle.verilog_names.specs.Declarations.{bounds_of, indexes, Declaration, declaration_of, declarations_in, declarations, is_named, bounds_or_none, bounds_in, mentions, width_or_one}
use Rattle.verilog_checks.specs.Checks.{has_bit_in}
use Rattle.verilog_checks.specs.Faults.{is_bad_range, range_in}
use Rattle.verilog_reader.specs.Denoted.{entry_nets, name_bits, bit_text}
use Rattle.verilog_names.specs.NameTables.{place_from, place, with_entry, with_entries}
use Rattle.verilog_reader.specs.Numbering.{bounds_or, entries}
use Rattle.verilog_reader.proofs.Filling.{Entries}
use Rattle.verilog_reader.proofs.Places.{named, placed, bounds_are}
use Rattle.verilog_reader.proofs.NetBits.{nets_of}
use Rattle.verilog_reader.proofs.Checked.{IsSound}
use Rattle.verilog_reader.proofs.PortNames.{apart}
use Rattle.verilog_reader.proofs.Distinct.{IsApartFrom, Distinct, distinct_append, distinct_push, each_append, each_map, each_weaker, each_both, each_any}
use Rattle.verilog_reader.proofs.BitNaming.{IsSmall, IsIndex, bits_apart, same_bit, small_index, indexes_within}

-- each name has one entry
without : (es : Entries) (n : List ℕ) → named es n ≡ false → Each (λ e. e.0 ≡ n → ⊥) es
without [] n is = tt
without (e ∷ es) n is =
    let both = or_parts (bytes_eq n e.0) (named es n) is in
    ((λ same. false≢true (sym both.0 ∙ bytes_same n e.0 (sym same))), without es n both.1)

abbrev entry_names : Entries → List (List ℕ)
entry_names es = map (λ e. e.0) es

one_more : (es : Entries) (n : List ℕ) (b : Option Bounds) → Distinct (entry_names es) → Distinct (entry_names (with_entry es n b))
one_more es n b apart = by (is_some (place es n)) (placed es n)
  where
    by : (t : Bool) → t ≡ named es n → Distinct (map (λ (e : List ℕ × Option Bounds). e.0) (cond t es (es ++ (n, b) ∷ [])))
    by true is = apart
    by false is =
        subst (λ (ns : List (List ℕ)). Distinct ns) (sym (map-append (λ (e : List ℕ × Option Bounds). e.0) es ((n, b) ∷ [])))
        (distinct_push (map (λ (e : List ℕ × Option Bounds). e.0) es) n apart
        (each_map (λ (m : List ℕ). m ≡ n → ⊥) (λ (e : List ℕ × Option Bounds). e.0) es (without es n (sym is))))

all_more : (es xs : Entries) → Distinct (entry_names es) → Distinct (entry_names (with_entries es xs))
all_more es [] apart = apart
all_more es (x ∷ xs) apart = all_more (with_entry es x.0 x.1) xs (one_more es x.0 x.1 apart)

entries_apart : (ps : List Placed) → Distinct (entry_names (entries ps))
entries_apart ps =
    all_more (with_entries [] (map (λ (d : Declaration). let e : List ℕ × Option Bounds = (d.name, d.bounds) in e) (declarations ps)))
    (map (λ (name : List ℕ). let e : List ℕ × Option Bounds = (name, None) in e) (mentions ps))
    (all_more [] (map (λ (d : Declaration). let e : List ℕ × Option Bounds = (d.name, d.bounds) in e) (declarations ps)) tt)

-- an entry's place is found by its name
record IsEntry (all : Entries) (e : List ℕ × Option Bounds) : Type 0 where
  there : named all e.0 ≡ true
  bounds : bounds_or (place all e.0) ≡ e.1

bounds_shift : (q : List ℕ) (a b : ℕ) (es : Entries) → bounds_or (place_from a es q) ≡ bounds_or (place_from b es q)
bounds_shift q a b [] = refl
bounds_shift q a b (e ∷ es) = by (bytes_eq q e.0) (bounds_shift q (a + width_or_one e.1) (b + width_or_one e.1) es)
  where
    by : (t : Bool) → bounds_or (place_from (a + width_or_one e.1) es q) ≡ bounds_or (place_from (b + width_or_one e.1) es q)
        → bounds_or (cond t (Some (record { first = a; bounds = e.1 })) (place_from (a + width_or_one e.1) es q)) ≡ bounds_or (cond t (Some (record { first = b; bounds = e.1 })) (place_from (b + width_or_one e.1) es q))
    by true same = refl
    by false same = same

head_entry : (x : List ℕ × Option Bounds) (es : Entries) → IsEntry (x ∷ es) x
head_entry x es = record {
  there = ap (λ (t : Bool). t || named es x.0) (bytes_same x.0 x.0 refl);
  bounds = ap (λ (t : Bool). bounds_or (cond t (Some (record { first = 0; bounds = x.1 })) (place_from (0 + width_or_one x.1) es x.0))) (bytes_same x.0 x.0 refl);
}

other_entry : (x e : List ℕ × Option Bounds) (es : Entries) → (x.0 ≡ e.0 → ⊥) → IsEntry es e → IsEntry (x ∷ es) e
other_entry x e es ne is = by (bytes_eq e.0 x.0) refl
  where
    by : (t : Bool) → bytes_eq e.0 x.0 ≡ t → IsEntry (x ∷ es) e
    by true same = absurd (ne (sym (bytes_are e.0 x.0 same)))
    by false other = record {
      there = ap (λ (t : Bool). t || named es e.0) other ∙ is.there;
      bounds = ap (λ (t : Bool). bounds_or (cond t (Some (record { first = 0; bounds = x.1 })) (place_from (0 + width_or_one x.1) es e.0))) other ∙ bounds_shift e.0 (0 + width_or_one x.1) 0 es ∙ is.bounds;
    }

unmapped : (n : List ℕ) (es : Entries) → IsApartFrom n (entry_names es) → Each (λ e. n ≡ e.0 → ⊥) es
unmapped n [] apart = tt
unmapped n (e ∷ es) apart = (apart.0, unmapped n es apart.1)

each_entry : (es : Entries) → Distinct (entry_names es) → Each (IsEntry es) es
each_entry [] apart = tt
each_entry (x ∷ es) apart = (
  head_entry x es,
  each_both (λ (e : List ℕ × Option Bounds). x.0 ≡ e.0 → ⊥) (IsEntry es) (IsEntry (x ∷ es)) es (λ e ne is. other_entry x e es ne is) (unmapped x.0 es apart.0) (each_entry es apart.1),
)

-- bounds that are no fault
abbrev pub IsSmallOption : Option Bounds → Type 0
IsSmallOption None = Unit {0}
IsSmallOption (Some b) = IsSmall b

small_range : (range : Option Range) → is_bad_range range ≡ false → IsSmallOption (option_map bounds_of range)
small_range None is = tt
small_range (Some range) is =
    let both = or_parts (is_big_index range.left) (is_big_index range.right) is in
    (ltb-false 65535 (decimal_value range.left) both.0, ltb-false 65535 (decimal_value range.right) both.1)

small_names : (kind : Declared) (range : Option Range) (names : List (List ℕ)) → is_bad_range range ≡ false → Each (λ d. IsSmallOption d.bounds) (map (declaration_of kind range) names)
small_names kind range [] is = tt
small_names kind range (name ∷ names) is = (small_range range is, small_names kind range names is)

small_in : (s : Statement) → is_bad_range (range_in s) ≡ false → Each (λ d. IsSmallOption d.bounds) (declarations_in s)
small_in (statements.Module name ports) is = tt
small_in (statements.Declare kind range names) is = small_names kind range names is
small_in (statements.Assign left right) is = tt
small_in (statements.Instance cell name connections) is = tt

small_all : (all ps : List Placed) → Each (λ p. IsSound all p.statement) ps → Each (λ d. IsSmallOption d.bounds) (declarations ps)
small_all all [] sounds = tt
small_all all (p ∷ ps) sounds = each_append (λ (d : Declaration). IsSmallOption d.bounds) (declarations_in p.statement) (declarations ps) (small_in p.statement sounds.0.range) (small_all all ps sounds.1)

small_bounds : (ds : List Declaration) (q : List ℕ) → Each (λ d. IsSmallOption d.bounds) ds → IsSmallOption (bounds_in ds q)
small_bounds [] q small = tt
small_bounds (d ∷ ds) q small = by (is_named q d) (small_bounds ds q small.1)
  where
    by : (t : Bool) → IsSmallOption (bounds_or_none (find (is_named q) ds)) → IsSmallOption (bounds_or_none (cond t (Some d) (find (is_named q) ds)))
    by true rest = small.0
    by false rest = rest

-- two entries whose names differ have no bit in common
abbrev IsClear : (List ℕ × Option Bounds) → (List ℕ × Option Bounds) → Type 0
IsClear s v = s.1 ≡ None → has_bit_in v.0 v.1 s.0 ≡ false

not_among : (v s : List ℕ) (is : List ℕ) → list_any (λ i. bytes_eq (bit_name v i) s) is ≡ false → Each (λ i. bit_name v i ≡ s → ⊥) is
not_among v s [] no_bit = tt
not_among v s (i ∷ is) no_bit =
    let both = or_parts (bytes_eq (bit_name v i) s) (list_any (λ i. bytes_eq (bit_name v i) s) is) no_bit in
    ((λ same. false≢true (sym both.0 ∙ bytes_same (bit_name v i) s same)), not_among v s is both.1)

scalar_vector : (s v : List ℕ) (b : Bounds) → has_bit_in v (Some b) s ≡ false → IsApartFrom s (map (bit_name v) (indexes b))
scalar_vector s v b clear = each_map (λ (n : List ℕ). s ≡ n → ⊥) (bit_name v) (indexes b) (each_weaker (λ (i : ℕ). bit_name v i ≡ s → ⊥) (λ (i : ℕ). s ≡ bit_name v i → ⊥) (indexes b) (λ i h same. h (sym same)) (not_among v s (indexes b) clear))

vector_scalar : (v s : List ℕ) (b : Bounds) → has_bit_in v (Some b) s ≡ false → Each (λ n. IsApartFrom n (s ∷ [])) (map (bit_name v) (indexes b))
vector_scalar v s b clear = each_map (λ (n : List ℕ). IsApartFrom n (s ∷ [])) (bit_name v) (indexes b) (each_weaker (λ (i : ℕ). bit_name v i ≡ s → ⊥) (λ (i : ℕ). IsApartFrom (bit_name v i) (s ∷ [])) (indexes b) (λ i h. (h, tt)) (not_among v s (indexes b) clear))

vectors_apart : (v w : List ℕ) (b c : Bounds) → (v ≡ w → ⊥) → IsSmall b → IsSmall c → Each (λ n. IsApartFrom n (map (bit_name w) (indexes c))) (map (bit_name v) (indexes b))
vectors_apart v w b c ne small_b small_c =
    each_map (λ (n : List ℕ). IsApartFrom n (map (bit_name w) (indexes c))) (bit_name v) (indexes b)
    (each_weaker (IsIndex b) (λ (i : ℕ). IsApartFrom (bit_name v i) (map (bit_name w) (indexes c))) (indexes b)
    (λ i within_b.
    each_map (λ (n : List ℕ). bit_name v i ≡ n → ⊥) (bit_name w) (indexes c)
    (each_weaker (IsIndex c) (λ (j : ℕ). bit_name v i ≡ bit_name w j → ⊥) (indexes c)
    (λ j within_c same. ne (same_bit v w i j (small_index b i small_b within_b) (small_index c j small_c within_c) same).vector) (indexes_within c 0 _ (omega arith))))
    (indexes_within b 0 _ (omega arith)))

names_clear : (v w : List ℕ) (b c : Option Bounds) → (v ≡ w → ⊥) → IsSmallOption b → IsSmallOption c → IsClear (v, b) (w, c) → IsClear (w, c) (v, b) → Each (λ n. IsApartFrom n (name_bits w c)) (name_bits v b)
names_clear v w None None ne small_b small_c one two = ((ne, tt), tt)
names_clear v w None (Some c) ne small_b small_c one two = (scalar_vector v w c (one refl), tt)
names_clear v w (Some b) None ne small_b small_c one two = vector_scalar v w b (two refl)
names_clear v w (Some b) (Some c) ne small_b small_c one two = vectors_apart v w b c ne small_b small_c

-- facts of an entry: where it is found, that it is small, and that nothing clashes with it
record IsSafe (all : Entries) (e : List ℕ × Option Bounds) : Type 0 where
  entry : IsEntry all e
  small : IsSmallOption e.1

abbrev pub IsClearAll : Entries → Type 0
IsClearAll all = (s v : List ℕ) → named all s ≡ true → bounds_or (place all s) ≡ None → has_bit_in v (bounds_or (place all v)) s ≡ false

clear_of : (all : Entries) (x e : List ℕ × Option Bounds) → IsClearAll all → IsSafe all x → IsSafe all e → IsClear x e
clear_of all x e clear safe_x safe_e none =
    sym (ap (λ (b : Option Bounds). has_bit_in e.0 b x.0) safe_e.entry.bounds) ∙ clear x.0 e.0 safe_x.entry.there (safe_x.entry.bounds ∙ none)

name_apart : (all : Entries) (x : List ℕ × Option Bounds) → IsClearAll all → IsSafe all x → Distinct (name_bits x.0 x.1)
name_apart all x clear safe = by x.1 safe.small
  where
    by : (b : Option Bounds) → IsSmallOption b → Distinct (name_bits x.0 b)
    by None small = (tt, tt)
    by (Some b) small = bits_apart x.0 b small

rest_apart : (all : Entries) (x : List ℕ × Option Bounds) (es : Entries) → IsClearAll all → IsSafe all x → Each (IsSafe all) es → IsApartFrom x.0 (entry_names es)
    → Each (λ n. IsApartFrom n (flat_map (λ (e : List ℕ × Option Bounds). name_bits e.0 e.1) es)) (name_bits x.0 x.1)
rest_apart all x [] clear safe others apart = each_any (λ (n : List ℕ). IsApartFrom n []) (name_bits x.0 x.1) (λ n. tt)
rest_apart all x (e ∷ es) clear safe others apart =
    join (name_bits x.0 x.1)
    (names_clear x.0 e.0 x.1 e.1 apart.0 safe.small others.0.small (clear_of all x e clear safe others.0) (clear_of all e x clear others.0 safe))
    (rest_apart all x es clear safe others.1 apart.1)
  where
    rest : List (List ℕ)
    rest = flat_map (λ (e : List ℕ × Option Bounds). name_bits e.0 e.1) es

    join : (ns : List (List ℕ)) → Each (λ n. IsApartFrom n (name_bits e.0 e.1)) ns → Each (λ n. IsApartFrom n (flat_map (λ (e : List ℕ × Option Bounds). name_bits e.0 e.1) es)) ns
        → Each (λ n. IsApartFrom n (name_bits e.0 e.1 ++ flat_map (λ (e : List ℕ × Option Bounds). name_bits e.0 e.1) es)) ns
    join [] a b = tt
    join (n ∷ ns) a b = (each_append (λ (m : List ℕ). n ≡ m → ⊥) (name_bits e.0 e.1) (flat_map (λ (e : List ℕ × Option Bounds). name_bits e.0 e.1) es) a.0 b.0, join ns a.1 b.1)

all_apart : (all es : Entries) → IsClearAll all → Each (IsSafe all) es → Distinct (entry_names es) → Distinct (flat_map (λ (e : List ℕ × Option Bounds). name_bits e.0 e.1) es)
all_apart all [] clear safe apart = tt
all_apart all (x ∷ es) clear safe apart =
    distinct_append (name_bits x.0 x.1) (flat_map (λ (e : List ℕ × Option Bounds). name_bits e.0 e.1) es) (name_apart all x clear safe.0) (all_apart all es clear safe.1 apart.1)
    (rest_apart all x es clear safe.0 safe.1 apart.0)

map_plain : (name : List ℕ) (b : Bounds) (is : List ℕ) → map (λ (n : NetName). n.plain) (map (λ (i : ℕ). let n : NetName = record { plain = bit_name name i; text = bit_text name i } in n) is) ≡ map (bit_name name) is
map_plain name b [] = refl
map_plain name b (i ∷ is) = ap (λ (ns : List (List ℕ)). bit_name name i ∷ ns) (map_plain name b is)

plain_bits : (name : List ℕ) (b : Option Bounds) → map (λ (n : NetName). n.plain) (entry_nets name b) ≡ name_bits name b
plain_bits name None = refl
plain_bits name (Some b) = map_plain name b (indexes b)

plain_names : (es : Entries) → map (λ (n : NetName). n.plain) (nets_of es) ≡ flat_map (λ (e : List ℕ × Option Bounds). name_bits e.0 e.1) es
plain_names [] = refl
plain_names (e ∷ es) =
    map-append (λ (n : NetName). n.plain) (entry_nets e.0 e.1) (nets_of es)
    ∙ ap (λ (ns : List (List ℕ)). ns ++ map (λ (n : NetName). n.plain) (nets_of es)) (plain_bits e.0 e.1) ∙ ap (λ (ns : List (List ℕ)). name_bits e.0 e.1 ++ ns) (plain_names es)

pub nets_apart : (ps : List Placed) → Each (λ p. IsSound ps p.statement) ps → IsClearAll (entries ps) → Distinct (map (λ (n : NetName). n.plain) (nets_of (entries ps)))
nets_apart ps sounds clear =
    let es = entries ps in
    let apart = entries_apart ps in
    let small = small_all ps ps sounds in
    subst (λ (ns : List (List ℕ)). Distinct ns) (sym (plain_names es))
    (all_apart es es clear
    (each_weaker (IsEntry es) (IsSafe es) es
    (λ e is. record { entry = is; small = subst IsSmallOption (sym (bounds_are ps e.0) ∙ is.bounds) (small_bounds (declarations ps) e.0 small) }) (each_entry es apart)) apart)
