-- No scalar net has the name of a vector's bit.
use Rattle.std.proofs.Common.{◌≡◌, ℕ, Bool, true, false, cond, not, ◌||◌, List, [], ◌∷◌, ◌++◌, map, Option, Some, None, refl, sym, ap, subst, ◌∙◌}
use Rattle.std.specs.Option.{is_some, option_or}
use Rattle.std.specs.List.{list_any, filter}
use Rattle.std.specs.Str.{bytes_eq}
use Rattle.std.proofs.lemmas.Bool.{false≢true, or_parts, or_right, or_left}
use Rattle.std.proofs.lemmas.List.{append_assoc, append-nil}
use Rattle.std.proofs.lemmas.List.Concat.{flat_map-append}
use Rattle.std.proofs.lemmas.List.Folds.{list_any-append, find-append}
use Rattle.base_types.proofs.TruthValues.{bytes_are, bytes_turned}
use Rattle.verilog_syntax.specs.declared.statement.Declared.{Declared}
use Rattle.verilog_syntax.specs.declared.statement.Range.{Range}
use Rattle.verilog_syntax.specs.declared.statement.Statement.{Statement}
use Rattle.verilog_syntax.specs.declared.statement.Statement.TheVariants as statements
use Rattle.verilog_syntax.specs.declared.reading.Placed.{Placed}
use Rattle.verilog_names.specs.declared.bounds.Bounds.{Bounds}
use Rattle.verilog_names.specs.Declarations.{Declaration, declaration_of, declarations_in, declarations, is_named, first_of, is_declared, bounds_or_none, bounds_in, mentions_in, mentions, undeclared_in, has}
use Rattle.verilog_checks.specs.Checks.{has_bit_in, have_bits, bad_twice}
use Rattle.verilog_checks.specs.Faults.{is_vector, scalars_in, scalars}
use Rattle.verilog_names.specs.NameTables.{with_declared}
use Rattle.verilog_reader.specs.Numbering.{entries}
use Rattle.verilog_reader.proofs.Places.{named, named_all, declared_named, bounds_are}
use Rattle.verilog_reader.proofs.Checked.{Passes}
use Rattle.verilog_reader.proofs.PortNames.{IsApart, apart, declarations_push, find_any}
use Rattle.verilog_reader.proofs.NamesApart.{IsClearAll}

has_append : (xs ys : List (List ℕ)) (s : List ℕ) → has (xs ++ ys) s ≡ (has xs s || has ys s)
has_append xs ys s = list_any-append (λ (other : List ℕ). bytes_eq other s) xs ys

-- the names of the declarations without a range
abbrev scalar_names : List Declaration → List (List ℕ)
scalar_names ds = map (λ d. d.name) (filter (λ d. not (is_vector d)) ds)

declared_scalar : (s : List ℕ) (ds : List Declaration) → is_declared ds s ≡ true → bounds_in ds s ≡ None → has (scalar_names ds) s ≡ true
declared_scalar s [] is none = absurd (false≢true is)
declared_scalar s (d ∷ ds) is none = by (bytes_eq d.name s) (is_some d.bounds) refl refl is none (declared_scalar s ds)
  where
    bounds_none : (b : Option Bounds) → b ≡ None → is_some b ≡ false
    bounds_none b is = ap is_some is

    by : (t v : Bool) → bytes_eq d.name s ≡ t → is_some d.bounds ≡ v → (t || is_declared ds s) ≡ true → bounds_or_none (cond t (Some d) (first_of s ds)) ≡ None
        → (is_declared ds s ≡ true → bounds_in ds s ≡ None → has (scalar_names ds) s ≡ true)
        → has (map (λ (d : Declaration). d.name) (cond (not v) (d ∷ filter (λ d. not (is_vector d)) ds) (filter (λ d. not (is_vector d)) ds))) s ≡ true
    by true true here vector is none rest = absurd (false≢true (sym (bounds_none d.bounds none) ∙ vector))
    by true false here scalar is none rest = or_left (bytes_eq d.name s) (has (scalar_names ds) s) here
    by false true other vector is none rest = rest is none
    by false false other scalar is none rest = or_right (bytes_eq d.name s) (has (scalar_names ds) s) (rest is none)

undeclared_scalar : (all : List Declaration) (s : List ℕ) (names : List (List ℕ)) → is_declared all s ≡ false → has names s ≡ true → has (undeclared_in all names) s ≡ true
undeclared_scalar all s [] new is = absurd (false≢true is)
undeclared_scalar all s (name ∷ names) new is = by (bytes_eq name s) (is_declared all name) refl refl is (undeclared_scalar all s names new)
  where
    by : (t u : Bool) → bytes_eq name s ≡ t → is_declared all name ≡ u → (t || has names s) ≡ true → (has names s ≡ true → has (undeclared_in all names) s ≡ true)
        → has (cond (not u) (name ∷ undeclared_in all names) (undeclared_in all names)) s ≡ true
    by true true here there is rest = absurd (false≢true (sym new ∙ ap (is_declared all) (sym (bytes_are name s here)) ∙ there))
    by true false here there is rest = or_left (bytes_eq name s) (has (undeclared_in all names) s) here
    by false true other there is rest = rest is
    by false false other there is rest = or_right (bytes_eq name s) (has (undeclared_in all names) s) (rest is)

first_in : (v : List ℕ) (xs ys : List Declaration) (t : Bool) → is_declared xs v ≡ t → bounds_in (xs ++ ys) v ≡ cond t (bounds_in xs v) (bounds_in ys v)
first_in v xs ys t is = ap bounds_or_none (find-append (is_named v) xs ys) ∙ by (first_of v xs) t (find_any (is_named v) xs ∙ is)
  where
    by : (o : Option Declaration) (t : Bool) → is_some o ≡ t → bounds_or_none (option_or o (first_of v ys)) ≡ cond t (bounds_or_none o) (bounds_in ys v)
    by None true is = absurd (false≢true is)
    by None false is = refl
    by (Some d) true is = refl
    by (Some d) false is = absurd (false≢true (sym is))

scalar_in_row : (all : List Declaration) (s : List ℕ) (ps : List Placed) → is_declared (declarations ps) s ≡ true → bounds_in (declarations ps) s ≡ None → has (scalars all ps) s ≡ true
scalar_in_row all s [] is none = absurd (false≢true is)
scalar_in_row all s (p ∷ ps) is none =
    has_append (scalars_in all p.statement) (scalars all ps) s
    ∙ by (is_declared (declarations_in p.statement) s) refl (sym (list_any-append (is_named s) (declarations_in p.statement) (declarations ps)) ∙ is) (scalar_in_row all s ps)
  where
    by : (t : Bool) → is_declared (declarations_in p.statement) s ≡ t → (is_declared (declarations_in p.statement) s || is_declared (declarations ps) s) ≡ true
        → (is_declared (declarations ps) s ≡ true → bounds_in (declarations ps) s ≡ None → has (scalars all ps) s ≡ true)
        → (has (scalars_in all p.statement) s || has (scalars all ps) s) ≡ true
    by true here is rest =
        or_left (has (scalars_in all p.statement) s) (has (scalars all ps) s)
        (has_append (scalar_names (declarations_in p.statement)) (undeclared_in all (mentions_in p.statement)) s
        ∙ or_left (has (scalar_names (declarations_in p.statement)) s) (has (undeclared_in all (mentions_in p.statement)) s)
        (declared_scalar s (declarations_in p.statement) here (sym (first_in s (declarations_in p.statement) (declarations ps) true here) ∙ none)))
    by false other is rest =
        or_right (has (scalars_in all p.statement) s) (has (scalars all ps) s)
        (rest (ap (λ (t : Bool). t || is_declared (declarations ps) s) (sym other) ∙ is) (sym (first_in s (declarations_in p.statement) (declarations ps) false other) ∙ none))

mention_in_row : (all : List Declaration) (s : List ℕ) (ps : List Placed) → is_declared all s ≡ false → has (mentions ps) s ≡ true → has (scalars all ps) s ≡ true
mention_in_row all s [] new is = absurd (false≢true is)
mention_in_row all s (p ∷ ps) new is =
    has_append (scalars_in all p.statement) (scalars all ps) s
    ∙ by (has (mentions_in p.statement) s) refl (sym (has_append (mentions_in p.statement) (mentions ps) s) ∙ is) (mention_in_row all s ps new)
  where
    by : (t : Bool) → has (mentions_in p.statement) s ≡ t → (has (mentions_in p.statement) s || has (mentions ps) s) ≡ true → (has (mentions ps) s ≡ true → has (scalars all ps) s ≡ true)
        → (has (scalars_in all p.statement) s || has (scalars all ps) s) ≡ true
    by true here is rest =
        or_left (has (scalars_in all p.statement) s) (has (scalars all ps) s)
        (has_append (scalar_names (declarations_in p.statement)) (undeclared_in all (mentions_in p.statement)) s
        ∙ or_right (has (scalar_names (declarations_in p.statement)) s) (has (undeclared_in all (mentions_in p.statement)) s) (undeclared_scalar all s (mentions_in p.statement) new here))
    by false other is rest = or_right (has (scalars_in all p.statement) s) (has (scalars all ps) s) (rest (ap (λ (t : Bool). t || has (mentions ps) s) (sym other) ∙ is))

mentioned : (names : List (List ℕ)) (q : List ℕ) → named (map (λ (name : List ℕ). let e : List ℕ × Option Bounds = (name, None) in e) names) q ≡ has names q
mentioned [] q = refl
mentioned (name ∷ names) q =
    ap (λ (t : Bool). t || named (map (λ (name : List ℕ). let e : List ℕ × Option Bounds = (name, None) in e) names) q) (bytes_turned q name) ∙ ap (λ (t : Bool). bytes_eq name q || t) (mentioned names q)

-- each scalar net stands among the scalars of the statements
is_scalar : (ps : List Placed) (s : List ℕ) → named (entries ps) s ≡ true → bounds_in (declarations ps) s ≡ None → has (scalars (declarations ps) ps) s ≡ true
is_scalar ps s there none = by (is_declared (declarations ps) s) refl
  where
    ds : List Declaration
    ds = declarations ps

    which : (is_declared (declarations ps) s || has (mentions ps) s) ≡ true
    which =
        sym (named_all (with_declared [] (declarations ps)) (map (λ (name : List ℕ). let e : List ℕ × Option Bounds = (name, None) in e) (mentions ps)) s
        ∙ ap (λ (t : Bool). t || named (map (λ (name : List ℕ). let e : List ℕ × Option Bounds = (name, None) in e) (mentions ps)) s)
        (named_all [] (map (λ (d : Declaration). let e : List ℕ × Option Bounds = (d.name, d.bounds) in e) (declarations ps)) s ∙ declared_named (declarations ps) s)
        ∙ ap (λ (t : Bool). is_declared (declarations ps) s || t) (mentioned (mentions ps) s))
        ∙ there

    by : (t : Bool) → is_declared (declarations ps) s ≡ t → has (scalars (declarations ps) ps) s ≡ true
    by true declared = scalar_in_row (declarations ps) s ps declared none
    by false new = mention_in_row (declarations ps) s ps new (ap (λ (t : Bool). t || has (mentions ps) s) (sym new) ∙ which)

-- what holds of no member holds not of one by its name
none_named : (f : List ℕ → Bool) (v : List ℕ) (ds : List Declaration) → is_declared ds v ≡ true → list_any (λ d. f d.name) ds ≡ false → f v ≡ false
none_named f v [] is none = absurd (false≢true is)
none_named f v (d ∷ ds) is none = by (bytes_eq d.name v) refl is (none_named f v ds)
  where
    both : (f d.name ≡ false) × (list_any (λ (d : Declaration). f d.name) ds ≡ false)
    both = or_parts (f d.name) (list_any (λ (d : Declaration). f d.name) ds) none

    by : (t : Bool) → bytes_eq d.name v ≡ t → (t || is_declared ds v) ≡ true → (is_declared ds v ≡ true → list_any (λ d. f d.name) ds ≡ false → f v ≡ false) → f v ≡ false
    by true here is rest = ap f (sym (bytes_are d.name v here)) ∙ both.0
    by false other is rest = rest is both.1

none_has : (g : List ℕ → Bool) (s : List ℕ) (names : List (List ℕ)) → has names s ≡ true → list_any g names ≡ false → g s ≡ false
none_has g s [] is none = absurd (false≢true is)
none_has g s (name ∷ names) is none = by (bytes_eq name s) refl is (none_has g s names)
  where
    both : (g name ≡ false) × (list_any g names ≡ false)
    both = or_parts (g name) (list_any g names) none

    by : (t : Bool) → bytes_eq name s ≡ t → (t || has names s) ≡ true → (has names s ≡ true → list_any g names ≡ false → g s ≡ false) → g s ≡ false
    by true here is rest = ap g (sym (bytes_are name s here)) ∙ both.0
    by false other is rest = rest is both.1

first_vector : (v s : List ℕ) (names : List (List ℕ)) (ds : List Declaration) → has names s ≡ true → have_bits ds names ≡ false → has_bit_in v (bounds_in ds v) s ≡ false
first_vector v s names [] is none = refl
first_vector v s names (d ∷ ds) is none = by (bytes_eq d.name v) refl (first_vector v s names ds is)
  where
    both : (list_any (has_bit_in d.name d.bounds) names ≡ false) × (have_bits ds names ≡ false)
    both = or_parts (list_any (has_bit_in d.name d.bounds) names) (have_bits ds names) none

    by : (t : Bool) → bytes_eq d.name v ≡ t → (have_bits ds names ≡ false → has_bit_in v (bounds_in ds v) s ≡ false) → has_bit_in v (bounds_or_none (cond t (Some d) (first_of v ds))) s ≡ false
    by true here rest = ap (λ (n : List ℕ). has_bit_in n d.bounds s) (sym (bytes_are d.name v here)) ∙ none_has (has_bit_in d.name d.bounds) s names is both.0
    by false other rest = rest both.1

-- one statement declares scalars or vectors, and mentions nothing
no_vectors : (kind : Declared) (names : List (List ℕ)) (v : List ℕ) → bounds_in (map (declaration_of kind None) names) v ≡ None
no_vectors kind [] v = refl
no_vectors kind (name ∷ names) v = by (is_named v (declaration_of kind None name)) (no_vectors kind names v)
  where
    by : (t : Bool) → bounds_in (map (declaration_of kind None) names) v ≡ None → bounds_or_none (cond t (Some (declaration_of kind None name)) (first_of v (map (declaration_of kind None) names))) ≡ None
    by true rest = refl
    by false rest = rest

no_scalars : (kind : Declared) (range : Range) (names : List (List ℕ)) (s : List ℕ) → has (scalar_names (map (declaration_of kind (Some range)) names)) s ≡ false
no_scalars kind range [] s = refl
no_scalars kind range (name ∷ names) s = no_scalars kind range names s

within_one : (all : List Declaration) (v s : List ℕ) (statement : Statement) → has (scalars_in all statement) s ≡ true → has_bit_in v (bounds_in (declarations_in statement) v) s ≡ false
within_one all v s (statements.Module name ports) is = refl
within_one all v s (statements.Declare kind None names) is = ap (λ (b : Option Bounds). has_bit_in v b s) (no_vectors kind names v)
within_one all v s (statements.Declare kind (Some range) names) is =
    absurd (false≢true (sym (has_append (scalar_names (map (declaration_of kind (Some range)) names)) [] s ∙ ap (λ (t : Bool). t || false) (no_scalars kind range names s)) ∙ is))
within_one all v s (statements.Assign left right) is = refl
within_one all v s (statements.Instance cell name connections) is = refl

-- statement by statement
abbrev IsClearSo : List Declaration → List ℕ → List ℕ → List Placed → Type 0
IsClearSo all s v before = has (scalars all before) s ≡ true → has_bit_in v (bounds_in (declarations before) v) s ≡ false

scalars_push : (all : List Declaration) (before : List Placed) (p : Placed) (s : List ℕ) → has (scalars all (before ++ p ∷ [])) s ≡ (has (scalars all before) s || has (scalars_in all p.statement) s)
scalars_push all before p s =
    ap (λ (ns : List (List ℕ)). has ns s)
    (flat_map-append (λ (p : Placed). scalars_in all p.statement) before (p ∷ []) ∙ ap (λ (ns : List (List ℕ)). scalars all before ++ ns) (append-nil (scalars_in all p.statement)))
    ∙ has_append (scalars all before) (scalars_in all p.statement) s

one_more : (ps : List Placed) (s v : List ℕ) (before : List Placed) (p : Placed) → IsApart ps before p → IsClearSo (declarations ps) s v before → IsClearSo (declarations ps) s v (before ++ p ∷ [])
one_more ps s v before p far clear is =
    ap (λ (ds : List Declaration). has_bit_in v (bounds_in ds v) s) (declarations_push before p)
    ∙ by (is_declared (declarations before) v) (has (scalars (declarations ps) before) s) refl refl (sym (scalars_push (declarations ps) before p s) ∙ is)
  where
    here : (t : Bool) → is_declared (declarations before) v ≡ t
        → has_bit_in v (bounds_in (declarations before ++ declarations_in p.statement) v) s ≡ has_bit_in v (cond t (bounds_in (declarations before) v) (bounds_in (declarations_in p.statement) v)) s
    here t is = ap (λ (b : Option Bounds). has_bit_in v b s) (first_in v (declarations before) (declarations_in p.statement) t is)

    by : (t u : Bool) → is_declared (declarations before) v ≡ t → has (scalars (declarations ps) before) s ≡ u → (has (scalars (declarations ps) before) s || has (scalars_in (declarations ps) p.statement) s) ≡ true
        → has_bit_in v (bounds_in (declarations before ++ declarations_in p.statement) v) s ≡ false
    by true true declared scalar is = here true declared ∙ clear scalar
    by true false declared other is =
        let there : has (scalars_in (declarations ps) p.statement) s ≡ true = ap (λ (t : Bool). t || has (scalars_in (declarations ps) p.statement) s) (sym other) ∙ is in
        here true declared
        ∙ none_has (has_bit_in v (bounds_in (declarations before) v)) s (scalars_in (declarations ps) p.statement) there
        (none_named (λ (name : List ℕ). list_any (has_bit_in name (bounds_in (declarations before) name)) (scalars_in (declarations ps) p.statement)) v (declarations before) declared far.no_scalar)
    by false true new scalar is = here false new ∙ first_vector v s (scalars (declarations ps) before) (declarations_in p.statement) scalar far.no_vector
    by false false new other is =
        here false new ∙ within_one (declarations ps) v s p.statement (ap (λ (t : Bool). t || has (scalars_in (declarations ps) p.statement) s) (sym other) ∙ is)

all_clear : (ps : List Placed) (s v : List ℕ) (before rest : List Placed) → Passes (bad_twice ps) before rest → IsClearSo (declarations ps) s v before → IsClearSo (declarations ps) s v (before ++ rest)
all_clear ps s v before [] passes clear = subst (λ (ps' : List Placed). IsClearSo (declarations ps) s v ps') (sym (append-nil before)) clear
all_clear ps s v before (p ∷ rest) passes clear =
    subst (λ (ps' : List Placed). IsClearSo (declarations ps) s v ps') (append_assoc before (p ∷ []) rest)
    (all_clear ps s v (before ++ p ∷ []) rest passes.1 (one_more ps s v before p (apart ps before p passes.0) clear))

pub clear : (ps : List Placed) → Passes (bad_twice ps) [] ps → IsClearAll (entries ps)
clear ps passes s v there none =
    ap (λ (b : Option Bounds). has_bit_in v b s) (bounds_are ps v)
    ∙ all_clear ps s v [] ps passes (λ is. absurd (false≢true is)) (is_scalar ps s there (sym (bounds_are ps s) ∙ none))
