-- The entries of a module: which names have one, with which bounds, and in which order.
use Rattle.std.proofs.Common.{◌≡◌, ℕ, ◌+◌, Bool, true, false, cond, not, ◌||◌, List, [], ◌∷◌, ◌++◌, map, Option, Some, None, refl, sym, ap, ◌∙◌}
use Rattle.std.specs.Option.{is_some}
use Rattle.std.specs.List.{list_any}
use Rattle.std.specs.Str.{bytes_eq}
use Rattle.std.proofs.lemmas.Bool.{false≢true}
use Rattle.std.proofs.lemmas.List.{append-nil, append_assoc}
use Rattle.std.proofs.lemmas.List.Folds.{list_any-append}
use Rattle.base_types.proofs.TruthValues.{bytes_are, bytes_turned, or_implied, or_assoc}
use Rattle.verilog_syntax.specs.declared.reading.Placed.{Placed}
use Rattle.verilog_names.specs.declared.bounds.Bounds.{Bounds}
use Rattle.verilog_names.specs.declared.entry.Entry.{Entry}
use Rattle.verilog_names.specs.Declarations.{Declaration, declarations, is_named, first_of, is_declared, bounds_or_none, bounds_in, has, mentions, undeclared_in, width_or_one}
use Rattle.verilog_reader.specs.Denoted.{first_declared, first_mentioned, net_entries}
use Rattle.verilog_names.specs.NameTables.{place_from, place, with_entry, with_entries, with_declared}
use Rattle.verilog_reader.specs.Numbering.{bounds_or, with_mentioned, entries}
use Rattle.verilog_reader.proofs.Filling.{Entries}

-- a name has an entry
abbrev pub named : Entries → List ℕ → Bool
named es q = list_any (λ e. bytes_eq q e.0) es

some_cond : (t : Bool) (x : Entry) (o : Option Entry) (r : Bool) → is_some o ≡ r → is_some (cond t (Some x) o) ≡ (t || r)
some_cond true x o r is = refl
some_cond false x o r is = is

has_place : (q : List ℕ) (at : ℕ) (es : Entries) → is_some (place_from at es q) ≡ named es q
has_place q at [] = refl
has_place q at (e ∷ es) =
    some_cond (bytes_eq q e.0) (record { first = at; bounds = e.1 }) (place_from (at + width_or_one e.1) es q) (named es q) (has_place q (at + width_or_one e.1) es)

pub placed : (es : Entries) (q : List ℕ) → is_some (place es q) ≡ named es q
placed es q = has_place q 0 es

pub no_place : (es : Entries) (q : List ℕ) → named es q ≡ false → bounds_or (place es q) ≡ None
no_place es q is = by (place es q) (placed es q ∙ is)
  where
    by : (o : Option Entry) → is_some o ≡ false → bounds_or o ≡ None
    by None is = refl
    by (Some e) is = absurd (false≢true (sym is))

same_named : (es : Entries) (q n : List ℕ) → q ≡ n → named es n ≡ true → named es q ≡ true
same_named es q n same is = ap (named es) same ∙ is

-- with one entry more
or_last : (a b : Bool) → (a || (b || false)) ≡ (a || b)
or_last true b = refl
or_last false true = refl
or_last false false = refl

pub named_more : (es : Entries) (n : List ℕ) (b : Option Bounds) (q : List ℕ) → named (with_entry es n b) q ≡ (named es q || bytes_eq q n)
named_more es n b q = by (is_some (place es n)) (placed es n)
  where
    by : (t : Bool) → t ≡ named es n → named (cond t es (es ++ (n, b) ∷ [])) q ≡ (named es q || bytes_eq q n)
    by true is = or_implied (named es q) (bytes_eq q n) (λ same. same_named es q n (bytes_are q n same) (sym is))
    by false is = list_any-append (λ (e : List ℕ × Option Bounds). bytes_eq q e.0) es ((n, b) ∷ []) ∙ or_last (named es q) (bytes_eq q n)

pub named_all : (es xs : Entries) (q : List ℕ) → named (with_entries es xs) q ≡ (named es q || named xs q)
named_all es [] q = or_false (named es q)
  where
    or_false : (a : Bool) → a ≡ (a || false)
    or_false true = refl
    or_false false = refl
named_all es (x ∷ xs) q =
    named_all (with_entry es x.0 x.1) xs q ∙ ap (λ (t : Bool). t || named xs q) (named_more es x.0 x.1 q) ∙ or_assoc (named es q) (bytes_eq q x.0) (named xs q)

-- the bounds of a name's entry are those of its first declaration
push_bounds : (at : ℕ) (es : Entries) (n : List ℕ) (b : Option Bounds) (q : List ℕ)
    → bounds_or (place_from at (es ++ (n, b) ∷ []) q) ≡ cond (named es q) (bounds_or (place_from at es q)) (cond (bytes_eq q n) b None)
push_bounds at [] n b q = last (bytes_eq q n)
  where
    last : (t : Bool) → bounds_or (cond t (Some (record { first = at; bounds = b })) None) ≡ cond t b None
    last true = refl
    last false = refl
push_bounds at (e ∷ es) n b q =
    by (bytes_eq q e.0) (place_from (at + width_or_one e.1) (es ++ (n, b) ∷ []) q) (place_from (at + width_or_one e.1) es q) (named es q) (cond (bytes_eq q n) b None) (push_bounds (at + width_or_one e.1) es n b q)
  where
    by : (t : Bool) (here rest : Option Entry) (later : Bool) (other : Option Bounds) → bounds_or here ≡ cond later (bounds_or rest) other
        → bounds_or (cond t (Some (record { first = at; bounds = e.1 })) here) ≡ cond (t || later) (bounds_or (cond t (Some (record { first = at; bounds = e.1 })) rest)) other
    by true here rest later other is = refl
    by false here rest later other is = is

more_bounds : (es : Entries) (n : List ℕ) (b : Option Bounds) (q : List ℕ)
    → bounds_or (place (with_entry es n b) q) ≡ cond (named es q) (bounds_or (place es q)) (cond (bytes_eq q n) b None)
more_bounds es n b q = by (is_some (place es n)) (placed es n)
  where
    there : (t s : Bool) → named es q ≡ t → (s ≡ true → t ≡ true) → bounds_or (place es q) ≡ cond t (bounds_or (place es q)) (cond s b None)
    there true s is h = refl
    there false true is h = absurd (false≢true (h refl))
    there false false is h = no_place es q is

    by : (t : Bool) → t ≡ named es n → bounds_or (place (cond t es (es ++ (n, b) ∷ [])) q) ≡ cond (named es q) (bounds_or (place es q)) (cond (bytes_eq q n) b None)
    by true is = there (named es q) (bytes_eq q n) refl (λ same. same_named es q n (bytes_are q n same) (sym is))
    by false is = push_bounds 0 es n b q

declared_bounds : (es : Entries) (ds : List Declaration) (q : List ℕ) → bounds_or (place (with_declared es ds) q) ≡ cond (named es q) (bounds_or (place es q)) (bounds_in ds q)
declared_bounds es [] q = by (named es q) refl
  where
    by : (t : Bool) → named es q ≡ t → bounds_or (place es q) ≡ cond t (bounds_or (place es q)) None
    by true is = refl
    by false is = no_place es q is
declared_bounds es (d ∷ ds) q =
    declared_bounds (with_entry es d.name d.bounds) ds q
    ∙ ap (λ (t : Bool). cond t (bounds_or (place (with_entry es d.name d.bounds) q)) (bounds_in ds q)) (named_more es d.name d.bounds q)
    ∙ ap (λ (b : Option Bounds). cond (named es q || bytes_eq q d.name) b (bounds_in ds q)) (more_bounds es d.name d.bounds q)
    ∙ by (named es q) (bytes_eq q d.name) (bytes_eq d.name q) (bytes_turned q d.name)
  where
    by : (t s r : Bool) → s ≡ r
        → cond (t || s) (cond t (bounds_or (place es q)) (cond s d.bounds None)) (bounds_in ds q) ≡ cond t (bounds_or (place es q)) (bounds_or_none (cond r (Some d) (first_of q ds)))
    by true s r is = refl
    by false true r is = ap (λ (r : Bool). bounds_or_none (cond r (Some d) (first_of q ds))) is
    by false false r is = ap (λ (r : Bool). bounds_or_none (cond r (Some d) (first_of q ds))) is

mentioned_bounds : (es : Entries) (names : List (List ℕ)) (q : List ℕ) → bounds_or (place (with_mentioned es names) q) ≡ bounds_or (place es q)
mentioned_bounds es [] q = refl
mentioned_bounds es (name ∷ names) q =
    mentioned_bounds (with_entry es name None) names q ∙ more_bounds es name None q ∙ by (named es q) (bytes_eq q name) refl
  where
    by : (t s : Bool) → named es q ≡ t → cond t (bounds_or (place es q)) (cond s None None) ≡ bounds_or (place es q)
    by true s is = refl
    by false true is = sym (no_place es q is)
    by false false is = sym (no_place es q is)

pub bounds_are : (ps : List Placed) (q : List ℕ) → bounds_or (place (entries ps) q) ≡ bounds_in (declarations ps) q
bounds_are ps q = mentioned_bounds (with_declared [] (declarations ps)) (mentions ps) q ∙ declared_bounds [] (declarations ps) q

-- the entries are the first declarations and mentions
pub declared_first : (es : Entries) (before ds : List Declaration) → ((q : List ℕ) → named es q ≡ is_declared before q) → with_declared es ds ≡ es ++ first_declared before ds
unfolding first_declared
declared_first es before [] same = sym (append-nil es)
declared_first es before (d ∷ ds) same =
    declared_first (with_entry es d.name d.bounds) (before ++ d ∷ []) ds
    (λ q. named_more es d.name d.bounds q ∙ ap (λ (t : Bool). t || bytes_eq q d.name) (same q) ∙ ap (λ (t : Bool). is_declared before q || t) (bytes_turned q d.name)
    ∙ sym (list_any-append (is_named q) before (d ∷ []) ∙ or_last (is_declared before q) (bytes_eq d.name q)))
    ∙ by (is_some (place es d.name)) (is_declared before d.name) (placed es d.name ∙ same d.name)
  where
    by : (t s : Bool) → t ≡ s → cond t es (es ++ (d.name, d.bounds) ∷ []) ++ first_declared (before ++ d ∷ []) ds
        ≡ es ++ cond s (first_declared (before ++ d ∷ []) ds) ((d.name, d.bounds) ∷ first_declared (before ++ d ∷ []) ds)
    by t true is = ap (λ (t : Bool). cond t es (es ++ (d.name, d.bounds) ∷ []) ++ first_declared (before ++ d ∷ []) ds) is
    by t false is =
        ap (λ (t : Bool). cond t es (es ++ (d.name, d.bounds) ∷ []) ++ first_declared (before ++ d ∷ []) ds) is ∙ append_assoc es ((d.name, d.bounds) ∷ []) (first_declared (before ++ d ∷ []) ds)

mentioned_first : (es : Entries) (ds : List Declaration) (before names : List (List ℕ)) → ((q : List ℕ) → named es q ≡ (is_declared ds q || has before q))
    → with_mentioned es names ≡ es ++ first_mentioned before (undeclared_in ds names)
unfolding first_mentioned
mentioned_first es ds before [] same = sym (append-nil es)
mentioned_first es ds before (name ∷ names) same =
    by (is_declared ds name) refl (mentioned_first es ds before names same)
    (mentioned_first (with_entry es name None) ds (before ++ name ∷ []) names
    (λ q. named_more es name None q ∙ ap (λ (t : Bool). t || bytes_eq q name) (same q) ∙ or_assoc (is_declared ds q) (has before q) (bytes_eq q name)
    ∙ ap (λ (t : Bool). is_declared ds q || (has before q || t)) (bytes_turned q name)
    ∙ ap (λ (t : Bool). is_declared ds q || t) (sym (list_any-append (λ (other : List ℕ). bytes_eq other q) before (name ∷ []) ∙ or_last (has before q) (bytes_eq name q)))))
  where
    rest : List (List ℕ) → Entries
    rest before = first_mentioned before (undeclared_in ds names)

    e : List ℕ × Option Bounds
    e = (name, None)

    known : is_declared ds name ≡ true → with_entry es name None ≡ es
    known is = ap (λ (t : Bool). cond t es (es ++ e ∷ [])) (placed es name ∙ same name ∙ ap (λ (t : Bool). t || has before name) is)

    joins : (t s : Bool) → t ≡ s → cond t es (es ++ e ∷ []) ++ rest (before ++ name ∷ []) ≡ es ++ cond s (rest (before ++ name ∷ [])) (e ∷ rest (before ++ name ∷ []))
    joins t true is = ap (λ (t : Bool). cond t es (es ++ e ∷ []) ++ rest (before ++ name ∷ [])) is
    joins t false is = ap (λ (t : Bool). cond t es (es ++ e ∷ []) ++ rest (before ++ name ∷ [])) is ∙ append_assoc es (e ∷ []) (rest (before ++ name ∷ []))

    by : (t : Bool) → is_declared ds name ≡ t → with_mentioned es names ≡ es ++ rest before
        → with_mentioned (with_entry es name None) names ≡ with_entry es name None ++ rest (before ++ name ∷ [])
        → with_mentioned (with_entry es name None) names ≡ es ++ first_mentioned before (cond (not t) (name ∷ undeclared_in ds names) (undeclared_in ds names))
    by true is skips takes = ap (λ (es : Entries). with_mentioned es names) (known is) ∙ skips
    by false is skips takes = takes ∙ joins (is_some (place es name)) (has before name) (placed es name ∙ same name ∙ ap (λ (t : Bool). t || has before name) is)

pub declared_named : (ds : List Declaration) (q : List ℕ) → named (map (λ (d : Declaration). let e : List ℕ × Option Bounds = (d.name, d.bounds) in e) ds) q ≡ is_declared ds q
declared_named [] q = refl
declared_named (d ∷ ds) q =
    ap (λ (t : Bool). t || named (map (λ (d : Declaration). let e : List ℕ × Option Bounds = (d.name, d.bounds) in e) ds) q) (bytes_turned q d.name)
    ∙ ap (λ (t : Bool). bytes_eq d.name q || t) (declared_named ds q)

pub entries_are : (ps : List Placed) → entries ps ≡ net_entries ps
entries_are ps =
    let ds = declarations ps in
    mentioned_first (with_declared [] ds) ds [] (mentions ps)
    (λ q. named_all [] (map (λ (d : Declaration). let e : List ℕ × Option Bounds = (d.name, d.bounds) in e) ds) q ∙ declared_named ds q ∙ or_nil (is_declared ds q))
    ∙ ap (λ (es : Entries). es ++ first_mentioned [] (undeclared_in ds (mentions ps))) (declared_first [] [] ds (λ q. refl))
  where
    or_nil : (t : Bool) → t ≡ (t || false)
    or_nil true = refl
    or_nil false = refl
