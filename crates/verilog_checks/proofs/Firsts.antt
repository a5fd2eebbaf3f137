-- The first declarations of names, as a table keeps them.
use Rattle.std.proofs.Common.{◌≡◌, ℕ, ◌+◌, ◌<◌, Bool, true, false, cond, ◌||◌, List, [], ◌∷◌, ◌++◌, length, get_or, take, Option, Some, None, option_map, is_some, refl, sym, ap, ◌∙◌}
use Rattle.std.specs.Option.{option_or}
use Rattle.std.specs.Str.{bytes_eq}
use Rattle.std.proofs.lemmas.List.{take_more, append-nil}
use Rattle.std.proofs.lemmas.List.Concat.{flat_map-append}
use Rattle.std.proofs.lemmas.Slice.Eq.{bytes_eq-Decides}
use Rattle.base_types.proofs.TruthValues.{bytes_turned}
use Rattle.verilog_syntax.specs.declared.reading.Placed.{Placed}
use Rattle.verilog_names.specs.declared.declared.First.{First}
use Rattle.verilog_names.specs.Declarations.{Declaration, is_named, first_of, bounds_or_none, bounds_in, is_declared, declarations_in, declarations}
use Rattle.verilog_names.specs.NameTables.{kept_of, first_kept, first_in, with_first, with_firsts, kept_bounds}
use Rattle.verilog_checks.specs.Seen.{Keeps}

or_none : {X : Type 0} (o : Option X) → option_or o None ≡ o
or_none None = refl
or_none (Some x) = refl

or_assoc : {X : Type 0} (o p r : Option X) → option_or (option_or o p) r ≡ option_or o (option_or p r)
or_assoc None p r = refl
or_assoc (Some x) p r = refl

-- a table with another behind it
in-append : (es fs : List (List ℕ × First)) (q : List ℕ) → first_in (es ++ fs) q ≡ option_or (first_in es q) (first_in fs q)
in-append [] fs q = refl
in-append (e ∷ es) fs q =
    elim (bytes_eq q e.0) as (λ t. cond t (Some e.1) (first_in (es ++ fs) q) ≡ option_or (cond t (Some e.1) (first_in es q)) (first_in fs q)) [ true ↦ refl | false ↦ in-append es fs q ]

-- what stands there hides what is behind it
hides : {X : Type 0} (o : Option X) (x : X) → is_some o ≡ true → o ≡ option_or o (Some x)
hides None x there = cc
hides (Some y) x there = refl

-- one name more
in_with : (es : List (List ℕ × First)) (name : List ℕ) (first : First) (q : List ℕ) → first_in (with_first es name first) q ≡ option_or (first_in es q) (first_in ((name, first) ∷ []) q)
in_with es name first q = by (is_some (first_in es name)) refl
  where
    there : is_some (first_in es name) ≡ true → (t : Bool) → bytes_eq q name ≡ t → first_in es q ≡ option_or (first_in es q) (cond t (Some first) None)
    there known true same = hides (first_in es q) first (ap (λ n. is_some (first_in es n)) ((bytes_eq-Decides q name).0 same) ∙ known)
    there known false other = sym (or_none (first_in es q))

    by : (t : Bool) → is_some (first_in es name) ≡ t → first_in (cond t es (es ++ (name, first) ∷ [])) q ≡ option_or (first_in es q) (first_in ((name, first) ∷ []) q)
    by true known = there known (bytes_eq q name) refl
    by false new = in-append es ((name, first) ∷ []) q

kept_first : (d : Declaration) (ds : List Declaration) (q : List ℕ) → option_or (first_in ((d.name, kept_of d) ∷ []) q) (first_kept ds q) ≡ first_kept (d ∷ ds) q
kept_first d ds q = ap (λ t. option_or (cond t (Some (kept_of d)) None) (first_kept ds q)) (bytes_turned q d.name) ∙ by (bytes_eq d.name q)
  where
    by : (t : Bool) → option_or (cond t (Some (kept_of d)) None) (first_kept ds q) ≡ option_map kept_of (cond t (Some d) (first_of q ds))
    by true = refl
    by false = refl

in_firsts : (es : List (List ℕ × First)) (ds : List Declaration) (q : List ℕ) → first_in (with_firsts es ds) q ≡ option_or (first_in es q) (first_kept ds q)
in_firsts es [] q = sym (or_none (first_in es q))
in_firsts es (d ∷ ds) q =
    in_firsts (with_first es d.name (kept_of d)) ds q
    ∙ ap (λ o. option_or o (first_kept ds q)) (in_with es d.name (kept_of d) q)
    ∙ or_assoc (first_in es q) (first_in ((d.name, kept_of d) ∷ []) q) (first_kept ds q)
    ∙ ap (option_or (first_in es q)) (kept_first d ds q)

-- at each name a table keeps the first declaration
pub kept_at : (names : List (List ℕ × First)) (ds : List Declaration) (q : List ℕ) → Keeps names ds → first_in names q ≡ first_kept ds q
kept_at names ds q keeps = ap (λ es. first_in es q) keeps ∙ in_firsts [] ds q

firsts_last : (es : List (List ℕ × First)) (ds : List Declaration) (d : Declaration) → with_firsts es (ds ++ d ∷ []) ≡ with_first (with_firsts es ds) d.name (kept_of d)
firsts_last es [] d = refl
firsts_last es (e ∷ ds) d = firsts_last (with_first es e.name (kept_of e)) ds d

-- a declaration more
pub keeps_more : (names old : List (List ℕ × First)) (ds : List Declaration) (d : Declaration) → names ≡ with_first old d.name (kept_of d) → Keeps old ds → Keeps names (ds ++ d ∷ [])
keeps_more names old ds d is was = is ∙ ap (λ es. with_first es d.name (kept_of d)) was ∙ sym (firsts_last [] ds d)

pub declarations-append : (ps qs : List Placed) → declarations (ps ++ qs) ≡ declarations ps ++ declarations qs
declarations-append ps qs = flat_map-append (λ (p : Placed). declarations_in p.statement) ps qs

-- one statement more
pub declarations_more : (ps : List Placed) (i : ℕ) (d : Placed) → i < length ps → declarations (take (i + 1) ps) ≡ declarations (take i ps) ++ declarations_in (get_or ps i d).statement
declarations_more ps i d lt =
    ap declarations (take_more ps i d lt) ∙ declarations-append (take i ps) (get_or ps i d ∷ [])
    ∙ ap (λ (ds : List Declaration). declarations (take i ps) ++ ds) (append-nil (declarations_in (get_or ps i d).statement))

-- the bounds of a name
pub bounds_is : (ds : List Declaration) (q : List ℕ) → kept_bounds (first_kept ds q) ≡ bounds_in ds q
bounds_is ds q =
    let cases : (o : Option Declaration) → kept_bounds (option_map kept_of o) ≡ bounds_or_none o
    = λ o. elim o as (λ o. kept_bounds (option_map kept_of o) ≡ bounds_or_none o) [ None ↦ refl | Some d ↦ refl ]
    in cases (first_of q ds)

-- whether a name is declared
pub declared_is : (ds : List Declaration) (q : List ℕ) → is_some (first_kept ds q) ≡ is_declared ds q
declared_is [] q = refl
declared_is (d ∷ ds) q =
    let cases : (t : Bool) → is_some (option_map kept_of (cond t (Some d) (first_of q ds))) ≡ (t || is_declared ds q)
    = λ t. elim t as (λ t. is_some (option_map kept_of (cond t (Some d) (first_of q ds))) ≡ (t || is_declared ds q)) [ true ↦ refl | false ↦ declared_is ds q ]
    in cases (is_named q d)
