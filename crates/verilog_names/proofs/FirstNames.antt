-- Names with what is kept of them, and with their nets alone.
use Rattle.std.proofs.Common.{◌≡◌, ℕ, ◌+◌, Bool, true, false, cond, List, [], ◌∷◌, ◌++◌, Option, Some, None, refl, sym, ap, ◌∙◌}
use Rattle.std.specs.Option.{is_some}
use Rattle.std.specs.Str.{bytes_eq}
use Rattle.std.proofs.lemmas.List.{map-append}
use Rattle.verilog_names.specs.declared.bounds.Bounds.{Bounds}
use Rattle.verilog_names.specs.declared.declared.First.{First}
use Rattle.verilog_names.specs.Declarations.{Declaration, width_or_one}
use Rattle.verilog_names.specs.NameTables.{kept_of, first_in, with_first, with_firsts, firsts_of, bounded, place_from, place, with_entry, with_declared}

-- a name has nets where something is kept of it
pub same_presence : (at : ℕ) (es : List (List ℕ × First)) (q : List ℕ) → is_some (place_from at (bounded es) q) ≡ is_some (first_in es q)
same_presence at [] q = refl
same_presence at (e ∷ es) q = by (bytes_eq q e.0) (same_presence (at + width_or_one e.1.bounds) es q)
  where
    by : (t : Bool) → is_some (place_from (at + width_or_one e.1.bounds) (bounded es) q) ≡ is_some (first_in es q)
        → is_some (cond t (Some (record { first = at; bounds = e.1.bounds })) (place_from (at + width_or_one e.1.bounds) (bounded es) q)) ≡ is_some (cond t (Some e.1) (first_in es q))
    by true rest = refl
    by false rest = rest

none_from : {X : Type 0} (o : Option X) → is_some o ≡ false → o ≡ None
none_from None is = refl
none_from (Some x) is = cc

pub no_place : (es : List (List ℕ × First)) (q : List ℕ) → first_in es q ≡ None → place (bounded es) q ≡ None
no_place es q none = none_from _ (same_presence 0 es q ∙ ap is_some none)

pub no_first : (es : List (List ℕ × First)) (q : List ℕ) → place (bounded es) q ≡ None → first_in es q ≡ None
no_first es q none = none_from _ (sym (same_presence 0 es q) ∙ ap is_some none)

-- one name more
pub bounded_with : (es : List (List ℕ × First)) (q : List ℕ) (f : First) → bounded (with_first es q f) ≡ with_entry (bounded es) q f.bounds
bounded_with es q f = by (is_some (first_in es q)) ∙ ap (λ (t : Bool). cond t (bounded es) (bounded es ++ (q, f.bounds) ∷ [])) (sym (same_presence 0 es q))
  where
    by : (t : Bool) → bounded (cond t es (es ++ (q, f) ∷ [])) ≡ cond t (bounded es) (bounded es ++ (q, f.bounds) ∷ [])
    by true = refl
    by false = map-append (λ (e : List ℕ × First). (e.0, e.1.bounds)) es ((q, f) ∷ [])

bounded_all : (es : List (List ℕ × First)) (ds : List Declaration) → bounded (with_firsts es ds) ≡ with_declared (bounded es) ds
bounded_all es [] = refl
bounded_all es (d ∷ ds) = bounded_all (with_first es d.name (kept_of d)) ds ∙ ap (λ (es : List (List ℕ × Option Bounds)). with_declared es ds) (bounded_with es d.name (kept_of d))

-- the names that declarations declare, with their nets
pub bounded_firsts : (ds : List Declaration) → bounded (firsts_of ds) ≡ with_declared [] ds
bounded_firsts ds = bounded_all [] ds
