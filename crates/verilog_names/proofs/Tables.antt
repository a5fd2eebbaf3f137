-- The table of names: what a look-up gives, and one name more.
use Rattle.std.proofs.Common.{◌≡◌, ℕ, ◌+◌, ◌≤◌, Bool, true, false, cond, List, [], ◌∷◌, ◌++◌, Option, Some, None, Bor, refl, sym, ap, subst, ◌∙◌, arith}
use Rattle.std.specs.Option.{is_some, option_map, option_copied}
use Rattle.std.specs.Map.{lookup}
use Rattle.std.specs.Str.{bytes_eq}
use Rattle.std.proofs.lemmas.List.{map-append}
use Rattle.std.proofs.lemmas.Option.{none-some, same_Some}
use Rattle.std.proofs.lemmas.Slice.Eq.{bytes_eq-Decides}
use Rattle.verilog_names.specs.declared.bounds.Bounds.{Bounds}
use Rattle.verilog_names.specs.declared.entry.Entry.{Entry}
use Rattle.verilog_names.specs.declared.declared.First.{First}
use Rattle.verilog_names.specs.declared.declared.Slot.{Slot}
use Rattle.verilog_names.specs.Declarations.{width_or_one}
use Rattle.verilog_names.specs.NameTables.{first_in, with_first, bounded, total, place_from, place, first_at, firsts_in, IsNumbered}

abbrev Table : Type 0
Table = List (Bor (List ℕ) × Slot)

abbrev entry_at : Slot → Entry
entry_at slot = slot.entry

-- a look-up gives what is kept
found_first : (q : List ℕ) (es : Table) → option_map first_at (lookup (λ (k : Bor (List ℕ)). bytes_eq q k.now) es) ≡ first_in (firsts_in es) q
found_first q [] = refl
found_first q (e ∷ es) = by (bytes_eq q e.0.now) (found_first q es)
  where
    by : (t : Bool) → option_map first_at (lookup (λ (k : Bor (List ℕ)). bytes_eq q k.now) es) ≡ first_in (firsts_in es) q
        → option_map first_at (cond t (Some e.1) (lookup (λ (k : Bor (List ℕ)). bytes_eq q k.now) es)) ≡ cond t (Some (first_at e.1)) (first_in (firsts_in es) q)
    by true rest = refl
    by false rest = rest

at_first : (e : Entry) (at : ℕ) → e.first ≡ at → ◌≡◌ {A = Entry} e (record { first = at; bounds = e.bounds })
at_first e at is = ap (λ (n : ℕ). let made : Entry = record { first = n; bounds = e.bounds } in made) is

-- and the place
found_place : (q : List ℕ) (at : ℕ) (es : Table) → IsNumbered at es → option_map entry_at (lookup (λ (k : Bor (List ℕ)). bytes_eq q k.now) es) ≡ place_from at (bounded (firsts_in es)) q
found_place q at [] is = refl
found_place q at (e ∷ es) is = by (bytes_eq q e.0.now) (found_place q (at + width_or_one e.1.entry.bounds) es is.1)
  where
    by : (t : Bool) → option_map entry_at (lookup (λ (k : Bor (List ℕ)). bytes_eq q k.now) es) ≡ place_from (at + width_or_one e.1.entry.bounds) (bounded (firsts_in es)) q
        → option_map entry_at (cond t (Some e.1) (lookup (λ (k : Bor (List ℕ)). bytes_eq q k.now) es))
        ≡ cond t (Some (record { first = at; bounds = e.1.entry.bounds })) (place_from (at + width_or_one e.1.entry.bounds) (bounded (firsts_in es)) q)
    by true rest = ap (λ (x : Entry). Some x) (at_first e.1.entry at is.0)
    by false rest = rest

-- what the code answers by a look-up
pub first_by : (o p : Option (Bor Slot)) (es : Table) (q : List ℕ) → o ≡ p → option_copied o ≡ lookup (λ (k : Bor (List ℕ)). bytes_eq q k.now) es
    → option_map first_at (option_copied p) ≡ first_in (firsts_in es) q
first_by o p es q was is = ap (λ (o : Option (Bor Slot)). option_map first_at (option_copied o)) (sym was) ∙ ap (option_map first_at) is ∙ found_first q es

pub place_by : (o p : Option (Bor Slot)) (es : Table) (q : List ℕ) → IsNumbered 0 es → o ≡ p → option_copied o ≡ lookup (λ (k : Bor (List ℕ)). bytes_eq q k.now) es
    → option_map entry_at (option_copied p) ≡ place (bounded (firsts_in es)) q
place_by o p es q at was is = ap (λ (o : Option (Bor Slot)). option_map entry_at (option_copied o)) (sym was) ∙ ap (option_map entry_at) is ∙ found_place q 0 es at

none_mapped : {X Y : Type 0} (f : X → Y) (o : Option X) → option_map f o ≡ None → o ≡ None
none_mapped f None is = refl
none_mapped f (Some x) is = absurd (none-some (f x) (sym is))

-- a name that isn't there
pub not_found : (q : List ℕ) (es : Table) → first_in (firsts_in es) q ≡ None → lookup (λ (k : Bor (List ℕ)). bytes_eq q k.now) es ≡ None
not_found q es none = none_mapped first_at _ (found_first q es ∙ none)

numbered_push : (at : ℕ) (es : Table) (k : Bor (List ℕ)) (s : Slot) → IsNumbered at es → s.entry.first ≡ at + total (bounded (firsts_in es)) → IsNumbered at (es ++ (k, s) ∷ [])
numbered_push at [] k s is first = (omega (arith, first), tt)
numbered_push at (x ∷ es) k s is first = (is.0, numbered_push (at + width_or_one x.1.entry.bounds) es k s is.1 (omega (arith, first)))

total_push : (es : List (List ℕ × Option Bounds)) (name : List ℕ) (b : Option Bounds) → total (es ++ (name, b) ∷ []) ≡ total es + width_or_one b
total_push [] name b = omega arith
total_push (e ∷ es) name b = omega (arith, total_push es name b)

firsts_push : (es : Table) (k : Bor (List ℕ)) (s : Slot) → firsts_in (es ++ (k, s) ∷ []) ≡ firsts_in es ++ (k.now, first_at s) ∷ []
firsts_push es k s = map-append (λ (e : Bor (List ℕ) × Slot). (e.0.now, first_at e.1)) es ((k, s) ∷ [])

bounded_push : (es : Table) (k : Bor (List ℕ)) (s : Slot) → bounded (firsts_in (es ++ (k, s) ∷ [])) ≡ bounded (firsts_in es) ++ (k.now, s.entry.bounds) ∷ []
bounded_push es k s = ap bounded (firsts_push es k s) ∙ map-append (λ (e : List ℕ × First). (e.0, e.1.bounds)) (firsts_in es) ((k.now, first_at s) ∷ [])

-- one name more
pub added : (old new : Table) (k : Bor (List ℕ)) (s : Slot) (next : ℕ) → new ≡ old ++ (k, s) ∷ []
    → IsNumbered 0 old → s.entry.first ≡ total (bounded (firsts_in old)) → next ≡ s.entry.first + width_or_one s.entry.bounds → IsNumbered 0 new × (next ≡ total (bounded (firsts_in new)))
added old new k s next is was before more =
    let first : s.entry.first ≡ 0 + total (bounded (firsts_in old)) = omega (arith, before) in
    let same = ap total (ap (λ (es : Table). bounded (firsts_in es)) is ∙ bounded_push old k s) ∙ total_push (bounded (firsts_in old)) k.now s.entry.bounds in
    (subst (IsNumbered 0) (sym is) (numbered_push 0 old k s was first), omega (arith, same, before, more))

-- it stands behind the others
pub absent : (old new : Table) (k : Bor (List ℕ)) (s : Slot) → new ≡ old ++ (k, s) ∷ [] → first_in (firsts_in old) k.now ≡ None → firsts_in new ≡ with_first (firsts_in old) k.now (first_at s)
absent old new k s is none =
    ap firsts_in is ∙ firsts_push old k s ∙ sym (ap (λ (o : Option First). cond (is_some o) (firsts_in old) (firsts_in old ++ (k.now, first_at s) ∷ [])) none)

place_last : (q : List ℕ) (at : ℕ) (es : List (List ℕ × Option Bounds)) (b : Option Bounds) → place_from at es q ≡ None
    → place_from at (es ++ (q, b) ∷ []) q ≡ Some (record { first = at + total es; bounds = b })
place_last q at [] b is =
    ap (λ (t : Bool). cond t (Some (record { first = at; bounds = b })) None) ((bytes_eq-Decides q q).1 refl)
    ∙ ap (λ (n : ℕ). let e : Entry = record { first = n; bounds = b } in Some e) (omega arith)
place_last q at (x ∷ es) b is = by (bytes_eq q x.0) is (place_last q (at + width_or_one x.1) es b)
  where
    by : (t : Bool) → cond t (Some (record { first = at; bounds = x.1 })) (place_from (at + width_or_one x.1) es q) ≡ None
        → (place_from (at + width_or_one x.1) es q ≡ None → place_from (at + width_or_one x.1) (es ++ (q, b) ∷ []) q ≡ Some (record { first = at + width_or_one x.1 + total es; bounds = b }))
        → cond t (Some (record { first = at; bounds = x.1 })) (place_from (at + width_or_one x.1) (es ++ (q, b) ∷ []) q) ≡ Some (record { first = at + (width_or_one x.1 + total es); bounds = b })
    by true is rest = absurd (none-some (record { first = at; bounds = x.1 }) (sym is))
    by false is rest = rest is ∙ ap (λ (n : ℕ). let e : Entry = record { first = n; bounds = b } in Some e) (omega arith)

-- and its nets behind theirs
pub appended : (old new : Table) (k : Bor (List ℕ)) (s : Slot) → new ≡ old ++ (k, s) ∷ [] → place (bounded (firsts_in old)) k.now ≡ None → s.entry.first ≡ total (bounded (firsts_in old))
    → place (bounded (firsts_in new)) k.now ≡ Some s.entry
appended old new k s is none at =
    ap (λ (es : Table). place (bounded (firsts_in es)) k.now) is ∙ ap (λ es. place es k.now) (bounded_push old k s) ∙ place_last k.now 0 (bounded (firsts_in old)) s.entry.bounds none
    ∙ ap (λ (n : ℕ). let made : Entry = record { first = n; bounds = s.entry.bounds } in Some made) (omega (arith, at))

place_within : (q : List ℕ) (at : ℕ) (es : List (List ℕ × Option Bounds)) (e : Entry) → place_from at es q ≡ Some e → e.first + width_or_one e.bounds ≤ at + total es
place_within q at [] e is = absurd (none-some e is)
place_within q at (x ∷ es) e is =
    let P : Option Entry → Type 0 = λ o. o ≡ Some e → e.first + width_or_one e.bounds ≤ at + (width_or_one x.1 + total es) in
    elim (bytes_eq q x.0) as (λ t. cond t (Some (record { first = at; bounds = x.1 })) (place_from (at + width_or_one x.1) es q) ≡ Some e → e.first + width_or_one e.bounds ≤ at + (width_or_one x.1 + total es)) [
      | true ↦ λ p.
          let same = same_Some (record { first = at; bounds = x.1 }) e p in
          subst (λ (e : Entry). e.first + width_or_one e.bounds ≤ at + (width_or_one x.1 + total es)) same (omega arith)
      | false ↦ λ p. let rest = place_within q (at + width_or_one x.1) es e p in omega (arith, rest)
    ] is

-- the nets of a name lie among all of them
pub within : (q : List ℕ) (es : List (List ℕ × Option Bounds)) (e : Entry) → place es q ≡ Some e → e.first + width_or_one e.bounds ≤ total es
within q es e is = let w = place_within q 0 es e is in omega (arith, w)
