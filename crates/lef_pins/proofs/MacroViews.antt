-- A look-up by bytes among the entries of the map of macros, as they are seen.
use Rattle.std.proofs.Common.{◌≡◌, ℕ, Bool, true, false, ◌||◌, cond, List, [], ◌∷◌, ◌++◌, map, Some, Global, Vec, refl, ap, ◌∙◌}
use Rattle.std.specs.List.{list_any}
use Rattle.std.specs.Map.{lookup}
use Rattle.std.proofs.lemmas.List.{map-append}
use Rattle.indexmap.specs.IndexMap.{insert_entry}
use Rattle.indexmap.specs.IndexSet.{insert_key}
use Rattle.std.specs.Str.{bytes_eq}
use Rattle.lef_pins.specs.declared.macros.Macro.{Macro}
use Rattle.lef_pins.specs.Macros.{NamedMacros, macro_at, with_macro}
use Rattle.lef_pins.specs.Reading.{with_name}

abbrev pub MacroEntry : Type 0
MacroEntry = Vec ℕ Global × Macro

abbrev pub macros_view : List MacroEntry → NamedMacros
macros_view es = map (λ e. (e.0.items, e.1)) es

pub lookup-macros_view : (q : List ℕ) (es : List MacroEntry) → macro_at q (macros_view es) ≡ lookup (λ k. bytes_eq q k.items) es
lookup-macros_view q [] = refl
lookup-macros_view q (e ∷ es) = ap (cond (bytes_eq q e.0.items) (Some e.1)) (lookup-macros_view q es)

-- a choice that is seen
seen : {X Y : Type 0} (f : X → Y) (b : Bool) (x y : X) → f (cond b x y) ≡ cond b (f x) (f y)
seen f true x y = refl
seen f false x y = refl

pub macros_view-insert : (k : Vec ℕ Global) (m : Macro) (es : List MacroEntry) → macros_view (insert_entry (λ x y. bytes_eq x.items y.items) es k m) ≡ with_macro (macros_view es) k.items m
macros_view-insert k m [] = refl
macros_view-insert k m (e ∷ es) =
    seen macros_view (bytes_eq k.items e.0.items) ((e.0, m) ∷ es) (e ∷ insert_entry (λ x y. bytes_eq x.items y.items) es k m)
    ∙ ap (λ (l : NamedMacros). cond (bytes_eq k.items e.0.items) ((e.0.items, m) ∷ macros_view es) ((e.0.items, e.1) ∷ l)) (macros_view-insert k m es)

-- names as they are seen
abbrev names_view : List (Vec ℕ Global) → List (List ℕ)
names_view ks = map (λ k. k.items) ks

pub list_any-names_view : (k : Vec ℕ Global) (ks : List (Vec ℕ Global)) → list_any (λ (x : Vec ℕ Global). bytes_eq k.items x.items) ks ≡ list_any (bytes_eq k.items) (names_view ks)
list_any-names_view k [] = refl
list_any-names_view k (x ∷ xs) = ap (λ (b : Bool). bytes_eq k.items x.items || b) (list_any-names_view k xs)

pub names_view-insert : (k : Vec ℕ Global) (ks : List (Vec ℕ Global)) → names_view (insert_key (λ x y. bytes_eq x.items y.items) ks k) ≡ with_name (names_view ks) k.items
unfolding with_name
names_view-insert k ks =
    seen names_view (list_any (λ (x : Vec ℕ Global). bytes_eq k.items x.items) ks) ks (ks ++ k ∷ [])
    ∙ ap (λ (l : List (List ℕ)). cond (list_any (λ (x : Vec ℕ Global). bytes_eq k.items x.items) ks) (names_view ks) l) (map-append (λ (x : Vec ℕ Global). x.items) ks (k ∷ []))
    ∙ ap (λ (b : Bool). cond b (names_view ks) (names_view ks ++ k.items ∷ [])) (list_any-names_view k ks)
