-- Lists of names with their bounds that are filled name by name.
use Rattle.std.proofs.Common.{◌≡◌, ℕ, List, [], ◌∷◌, ◌++◌, map, Option, None, refl}
use Rattle.std.proofs.lemmas.List.{map-append}
use Rattle.verilog_names.specs.declared.bounds.Bounds.{Bounds}
use Rattle.verilog_names.specs.NameTables.{with_entry, with_entries}

abbrev pub Entries : Type 0
Entries = List (List ℕ × Option Bounds)

pub with_entries-append : (es xs ys : Entries) → with_entries es (xs ++ ys) ≡ with_entries (with_entries es xs) ys
with_entries-append es [] ys = refl
with_entries-append es (x ∷ xs) ys = with_entries-append (with_entry es x.0 x.1) xs ys

abbrev pub mentioned_entries : List (List ℕ) → Entries
mentioned_entries names = map (λ name. (name, None)) names

pub mentions-append : (xs ys : List (List ℕ)) → mentioned_entries (xs ++ ys) ≡ mentioned_entries xs ++ mentioned_entries ys
mentions-append xs ys = map-append (λ (name : List ℕ). let e : List ℕ × Option Bounds = (name, None) in e) xs ys
