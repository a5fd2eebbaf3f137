-- Tables of names. A name has what its first declaration makes of it, and its nets: those of a name stand in a row, and the
-- names in the order of the table.
use Rattle.std.specs.Prelude.{◌≡◌, ℕ, ◌+◌, if◌then◌else◌, List, [], ◌∷◌, ◌++◌, map, Option, Some, None, is_some, option_map}
use Rattle.std.specs.Borrow.{Bor}
use Rattle.std.specs.Str.{bytes_eq}
use Rattle.verilog_names.specs.declared.bounds.Bounds.{Bounds}
use Rattle.verilog_names.specs.declared.entry.Entry.{Entry}
use Rattle.verilog_names.specs.declared.declared.First.{First}
use Rattle.verilog_names.specs.declared.declared.Slot.{Slot}
use Rattle.verilog_names.specs.Declarations.{offset, Declaration, first_of, width_or_one}

-- what is kept of a declaration
abbrev pub kept_of : Declaration → First
kept_of d = record { kind = d.kind; bounds = d.bounds }

-- what is kept of the first declaration of a name
abbrev pub first_kept : List Declaration → List ℕ → Option First
first_kept ds name = option_map kept_of (first_of name ds)

-- what a table keeps of a name
abbrev pub first_in : List (List ℕ × First) → List ℕ → Option First
first_in [] name = None
first_in (e ∷ es) name = if bytes_eq name e.0 then Some e.1 else first_in es name

-- with a name, unless it stands there
abbrev pub with_first : List (List ℕ × First) → List ℕ → First → List (List ℕ × First)
with_first es name first = if is_some (first_in es name) then es else es ++ (name, first) ∷ []

-- a table after some more declarations
abbrev pub with_firsts : List (List ℕ × First) → List Declaration → List (List ℕ × First)
with_firsts es [] = es
with_firsts es (d ∷ ds) = with_firsts (with_first es d.name (kept_of d)) ds

-- the names that declarations declare, in the order of their first ones
abbrev pub firsts_of : List Declaration → List (List ℕ × First)
firsts_of ds = with_firsts [] ds

-- the bounds where what is kept is a vector
abbrev pub kept_bounds : Option First → Option Bounds
kept_bounds None = None
kept_bounds (Some first) = first.bounds

-- the bounds at a name
abbrev pub known_bounds : List (List ℕ × First) → List ℕ → Option Bounds
known_bounds es name = kept_bounds (first_in es name)

-- the names with their bounds
abbrev pub bounded : List (List ℕ × First) → List (List ℕ × Option Bounds)
bounded es = map (λ e. (e.0, e.1.bounds)) es

-- how many nets they have
abbrev pub total : List (List ℕ × Option Bounds) → ℕ
total [] = 0
total (e ∷ es) = width_or_one e.1 + total es

-- where the nets of a name stand
abbrev pub place_from : ℕ → List (List ℕ × Option Bounds) → List ℕ → Option Entry
place_from at [] name = None
place_from at (e ∷ es) name =
    if bytes_eq name e.0 then Some (record { first = at; bounds = e.1 }) else place_from (at + width_or_one e.1) es name

-- the nets of a name
abbrev pub place : List (List ℕ × Option Bounds) → List ℕ → Option Entry
place es name = place_from 0 es name

-- with a name, unless it stands there
abbrev pub with_entry : List (List ℕ × Option Bounds) → List ℕ → Option Bounds → List (List ℕ × Option Bounds)
with_entry es name bounds = if is_some (place es name) then es else es ++ (name, bounds) ∷ []

-- a table after some more names
abbrev pub with_entries : List (List ℕ × Option Bounds) → List (List ℕ × Option Bounds) → List (List ℕ × Option Bounds)
with_entries es [] = es
with_entries es (x ∷ xs) = with_entries (with_entry es x.0 x.1) xs

-- a table after the names of some declarations
abbrev pub with_declared : List (List ℕ × Option Bounds) → List Declaration → List (List ℕ × Option Bounds)
with_declared es ds = with_entries es (map (λ d. (d.name, d.bounds)) ds)

-- the place of an index among the nets of a name
abbrev pub offset_in : Option Bounds → ℕ → ℕ
offset_in None index = 0
offset_in (Some b) index = offset b index

-- what a slot keeps of the first declaration
abbrev pub first_at : Slot → First
first_at slot = record { kind = slot.kind; bounds = slot.entry.bounds }

-- the names of the code in order, each with what is kept of it
abbrev pub firsts_in : List (Bor (List ℕ) × Slot) → List (List ℕ × First)
firsts_in slots = map (λ e. (e.0.now, first_at e.1)) slots

-- the first nets are numbered one behind the other
abbrev pub IsNumbered : ℕ → List (Bor (List ℕ) × Slot) → Type 0
IsNumbered at [] = Unit {0}
IsNumbered at (e ∷ es) = (e.1.entry.first ≡ at) × IsNumbered (at + width_or_one e.1.entry.bounds) es
