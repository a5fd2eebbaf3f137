-- How the names of a head are found again: those of its procedures, of its macros and of its UserKeywords (IEEE 1450-1999, Procedures,
-- MacroDefs and UserKeywords).
use Rattle.std.specs.Prelude.{◌≡◌, ℕ, Bool, if◌then◌else◌, List, map, filter, Option, Some, None}
use Rattle.std.specs.List.{list_any}
use Rattle.std.specs.Str.{bytes_eq}
use Rattle.stil_types.specs.declared.head.Callee.{Callee}

-- the name is one of these
abbrev pub is_known : List (List ℕ) → List ℕ → Bool
is_known names name = list_any (bytes_eq name) names

-- the same names, however often and in whatever order
abbrev pub HaveSameNames : List (List ℕ) → List (List ℕ) → Type 0
HaveSameNames a b = (name : List ℕ) → is_known a name ≡ is_known b name

-- the names of procedures or macros
abbrev pub callee_names : List Callee → List (List ℕ)
callee_names callees = map (λ c. c.name) callees

-- the names of those that scan
abbrev pub scanning_names : List Callee → List (List ℕ)
scanning_names callees = callee_names (filter (λ c. c.scan) callees)

-- whether the procedure or macro of a name is a scan procedure; None where none has the name
abbrev pub scan_of : List Callee → List ℕ → Option Bool
scan_of callees name = if is_known (callee_names callees) name then Some (is_known (scanning_names callees) name) else None
