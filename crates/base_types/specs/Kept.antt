-- Where a name keeps its bytes.
use Rattle.std.specs.Prelude.{◌≤◌, ℕ, List, take}
use Rattle.base_types.specs.declared.name.Kept.{Kept}
use Rattle.base_types.specs.declared.name.Kept.TheVariants.{Inside, Apart}

-- the bytes that are kept
abbrev pub kept_bytes : Kept → List ℕ
kept_bytes (Inside count bytes) = take count bytes
kept_bytes (Apart bytes) = bytes.items

-- as many are said to lie inside as there may be
abbrev pub IsKept : Kept → Type 0
IsKept (Inside count bytes) = count ≤ 30
IsKept (Apart bytes) = Unit {0}
