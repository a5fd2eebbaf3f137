-- The least of some places, or of some lines.
use Rattle.std.specs.Prelude.{ℕ, ◌≤◌, Bool, if◌then◌else◌, min, List, [], ◌∷◌, Option, Some, None}

-- the least of the numbers of which this holds, or none
abbrev pub IsLeast : (ℕ → Type 0) → Option ℕ → Type 0
IsLeast P None = (n : ℕ) → P n → ⊥
IsLeast P (Some m) = P m × ((n : ℕ) → P n → m ≤ n)

-- a place, where a test holds
abbrev pub place_if : Bool → ℕ → List ℕ
place_if test place = if test then place ∷ [] else []

-- the lesser of two places, as far as there are any
abbrev pub lesser : Option ℕ → Option ℕ → Option ℕ
lesser None b = b
lesser (Some a) None = Some a
lesser (Some a) (Some b) = Some (min a b)

-- the least of some places
abbrev pub least_of : List ℕ → Option ℕ
least_of [] = None
least_of (p ∷ ps) = lesser (Some p) (least_of ps)

-- a place, where it counts
abbrev pub found_if : Bool → ℕ → Option ℕ
found_if counts place = if counts then Some place else None
