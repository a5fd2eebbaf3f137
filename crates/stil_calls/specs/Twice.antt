-- Names beside one another in a list.
use Rattle.std.specs.Prelude.{ℕ, Bool, true, false, ◌&&◌, ◌||◌, List, [], ◌∷◌}
use Rattle.std.specs.Str.{bytes_eq}
use Rattle.std.specs.Ordering.{nat_cmp, is_lt}
use Rattle.std.specs.Cmp.Lexicographic.{slice_cmp}

-- behind a name: two equal ones stand beside one another
abbrev pub equal_beside : List ℕ → List (List ℕ) → Bool
equal_beside last [] = false
equal_beside last (name ∷ names) = bytes_eq last name || equal_beside name names

-- two equal names stand beside one another
abbrev pub has_equal : List (List ℕ) → Bool
has_equal [] = false
has_equal (name ∷ names) = equal_beside name names

-- behind a name: each is greater than the one before it
abbrev pub rises_beside : List ℕ → List (List ℕ) → Bool
rises_beside last [] = true
rises_beside last (name ∷ names) = is_lt (slice_cmp nat_cmp last name) && rises_beside name names

-- each name is greater than the one before it
abbrev pub rises : List (List ℕ) → Bool
rises [] = true
rises (name ∷ names) = rises_beside name names
