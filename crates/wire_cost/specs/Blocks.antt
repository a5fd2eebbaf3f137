-- What is written into the rows of the blocks, from the other rows.
use Rattle.std.specs.Prelude.{◌≡◌, ℕ, ℤ, pos, ◌+◌, ◌-ℤ◌, ◌<◌, ◌≤◌, ◌≤ℤ◌, List, length, slice_index_or, unsigned_abs}

-- each number of the row is at most m in size
abbrev pub AreSmall : ℕ → List ℤ → Type 0
AreSmall m xs = (k : ℕ) → k < length xs → unsigned_abs (slice_index_or xs k (pos 0)) ≤ m

-- how far apart two places of the rows are
abbrev pub way_in : List ℤ → List ℤ → ℕ → ℕ → ℕ
way_in xs ys m j = unsigned_abs (slice_index_or xs m (pos 0) -ℤ slice_index_or xs j (pos 0)) + unsigned_abs (slice_index_or ys m (pos 0) -ℤ slice_index_or ys j (pos 0))

-- the number of unit j in the row `ts`, less the ways from place m to the places before and behind the unit
abbrev pub slack_in : List ℤ → List ℤ → List ℤ → ℕ → ℕ → ℤ
slack_in xs ys ts m j = slice_index_or ts j (pos 0) -ℤ pos (way_in xs ys m j + way_in xs ys m (j + 1))

-- z is the least of these numbers from one unit up to before another
pub record IsLeastIn (xs ys ts : List ℤ) (m from until : ℕ) (z : ℤ) : Type 0 where
  pub least : (j : ℕ) → from ≤ j → j < until → z ≤ℤ slack_in xs ys ts m j
  pub one : (j : ℕ) × (from ≤ j) × (j < until) × (z ≡ slack_in xs ys ts m j)
