-- What the rows of a chain hold, place by place. The k-th place is that before the unit with number k, the last one that before
-- the stop.
use Rattle.std.specs.Prelude.{◌≡◌, ℕ, ℤ, pos, ◌+◌, ◌*◌, ◌/◌, ◌-ℤ◌, ◌<◌, ◌≤◌, ◌≤ℤ◌, min, List, length, take, drop, Option, Some, None, slice_index_or, unsigned_abs}
use Rattle.base_types.specs.declared.span.Point.{Point}
use Rattle.wire_cost.specs.Filled.{RowLists}
use Rattle.wire_cost.specs.Lengths.{ChainEnds, backward_sum, end_of, first_of, forward_sum}

-- a row of so many numbers, each the one that a function gives
pub record IsRow (n : ℕ) (f : ℕ → ℤ) (row : List ℤ) : Type 0 where
  pub count : length row ≡ n
  pub each : (k : ℕ) → k < n → slice_index_or row k (pos 0) ≡ f k

-- the coordinates of a point, 0 where there is none
abbrev pub x_of : Option Point → ℤ
x_of None = pos 0
x_of (Some p) = p.x

-- the same from above
abbrev pub y_of : Option Point → ℤ
y_of None = pos 0
y_of (Some p) = p.y

-- where one comes from at a place
abbrev pub before_at : ChainEnds → List ℕ → ℕ → Option Point
before_at w us k = end_of w.exit w.start (take k us)

-- where one goes to at a place
abbrev pub next_at : ChainEnds → List ℕ → ℕ → Option Point
next_at w us k = first_of w.entry w.stop (drop k us)

-- the rows are those of a chain with these units
pub record AreRowsOf (w : ChainEnds) (us : List ℕ) (rows : RowLists) : Type 0 where
  pub entry_x : IsRow (length us + 1) (λ k. x_of (next_at w us k)) rows.entry_x
  pub entry_y : IsRow (length us + 1) (λ k. y_of (next_at w us k)) rows.entry_y
  pub exit_x : IsRow (length us + 1) (λ k. x_of (before_at w us k)) rows.exit_x
  pub exit_y : IsRow (length us + 1) (λ k. y_of (before_at w us k)) rows.exit_y
  -- the first links up to the one to unit k, turned round, less the same links and the one after unit k
  pub turned : IsRow (length us) (λ k. pos (backward_sum w us (k + 1)) -ℤ pos (forward_sum w us (k + 2))) rows.turned
  -- the negative of the link at a place
  pub gaps : IsRow (length us + 1) (λ k. pos (forward_sum w us k) -ℤ pos (forward_sum w us (k + 1))) rows.gaps

-- how many blocks of 32 units so many units take, the last one with as many as are left
abbrev pub block_count : ℕ → ℕ
block_count n = (n + 31) / 32

-- the place in the middle of a block, or the last place of the chain before it
abbrev pub middle_of : ℕ → ℕ → ℕ
middle_of n b = min (32 * b + 16) n

-- the way between two places along the axes, by their coordinates
abbrev pub way_of : Option Point → Option Point → ℕ
way_of a b = unsigned_abs (x_of a -ℤ x_of b) + unsigned_abs (y_of a -ℤ y_of b)

-- the number of unit j in the row `turned`, less the ways from place m to the places before and behind the unit
abbrev pub slack_of : ChainEnds → List ℕ → ℕ → ℕ → ℤ
slack_of w us m j = (pos (backward_sum w us (j + 1)) -ℤ pos (forward_sum w us (j + 2))) -ℤ pos (way_of (next_at w us m) (next_at w us j) + way_of (next_at w us m) (next_at w us (j + 1)))

-- z is the least of these numbers over the units of a block, seen from its middle
pub record IsLeastSlack (w : ChainEnds) (us : List ℕ) (b : ℕ) (z : ℤ) : Type 0 where
  pub least : (j : ℕ) → 32 * b ≤ j → j < 32 * b + 32 → j < length us → z ≤ℤ slack_of w us (middle_of (length us) b) j
  pub one : (j : ℕ) × (32 * b ≤ j) × (j < 32 * b + 32) × (j < length us) × (z ≡ slack_of w us (middle_of (length us) b) j)

-- the rows of the blocks are those of a chain with these units
pub record AreBlocksOf (w : ChainEnds) (us : List ℕ) (rows : RowLists) : Type 0 where
  pub middle_x : IsRow (block_count (length us)) (λ b. x_of (next_at w us (middle_of (length us) b))) rows.middle_x
  pub middle_y : IsRow (block_count (length us)) (λ b. y_of (next_at w us (middle_of (length us) b))) rows.middle_y
  pub slack_count : length rows.slack ≡ block_count (length us)
  pub slack : (b : ℕ) → b < block_count (length us) → IsLeastSlack w us b (slice_index_or rows.slack b (pos 0))
