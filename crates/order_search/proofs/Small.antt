-- Links, their sums and the rows are small.
use Rattle.std.proofs.Common.{◌≡◌, ℕ, ℤ, pos, ◌+◌, ◌^◌, ◌<◌, ◌≤◌, List, length, take, drop, get_or, ap, ◌∙◌, arith, inl, inr, to_z, of_z, w64}
use Rattle.std.specs.Prelude.{◌-ℤ◌, unsigned_abs}
use Rattle.std.proofs.lemmas.Bool.{cases_lt}
use Rattle.std.proofs.lemmas.Int.{ints}
use Rattle.std.proofs.lemmas.List.{get_or-take, get_or-drop, get_or_past, length-take, length-drop}
use Rattle.lane_kernels.specs.Kernels.{AllWithin}
use Rattle.wire_cost.specs.Rows.{IsRow}
pub use Rattle.wire_cost.proofs.Small.{HasNearEnds, near_ends, near_exchanged, near_end, near_first, difference_small, forward_small, sum_small, next_x_small, next_y_small}
use mir.Val.{SFits}

-- a sum as the code hands it over
natural : (n : ℕ) → n ≤ 2 ^ 60 → unsigned_abs (to_z w64 (of_z w64 (pos n))) ≡ n
natural n h = omega (arith, ints)

pub natural_of : (z : ℤ) (n : ℕ) → z ≡ pos n → n ≤ 2 ^ 60 → unsigned_abs (to_z w64 (of_z w64 z)) ≡ n
natural_of z n e h = ap (λ (x : ℤ). unsigned_abs (to_z w64 (of_z w64 x))) e ∙ natural n h

pub difference_kept : (a b : ℕ) → a ≤ 2 ^ 61 → b ≤ 2 ^ 61 → to_z w64 (of_z w64 (to_z w64 a -ℤ to_z w64 b)) ≡ pos a -ℤ pos b
difference_kept a b p q = omega (arith, ints)

pub difference_fits : (a b : ℕ) → a ≤ 2 ^ 61 → b ≤ 2 ^ 61 → SFits w64 (to_z w64 a -ℤ to_z w64 b)
difference_fits a b p q = omega (arith, ints)

pub wide_difference_small : (a b : ℕ) → a ≤ 2 ^ 61 → b ≤ 2 ^ 61 → unsigned_abs (pos a -ℤ pos b) ≤ 2 ^ 61
wide_difference_small a b p q = omega (arith, ints)

-- what stands in a part of a row
pub part_at : (xs : List ℤ) (from count k : ℕ) → k < count → get_or (take count (drop from xs)) k (pos 0) ≡ get_or xs (from + k) (pos 0)
part_at xs from count k l = get_or-take count (drop from xs) k (pos 0) l ∙ get_or-drop from xs k (pos 0)

-- a part of a row of small numbers
pub part_within : (n m : ℕ) (f : ℕ → ℤ) (xs : List ℤ) → IsRow n f xs → ((k : ℕ) → k < n → unsigned_abs (f k) ≤ m) → (from count : ℕ) → AllWithin m (take count (drop from xs))
part_within n m f xs r h from count = λ k. elim (cases_lt k (length (take count (drop from xs)))) [
  | inl a ↦ (
      let long = length-take count (drop from xs) in
      let short = length-drop from xs in
      let there : from + k < n = omega (arith, long, short, r.count) in
      let e : get_or (take count (drop from xs)) k (pos 0) ≡ f (from + k) = part_at xs from count k (omega (arith, long)) ∙ r.each (from + k) there in
      omega (arith, ap unsigned_abs e, h (from + k) there)
      )
  | inr b ↦ (let e = ap unsigned_abs (get_or_past (take count (drop from xs)) k (pos 0) b) in omega (arith, e))
]
