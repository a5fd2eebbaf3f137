-- Floors of fractions, and their sizes.
use Rattle.std.proofs.Common.{◌*◌, ◌^◌, ◌≤◌, arith}
use Rattle.std.specs.Prelude.{ℤ, pos, negsuc, ◌+ℤ◌, ◌*ℤ◌, ◌≤ℤ◌, ◌<ℤ◌, unsigned_abs}
use Rattle.std.specs.Int.{int_div_euclid}
use Rattle.std.proofs.lemmas.Int.{ints}
use Rattle.lef_pins.specs.Places.{FloorLaw}

-- the floor of a fraction with this divisor
floor_is : (z : ℤ) → ((int_div_euclid z (pos (10 ^ 6)) *ℤ pos (10 ^ 6)) ≤ℤ z) × (z <ℤ ((int_div_euclid z (pos (10 ^ 6)) +ℤ pos 1) *ℤ pos (10 ^ 6)))
floor_is (pos a) = (omega (arith, ints), omega (arith, ints))
floor_is (negsuc a) = (omega (arith, ints), omega (arith, ints))

pub floor_law : FloorLaw
floor_law v units = floor_is (v *ℤ units)

pub floor-within : (z : ℤ) → unsigned_abs z ≤ 4 * 10 ^ 17 → unsigned_abs (int_div_euclid z (pos (10 ^ 6))) ≤ 4 * 10 ^ 11
floor-within (pos a) small = omega arith
floor-within (negsuc a) small = omega arith
