-- The numbers of which the places of the units are made.
use Rattle.std.specs.Prelude.{ℕ, zero, suc, ◌+◌, ◌*◌, ◌%◌}

-- the number after s: a linear congruential sequence of 31 bits
abbrev pub next_number : ℕ → ℕ
next_number s = (s * 1103515245 + 12345) % 2147483648

-- the first is 1
unfoldable pub number_at : ℕ → ℕ
number_at zero = 1
number_at (suc i) = next_number (number_at i)

-- a number as a coordinate in database units, 1000 to the micron
abbrev pub coordinate : ℕ → ℕ
coordinate s = 1000 * (s % 1000)

-- the place of a unit
abbrev pub place_x : ℕ → ℕ
place_x i = coordinate (number_at (2 * i + 1))

-- and its other coordinate
abbrev pub place_y : ℕ → ℕ
place_y i = coordinate (number_at (2 * i + 2))
