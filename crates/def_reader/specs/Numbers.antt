-- The numbers of a design within their limits; one beyond them is a fault of the kind DefNumber.
use Rattle.std.specs.Prelude.{ℕ, ◌^◌, nat_le, nat_lt, ◌&&◌, if◌then◌else◌, List, Option, Some, None, ℤ, pos, negsuc}
use Rattle.def_tokens.specs.Numbers.{integer_of}

-- of an integer of 64 bits the value, where it lies within 32 bits
abbrev pub in_32_bits : Option ℤ → Option ℤ
in_32_bits None = None
in_32_bits (Some (pos n)) = if nat_lt n (2 ^ 31) then Some (pos n) else None
in_32_bits (Some (negsuc n)) = if nat_lt n (2 ^ 31) then Some (negsuc n) else None

-- a coordinate: an integer from -2147483648 to 2147483647
abbrev pub coordinate_of : List ℕ → Option ℤ
coordinate_of text = in_32_bits (integer_of text)

-- of an integer of 64 bits the value, where it is no less than one number and no greater than another
abbrev pub between : ℕ → ℕ → Option ℤ → Option ℕ
between least most None = None
between least most (Some (pos n)) = if nat_le least n && nat_le n most then Some n else None
between least most (Some (negsuc n)) = None

-- a number of bits: 0 to 262144
abbrev pub bits_of : List ℕ → Option ℕ
bits_of text = between 0 262144 (integer_of text)

-- the database units of a micron: 1 to 100000
abbrev pub units_of : List ℕ → Option ℕ
units_of text = between 1 100000 (integer_of text)
