-- The numbers of LEF and DEF (LEF/DEF 5.8).
use Rattle.std.specs.Prelude.{ℕ, ◌+◌, ◌*◌, ◌-◌, ◌^◌, Bool, ◌&&◌, ◌||◌, not, nat_le, nat_lt, ◌==◌, if◌then◌else◌, List, length, take, drop, slice_index, Option, None, Some, ℤ, pos, neg_ℤ}
use Rattle.std.specs.List.{list_all, prefix_len}
use Rattle.std.specs.Str.Parse.{digits_value}

-- a decimal digit
abbrev pub is_digit : ℕ → Bool
is_digit b = nat_le 48 b && nat_le b 57

-- a minus stands first
abbrev pub has_minus : List ℕ → Bool
has_minus bs = slice_index bs 0 == 45

-- the bytes behind a sign, or all where none stands first
abbrev pub unsigned : List ℕ → List ℕ
unsigned bs = if has_minus bs || slice_index bs 0 == 43 then drop 1 bs else bs

-- an integer: an optional sign, and digits, one at least
abbrev pub is_integer : List ℕ → Bool
is_integer bs = list_all is_digit (unsigned bs) && nat_lt 0 (length (unsigned bs))

-- the number with the sign that the bytes have
abbrev pub with_sign : List ℕ → ℕ → ℤ
with_sign bs n = if has_minus bs then neg_ℤ (pos n) else pos n

-- its value
abbrev pub integer_value : List ℕ → ℤ
integer_value bs = with_sign bs (digits_value 10 (unsigned bs))

-- the greatest size of a number with the sign that the bytes have, in 64 bits
abbrev pub integer_most : List ℕ → ℕ
integer_most bs = if has_minus bs then 2 ^ 63 else 2 ^ 63 - 1

-- its value, where the bytes are an integer of 64 bits
unfoldable pub integer_of : List ℕ → Option ℤ
integer_of bs = if is_integer bs && nat_le (digits_value 10 (unsigned bs)) (integer_most bs) then Some (integer_value bs) else None

-- the digits before the point, or all where there is none
abbrev pub whole_of : List ℕ → List ℕ
whole_of bs = take (prefix_len (λ b. not (b == 46)) (unsigned bs)) (unsigned bs)

-- the digits behind the point
abbrev pub fraction_of : List ℕ → List ℕ
fraction_of bs = drop (prefix_len (λ b. not (b == 46)) (unsigned bs) + 1) (unsigned bs)

-- a decimal: an optional sign, and digits, optionally with a point among them, before it or behind it; one digit at least
abbrev pub is_decimal : List ℕ → Bool
is_decimal bs = (list_all is_digit (whole_of bs) && list_all is_digit (fraction_of bs)) && nat_lt 0 (length (whole_of bs) + length (fraction_of bs))

-- the size of a decimal with six digits at most behind the point, in millionths
abbrev pub millionths_of : List ℕ → ℕ
millionths_of bs = digits_value 10 (whole_of bs) * 10 ^ 6 + digits_value 10 (fraction_of bs) * 10 ^ (6 - length (fraction_of bs))

-- its value in millionths, where the bytes are a decimal of six digits at most behind the point and of two millions at most
-- in size
unfoldable pub decimal_of : List ℕ → Option ℤ
decimal_of bs =
    if is_decimal bs && (nat_le (length (fraction_of bs)) 6 && nat_le (millionths_of bs) (2 * 10 ^ 12)) then Some (with_sign bs (millionths_of bs)) else None
