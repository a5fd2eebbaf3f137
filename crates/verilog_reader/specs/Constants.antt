-- The bits of a constant (IEEE 1364-2005, 3.5.1).
use Rattle.std.specs.Prelude.{ℕ, zero, suc, ◌+◌, ◌-◌, ◌/◌, ◌%◌, Bool, ◌||◌, not, nat_le, ◌==◌, if◌then◌else◌, List, [], ◌∷◌, ◌++◌, length, drop, replicate, filter}
use Rattle.std.specs.List.{flat_map, prefix_len}
use Rattle.verilog_syntax.specs.VerilogTokens.{is_digit, is_unknown}
use Rattle.netlist_core.specs.declared.netlist.Bit.{Bit}
use Rattle.netlist_core.specs.declared.netlist.Bit.TheVariants.{Zero, One, Unknown}
use Rattle.verilog_names.specs.Values.{decimal_value}
use Rattle.verilog_checks.specs.ConstantSizes.{constant_size}

-- behind the quote: the base letter, or 0 where none stands
abbrev pub letter_of : List ℕ → ℕ
letter_of [] = 0
letter_of (letter ∷ digits) = letter

-- the letter of a constant's base
abbrev pub constant_base : List ℕ → ℕ
constant_base text = letter_of (drop (prefix_len is_digit text + 1) text)

-- the digits behind the base letter, without the underscores between them
abbrev pub constant_digits : List ℕ → List ℕ
constant_digits text = filter (λ c. not (c == 95)) (drop (prefix_len is_digit text + 2) text)

-- a number as a bit
abbrev pub bit_of : ℕ → Bit
bit_of v = if v == 0 then Zero else One

-- the last n bits of a number, from the left
abbrev pub value_bits : ℕ → ℕ → List Bit
value_bits zero v = []
value_bits (suc n) v = value_bits n (v / 2) ++ bit_of (v % 2) ∷ []

-- how many bits a digit has; of a decimal it has no number
abbrev pub digit_width : ℕ → ℕ
digit_width base = if base == 98 || base == 66 then 1 else (if base == 111 || base == 79 then 3 else 4)

-- the base is decimal
abbrev pub is_decimal_base : ℕ → Bool
is_decimal_base base = base == 100 || base == 68

-- the value of a digit 0 to 9, a to f or A to F
abbrev pub digit_value : ℕ → ℕ
digit_value c = if nat_le c 57 then c - 48 else (if nat_le c 70 then c - 55 else c - 87)

-- a digit's bits; those of x, z and ? are unknown
abbrev pub digit_bits : ℕ → ℕ → List Bit
digit_bits width c = if is_unknown c then replicate width Unknown else value_bits width (digit_value c)

-- what stands in front of the digits: zeros, or unknown bits where the first digit is one
abbrev pub fill_of : List ℕ → Bit
fill_of [] = Zero
fill_of (c ∷ cs) = if is_unknown c then Unknown else Zero

-- the last so many bits, with missing ones in front
abbrev pub fitted : ℕ → Bit → List Bit → List Bit
fitted size fill bits = replicate (size - length bits) fill ++ drop (length bits - size) bits

-- the last so many bits of the number that these digits write, from the left
abbrev pub bits_in : ℕ → ℕ → List ℕ → List Bit
bits_in size base digits =
    if is_decimal_base base then value_bits size (decimal_value digits)
    else fitted size (fill_of digits) (flat_map (digit_bits (digit_width base)) digits)

-- the bits of a constant, from the left
unfoldable pub constant_bits : List ℕ → List Bit
constant_bits text = bits_in (constant_size text) (constant_base text) (constant_digits text)
