-- The size of a constant (IEEE 1364-2005, 3.5.1).
use Rattle.std.specs.Prelude.{ℕ, List, take}
use Rattle.std.specs.List.{prefix_len}
use Rattle.verilog_syntax.specs.VerilogTokens.{is_digit}
use Rattle.verilog_names.specs.Values.{decimal_value}

-- the decimal in front of the quote
abbrev pub size_digits : List ℕ → List ℕ
size_digits text = take (prefix_len is_digit text) text

-- the size of a constant, the decimal in front of its base
abbrev pub constant_size : List ℕ → ℕ
constant_size text = decimal_value (size_digits text)
