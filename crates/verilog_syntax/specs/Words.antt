-- What a token of a Verilog text is (IEEE 1364-2005, section 3), by its bytes.
use Rattle.std.specs.Prelude.{ℕ, Bool, true, false, ◌&&◌, ◌||◌, not, if◌then◌else◌, ◌==◌, List, [], ◌∷◌, ◌++◌, drop, codes}
use Rattle.std.specs.List.{list_any, list_all, prefix_len}
use Rattle.std.specs.Str.{bytes_eq}
use Rattle.verilog_syntax.specs.VerilogTokens.{is_digit}
use Rattle.verilog_syntax.specs.VerilogSplit.{is_escaped, is_based}
use Rattle.verilog_syntax.specs.Seams.{is_identifier}

-- the words that begin a declaration
abbrev pub kinds : List (List ℕ)
kinds = codes "input" ∷ codes "output" ∷ codes "inout" ∷ codes "wire" ∷ codes "tri" ∷ codes "supply0" ∷ codes "supply1" ∷ []

-- the words of the language that aren't names
abbrev pub reserved : List (List ℕ)
reserved =
    codes "module" ∷ codes "endmodule" ∷ codes "assign" ∷ codes "input" ∷ codes "output" ∷ codes "inout" ∷ codes "wire" ∷ codes "tri"
    ∷ codes "supply0" ∷ codes "supply1" ∷ []

-- the tokens that are marks
abbrev pub marks : List (List ℕ)
marks = codes "(" ∷ codes ")" ∷ codes "[" ∷ codes "]" ∷ codes "{" ∷ codes "}" ∷ codes "," ∷ codes ";" ∷ codes ":" ∷ codes "." ∷ codes "=" ∷ []

-- what is neither a name nor a number
abbrev pub no_operands : List (List ℕ)
no_operands = reserved ++ marks

-- a reserved word
abbrev pub is_reserved : List ℕ → Bool
is_reserved text = list_any (bytes_eq text) reserved

-- an identifier that isn't reserved, or an escaped identifier
unfoldable pub is_name : List ℕ → Bool
is_name [] = false
is_name (b ∷ bs) = if b == 92 then is_escaped bs else is_identifier (b ∷ bs) && not (is_reserved (b ∷ bs))

-- an unsigned decimal
unfoldable pub is_decimal : List ℕ → Bool
is_decimal [] = false
is_decimal (b ∷ bs) = is_digit b && list_all is_digit bs

-- size'base digits
unfoldable pub is_constant : List ℕ → Bool
is_constant [] = false
is_constant (b ∷ bs) = is_digit b && is_based (drop (prefix_len is_digit bs) bs)

-- any token will do
abbrev pub any : List ℕ → Bool
any text = true

-- a name, or a constant
unfoldable pub is_operand : List ℕ → Bool
is_operand text = is_name text || is_constant text

-- the token begins with a digit
abbrev pub begins_number : List ℕ → Bool
begins_number [] = false
begins_number (b ∷ bs) = is_digit b
