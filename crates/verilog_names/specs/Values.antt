-- Names and numbers as values (IEEE 1364-2005, 3.5.1 and 3.7).
use Rattle.std.specs.Prelude.{ℕ, ◌+◌, ◌-◌, ◌*◌, Bool, ◌&&◌, not, nat_lt, ◌==◌, if◌then◌else◌, List, [], ◌∷◌, ◌++◌, take, fold, decimal}
use Rattle.std.specs.List.{prefix_len}
use Rattle.verilog_syntax.specs.VerilogTokens.{is_blank}
use Rattle.verilog_syntax.specs.Seams.{is_identifier}
use Rattle.verilog_syntax.specs.Words.{is_reserved}

-- a name without its escape: without the leading backslash and the blank behind it
abbrev pub unescaped : List ℕ → List ℕ
unescaped [] = []
unescaped (b ∷ bs) = if b == 92 then take (prefix_len (λ c. not (is_blank c)) bs) bs else b ∷ bs

-- the value of a decimal
abbrev pub decimal_value : List ℕ → ℕ
decimal_value digits = fold (λ n d. n * 10 + (d - 48)) 0 digits

-- the greatest index
abbrev pub is_big_index : List ℕ → Bool
is_big_index digits = nat_lt 65535 (decimal_value digits)

-- the plain name of a bit of a vector
abbrev pub bit_name : List ℕ → ℕ → List ℕ
bit_name name index = name ++ (91 ∷ (decimal index ++ 93 ∷ []))

-- the text of a name: itself where it is a plain identifier and no word of the language, else escaped, with a blank behind
abbrev pub name_text : List ℕ → List ℕ
name_text name = if is_identifier name && not (is_reserved name) then name else 92 ∷ (name ++ 32 ∷ [])
