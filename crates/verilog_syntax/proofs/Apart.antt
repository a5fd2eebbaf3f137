-- Names, decimals and constants are told apart, from marks and from reserved words too.
use Rattle.std.proofs.Common.{◌≡◌, ℕ, Bool, true, false, ◌==◌, List, [], ◌∷◌, codes, refl, ap, arith}
use Rattle.std.specs.Str.{bytes_eq}
use Rattle.std.proofs.lemmas.Bool.Decides.{nat_tests}
use Rattle.base_types.proofs.TruthValues.{and_first, bytes_are}
use Rattle.verilog_syntax.specs.VerilogTokens.{is_digit, is_word_start}
use Rattle.verilog_syntax.specs.Words.{is_name, is_decimal, is_constant, begins_number}

-- texts that a test tells apart aren't equal
pub apart : (test : List ℕ → Bool) (w v : List ℕ) → test w ≡ true → test v ≡ false → bytes_eq w v ≡ false
apart test w v passes fails = decide (bytes_eq w v) refl
  where
    decide : (b : Bool) → bytes_eq w v ≡ b → bytes_eq w v ≡ false
    decide true e = let same = ap test (bytes_are w v e) in cc
    decide false e = e

digit_no_start : (b : ℕ) → is_digit b ≡ true → is_word_start b ≡ false
digit_no_start b e = grind (arith, nat_tests)

digit_no_slash : (b : ℕ) → is_digit b ≡ true → (b == 92) ≡ false
digit_no_slash b e = grind (arith, nat_tests)

pub number_no_name : (w : List ℕ) → begins_number w ≡ true → is_name w ≡ false
unfolding is_name
number_no_name [] e = refl
number_no_name (b ∷ bs) e = rw (digit_no_slash b e, digit_no_start b e) refl

pub constant_number : (w : List ℕ) → is_constant w ≡ true → begins_number w ≡ true
unfolding is_constant
constant_number [] e = absurd cc
constant_number (b ∷ bs) e = and_first (is_digit b) _ e

pub no_number_no_constant : (w : List ℕ) → begins_number w ≡ false → is_constant w ≡ false
unfolding is_constant
no_number_no_constant [] e = refl
no_number_no_constant (b ∷ bs) e = rw e refl

-- the token ends neither a statement nor the module
abbrev pub IsInner : List ℕ → Type 0
IsInner w = (bytes_eq w (59 ∷ []) ≡ false) × (bytes_eq w (codes "endmodule") ≡ false)

pub name_inner : (w : List ℕ) → is_name w ≡ true → IsInner w
unfolding is_name
name_inner w good = (apart is_name w (59 ∷ []) good refl, apart is_name w (codes "endmodule") good refl)

pub decimal_inner : (w : List ℕ) → is_decimal w ≡ true → IsInner w
unfolding is_decimal
decimal_inner w good = (apart is_decimal w (59 ∷ []) good refl, apart is_decimal w (codes "endmodule") good refl)

pub constant_inner : (w : List ℕ) → is_constant w ≡ true → IsInner w
unfolding is_constant
constant_inner w good = (apart is_constant w (59 ∷ []) good refl, apart is_constant w (codes "endmodule") good refl)
