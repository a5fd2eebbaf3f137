-- A decimal is read as its number.
use Rattle.std.proofs.Common.{◌≡◌, ℕ, ◌+◌, ◌-◌, ◌*◌, ◌^◌, ◌<◌, ◌≤◌, Bool, true, false, ◌&&◌, cond, min, List, [], ◌∷◌, length, decimal, codes, Option, Some, None, refl, sym, ap, ◌∙◌, arith}
use Rattle.std.specs.Prelude.{nat_le}
use Rattle.std.specs.List.{list_all}
use Rattle.std.specs.Str.Parse.{AllDigits, digits_value_after, digits_value}
use Rattle.std.specs.Char.{digit_value}
use Rattle.std.proofs.lemmas.Bool.Decides.{nat_tests}
use Rattle.std.proofs.lemmas.Fmt.{decimal_is_IsNumeral}
use Rattle.std.proofs.lemmas.Str.{digit_value_digit}
use Rattle.std.proofs.lemmas.Str.Parse.{digit_from_value}
use Rattle.stil_syntax.specs.Digits.{is_digit, counted, count_from}
use Rattle.stil_blocks.specs.Chains.{length_of, bit_of}
use Rattle.head_text.specs.Ready.{IsNumber}
use Rattle.head_text.specs.Written.{bit_text}

value_grows : (n : ℕ) (ds : List ℕ) → n ≤ digits_value_after 10 n ds
value_grows n [] = omega arith
value_grows n (c ∷ cs) = let k = value_grows (n * 10 + digit_value c) cs in omega (arith, k)

all_digits : (ds : List ℕ) → AllDigits 10 ds → list_all is_digit ds ≡ true
all_digits [] d = refl
all_digits (c ∷ cs) d =
    let r = digit_from_value c d.0 in
    let low : nat_le 48 c ≡ true = grind (arith, nat_tests) in
    let high : nat_le c 57 ≡ true = grind (arith, nat_tests) in
    rw (low, high) (all_digits cs d.1)

value_counts : (ds : List ℕ) (n : ℕ) → AllDigits 10 ds → digits_value_after 10 n ds < 2 ^ 64 → count_from n ds ≡ digits_value_after 10 n ds
value_counts [] n d few = refl
value_counts (c ∷ cs) n d few =
    let k = value_grows (n * 10 + digit_value c) cs in
    let v = digit_value_digit c (digit_from_value c d.0) in
    let e : counted n c ≡ n * 10 + digit_value c = omega (arith, k, v, few) in
    ap (λ (m : ℕ). count_from m cs) e ∙ value_counts cs (n * 10 + digit_value c) d.1 few

pub decimal_number : (n : ℕ) → n < 2 ^ 64 → IsNumber (decimal n)
decimal_number n few = let k = decimal_is_IsNumeral n few in record { some = k.0.0; digits = all_digits (decimal n) k.0.1 }

pub length_back : (n : ℕ) → 0 < n → n < 2 ^ 32 → length_of (decimal n) ≡ Some n
length_back n some few =
    let k = decimal_is_IsNumeral n (omega arith) in
    let digits = all_digits (decimal n) k.0.1 in
    let value = k.1 in
    let counts : count_from 0 (decimal n) ≡ n = value_counts (decimal n) 0 k.0.1 (omega (arith, value)) ∙ value in
    let one : nat_le 1 n ≡ true = grind (arith, nat_tests) in
    let least : min n (2 ^ 32 - 1) ≡ n = omega arith in
    rw (digits, counts, one, least) refl

pub bit_number : (bit : Bool) → IsNumber (bit_text bit)
bit_number true = record { some = omega arith; digits = refl }
bit_number false = record { some = omega arith; digits = refl }

pub bit_back : (bit : Bool) → bit_of (bit_text bit) ≡ Some bit
bit_back true = refl
bit_back false = refl
