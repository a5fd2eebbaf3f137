-- The numbers in a made STIL.
use Rattle.std.proofs.Common.{◌≡◌, ℕ, ◌+◌, ◌-◌, ◌*◌, ◌^◌, ◌<◌, ◌≤◌, true, min, List, [], ◌∷◌, length, decimal, Some, refl, ap, ◌∙◌, arith}
use Rattle.std.specs.Prelude.{nat_le}
use Rattle.std.specs.List.{list_all}
use Rattle.std.specs.Str.Parse.{AllDigits, digits_value_after}
use Rattle.std.specs.Char.{digit_value}
use Rattle.std.proofs.lemmas.Bool.Decides.{nat_tests}
use Rattle.std.proofs.lemmas.Fmt.{decimal_is_IsNumeral, decimal_nonempty}
use Rattle.std.proofs.lemmas.Str.{digit_value_digit}
use Rattle.std.proofs.lemmas.Str.Parse.{digit_from_value}
use Rattle.stil_syntax.specs.Digits.{is_digit, counted, count_from}
use Rattle.stil_blocks.specs.Chains.{length_of}
use Rattle.design_maker.specs.Chains.{chain_length}
use Rattle.made_law.specs.Designs.Names.{in_port, out_port, chain_name}
use Rattle.made_law.proofs.patterns.Plain.{is_letter, Plain, plain_word}

value_grows : (n : ℕ) (ds : List ℕ) → n ≤ digits_value_after 10 n ds
value_grows n [] = omega arith
value_grows n (c ∷ cs) = let k = value_grows (n * 10 + digit_value c) cs in omega (arith, k)

all_digits : (ds : List ℕ) → AllDigits 10 ds → list_all is_digit ds ≡ true
all_digits [] d = refl
all_digits (c ∷ cs) d =
    let r = digit_from_value c d.0 in
    let low : nat_le 48 c ≡ true = grind (arith, nat_tests) in
    let high : nat_le c 57 ≡ true = grind (arith, nat_tests) in
    rw (low, high) (all_digits cs d.1)

all_letters : (ds : List ℕ) → AllDigits 10 ds → list_all is_letter ds ≡ true
all_letters [] d = refl
all_letters (c ∷ cs) d =
    let r = digit_from_value c d.0 in
    let low : nat_le 48 c ≡ true = grind (arith, nat_tests) in
    let high : nat_le c 57 ≡ true = grind (arith, nat_tests) in
    rw (low, high) (all_letters cs d.1)

value_counts : (ds : List ℕ) (n : ℕ) → AllDigits 10 ds → digits_value_after 10 n ds < 2 ^ 64 → count_from n ds ≡ digits_value_after 10 n ds
value_counts [] n d few = refl
value_counts (c ∷ cs) n d few =
    let k = value_grows (n * 10 + digit_value c) cs in
    let v = digit_value_digit c (digit_from_value c d.0) in
    let e : counted n c ≡ n * 10 + digit_value c = omega (arith, k, v, few) in
    ap (λ (m : ℕ). count_from m cs) e ∙ value_counts cs (n * 10 + digit_value c) d.1 few

pub length_back : (n : ℕ) → 0 < n → n < 2 ^ 32 → length_of (decimal n) ≡ Some n
length_back n some few =
    let k = decimal_is_IsNumeral n (omega arith) in
    let digits = all_digits (decimal n) k.0.1 in
    let value = k.1 in
    let counts : count_from 0 (decimal n) ≡ n = value_counts (decimal n) 0 k.0.1 (omega (arith, value)) ∙ value in
    let one : nat_le 1 n ≡ true = grind (arith, nat_tests) in
    let least : min n (2 ^ 32 - 1) ≡ n = omega arith in
    rw (digits, counts, one, least) refl

-- a decimal is of letters, and of one at least
pub decimal_letters : (n : ℕ) → n < 2 ^ 64 → list_all is_letter (decimal n) ≡ true
decimal_letters n few = let k = decimal_is_IsNumeral n few in all_letters (decimal n) k.0.1

plain_some : (w : List ℕ) → 0 < length w → list_all is_letter w ≡ true → Plain w
plain_some [] some all = absurd (omega arith)
plain_some (b ∷ bs) some all = plain_word b bs all

pub decimal_plain : (n : ℕ) → n < 2 ^ 64 → Plain (decimal n)
decimal_plain n few = plain_some (decimal n) (decimal_nonempty n few) (decimal_letters n few)

pub chain_plain : (k : ℕ) → k < 8 → Plain (chain_name k)
chain_plain k lt = plain_word 99 (decimal k) (rw (decimal_letters k (omega arith)) refl)

pub in_plain : (k : ℕ) → k < 8 → Plain (in_port k)
in_plain k lt = plain_word 115 (105 ∷ decimal k) (rw (decimal_letters k (omega arith)) refl)

pub out_plain : (k : ℕ) → k < 8 → Plain (out_port k)
out_plain k lt = plain_word 115 (111 ∷ decimal k) (rw (decimal_letters k (omega arith)) refl)

-- a chain has one unit at least, and few
pub record IsLength (m : ℕ) : Type 0 where
  pub some : 0 < m
  pub few : m ≤ 2048

pub length_is : (n k : ℕ) → 8 ≤ n → n ≤ 16384 → k < 8 → IsLength (chain_length n k)
length_is n k least most lt = record { some = omega arith; few = omega arith }

pub length_plain : (n k : ℕ) → n ≤ 16384 → k < 8 → Plain (decimal (chain_length n k))
length_plain n k most lt = decimal_plain (chain_length n k) (omega arith)
