-- The values of the words of a made text: plain names and numbers.
use Rattle.std.proofs.Common.{◌≡◌, ℕ, ◌+◌, ◌*◌, ◌-◌, ◌%◌, ◌^◌, ◌<◌, ◌≤◌, true, false, eqb, List, [], ◌∷◌, length, Some, refl, arith, decimal}
use Rattle.std.specs.Prelude.{nat_le, nat_lt, pos}
use Rattle.std.specs.List.{list_all, list_any}
use Rattle.std.specs.Str.Parse.{digits_value}
use Rattle.std.proofs.lemmas.Bool.Decides.{nat_tests}
use Rattle.std.proofs.lemmas.Fmt.{decimal_is_IsNumeral}
use Rattle.std.proofs.lemmas.Bool.{and_parts}
use Rattle.base_types.specs.Names.{plain_name}
use Rattle.def_tokens.specs.Numbers.{is_digit, has_minus, unsigned, is_integer, integer_of}
use Rattle.def_layout.proofs.NumberWords.{number_number}
use Rattle.def_reader.specs.Numbers.{coordinate_of, bits_of}
use Rattle.def_reader.proofs.PlainNames.{as_written}
use Rattle.design_maker.specs.Numbers.{place_x, place_y, number_at}
use Rattle.made_law.specs.Designs.Names.{unit, unit_net, in_port, out_port, chain_name, partition_name}
use Rattle.made_law.proofs.designs.Words.{digits_of}

-- digits hold no backslash
no_backslash : (ds : List ℕ) → list_all is_digit ds ≡ true → list_any (λ b. eqb b 92) ds ≡ false
no_backslash [] all = refl
no_backslash (c ∷ cs) all =
    let h = and_parts (is_digit c) (list_all is_digit cs) all in
    let d = h.0 in
    let here : eqb c 92 ≡ false = grind (arith, nat_tests) in
    rw here (no_backslash cs h.1)

abbrev clean : (n : ℕ) → list_any (λ b. eqb b 92) (decimal n) ≡ false
clean n = no_backslash (decimal n) (digits_of n)

pub plain_unit : (i : ℕ) → plain_name (unit i) ≡ unit i
plain_unit i = as_written (unit i) (clean i)

pub plain_unit_net : (i : ℕ) → plain_name (unit_net i) ≡ unit_net i
plain_unit_net i = as_written (unit_net i) (clean i)

pub plain_in_port : (k : ℕ) → plain_name (in_port k) ≡ in_port k
plain_in_port k = as_written (in_port k) (clean k)

pub plain_out_port : (k : ℕ) → plain_name (out_port k) ≡ out_port k
plain_out_port k = as_written (out_port k) (clean k)

pub plain_chain : (k : ℕ) → plain_name (chain_name k) ≡ chain_name k
plain_chain k = as_written (chain_name k) (clean k)

pub plain_partition : (p : ℕ) → plain_name (partition_name p) ≡ partition_name p
plain_partition p = as_written (partition_name p) (clean p)

-- digits have no sign
no_sign : (ds : List ℕ) → list_all is_digit ds ≡ true → (has_minus ds ≡ false) × (unsigned ds ≡ ds)
no_sign [] all = (refl, refl)
no_sign (c ∷ cs) all =
    let d = (and_parts (is_digit c) (list_all is_digit cs) all).0 in
    let minus : eqb c 45 ≡ false = grind (arith, nat_tests) in
    let plus : eqb c 43 ≡ false = grind (arith, nat_tests) in
    (minus, rw (minus, plus) refl)

pub number_integer : (n : ℕ) → is_integer (decimal n) ≡ true
number_integer n = let s = no_sign (decimal n) (digits_of n) in rw s.1 (number_number n)

-- the value of a decimal
pub value_of : (n : ℕ) → n < 2 ^ 64 → digits_value 10 (decimal n) ≡ n
value_of n lt = (decimal_is_IsNumeral n lt).1

pub integer_is : (n : ℕ) → n < 2 ^ 31 → integer_of (decimal n) ≡ Some (pos n)
unfolding integer_of
integer_is n lt =
    let h = and_parts (list_all is_digit (decimal n)) (nat_lt 0 (length (decimal n))) (number_number n) in
    let sign = no_sign (decimal n) h.0 in
    let value = value_of n (omega (arith, lt)) in
    let most : nat_le n (2 ^ 63 - 1) ≡ true = grind (arith, nat_tests) in
    rw (sign.1, sign.0, h.0, h.1, value, most) refl

pub coordinate_is : (n : ℕ) → n < 2 ^ 31 → coordinate_of (decimal n) ≡ Some (pos n)
coordinate_is n lt =
    let below : nat_lt n (2 ^ 31) ≡ true = grind (arith, nat_tests) in
    rw (integer_is n lt, below) refl

pub bits_are : (n : ℕ) → n ≤ 262144 → bits_of (decimal n) ≡ Some n
bits_are n le =
    let least : nat_le 0 n ≡ true = grind (arith, nat_tests) in
    let most : nat_le n 262144 ≡ true = grind (arith, nat_tests) in
    rw (integer_is n (omega (arith, le)), least, most) refl

pub x_small : (i : ℕ) → place_x i < 2 ^ 31
x_small i = small (number_at (2 * i + 1))
  where
    small : (s : ℕ) → 1000 * (s % 1000) < 2 ^ 31
    small s = omega arith

pub y_small : (i : ℕ) → place_y i < 2 ^ 31
y_small i = small (number_at (2 * i + 2))
  where
    small : (s : ℕ) → 1000 * (s % 1000) < 2 ^ 31
    small s = omega arith
