-- The numbers that digits write.
use Rattle.std.proofs.Common.{◌≡◌, ℕ, ◌+◌, ◌-◌, ◌*◌, ◌^◌, ◌<◌, ◌≤◌, true, eqb, not, min, List, [], ◌∷◌, length, take, drop, get_or, refl, ap, ◌∙◌, arith, inl, inr}
use Rattle.std.specs.List.{list_all, prefix_len}
use Rattle.std.specs.Char.{digit_value}
use Rattle.std.specs.Str.Parse.{AllDigits, digits_value}
use Rattle.std.proofs.lemmas.Bool.{cases_Bool, and_parts, leb-true}
use Rattle.std.proofs.lemmas.Str.{digit_value_digit}
use Rattle.std.proofs.lemmas.Int.Digits.{digits_value-lt, digits_value_more}
use Rattle.std.proofs.lemmas.List.{drop-drop, take_rest}
use Rattle.std.proofs.lemmas.List.Folds.{list_all_at}
use Rattle.std.proofs.Math.Nat.{pow-le-pow_right}
use Rattle.def_tokens.specs.Numbers.{is_digit, unsigned, fraction_of}

-- a digit's value
digit_is : (c : ℕ) → is_digit c ≡ true → digit_value c + 48 ≡ c
digit_is c is =
    let parts = and_parts _ _ is in
    digit_value_digit c (leb-true 48 c parts.0, leb-true c 57 parts.1)

each_digit : (ds : List ℕ) (i : ℕ) → i < length ds → list_all is_digit ds ≡ true → is_digit (get_or ds i 0) ≡ true
each_digit ds i lt all =
    elim (cases_Bool (is_digit (get_or ds i 0))) [
      | inl is ↦ is
      | inr fails ↦ let none = list_all_at is_digit ds i 0 lt fails in absurd cc
    ]

-- one digit more, where the number is held below a bound
pub one_more : (ds : List ℕ) (i m value tens digit next : ℕ) → i < length ds → list_all is_digit ds ≡ true → 57 < m → value ≡ min (digits_value 10 (take i ds)) m
    → tens ≡ min (value * 10) m → digit ≡ get_or ds i 0 - 48 → next ≡ min (tens + digit) m → next ≡ min (digits_value 10 (take (i + 1) ds)) m
one_more ds i m value tens digit next lt all large so_far tens_is digit_is' next_is =
    let more = digits_value_more 10 ds i lt in
    let is = digit_is (get_or ds i 0) (each_digit ds i lt all) in
    omega arith

all_digits : (ds : List ℕ) → list_all is_digit ds ≡ true → AllDigits 10 ds
all_digits [] all = tt
all_digits (c ∷ cs) all =
    let parts = and_parts (is_digit c) (list_all is_digit cs) all in
    let bounds = and_parts _ _ parts.0 in
    let least = leb-true 48 c bounds.0 in
    let most = leb-true c 57 bounds.1 in
    let value = digit_is c parts.0 in
    (omega arith, all_digits cs parts.1)

-- six digits write less than a million
pub six_digits : (ds : List ℕ) → list_all is_digit ds ≡ true → length ds ≤ 6 → digits_value 10 ds < 10 ^ 6
six_digits ds all short =
    let small = digits_value-lt 10 ds (all_digits ds all) in
    let most : 10 ^ length ds ≤ 10 ^ 6 = pow-le-pow_right (omega arith) short in
    omega arith

-- what stands behind the byte at a place
pub behind_point : (ds rest : List ℕ) (n : ℕ) → rest ≡ drop n ds → take (length rest - 1) (drop 1 rest) ≡ drop (n + 1) ds
behind_point ds rest n cut = take_rest rest 1 ∙ ap (λ (x : List ℕ). drop 1 x) cut ∙ drop-drop 1 n ds

pub no_point : (ds rest : List ℕ) (n : ℕ) → rest ≡ drop n ds → length rest < 1 → rest ≡ drop (n + 1) ds
no_point ds [] n cut short = ap (λ (x : List ℕ). drop 1 x) cut ∙ drop-drop 1 n ds
no_point ds (b ∷ bs) n cut short = absurd (omega arith)

pub fraction_is : (bs ds : List ℕ) (n : ℕ) → ds ≡ unsigned bs → n ≡ prefix_len (λ b. not (eqb b 46)) ds → drop (n + 1) ds ≡ fraction_of bs
fraction_is bs ds n same count = rw (count, same) refl
