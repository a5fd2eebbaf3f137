-- A decimal as a word.
use Rattle.std.proofs.Common.{◌≡◌, ℕ, zero, suc, ◌+◌, ◌-◌, ◌/◌, ◌%◌, ◌<◌, ◌≤◌, Bool, true, false, ◌&&◌, eqb, List, [], ◌∷◌, length, get_or, refl, arith, decimal}
use Rattle.std.specs.Prelude.{nat_le, nat_lt}
use Rattle.std.specs.List.{list_all}
use Rattle.std.specs.Fmt.{digits, digits_onto, digit_glyph}
use Rattle.std.proofs.lemmas.Bool.{cond_both, and_from, and_parts}
use Rattle.std.proofs.lemmas.Bool.Decides.{nat_tests}
use Rattle.std.proofs.lemmas.List.Sums.{AllPass-from_list_all}
use Rattle.token_forms.specs.Classes.{But, is_in}
use Rattle.def_tokens.specs.Numbers.{is_digit}
use Rattle.def_tokens.specs.DefTokens.{is_blank, is_black, has_end}
use Rattle.def_syntax.specs.Words.{marks, is_number}
use Rattle.def_layout.specs.Words.{is_whole}
use Rattle.def_layout.specs.SectionForms.{is_name}

digit_is : (n : ℕ) → n < 10 → is_digit (digit_glyph false n) ≡ true
digit_is n lt =
    let small : nat_lt n 10 ≡ true = grind (arith, nat_tests) in
    let here : is_digit (48 + n) ≡ true = grind (arith, nat_tests) in
    rw small here

onto_digits : (k n : ℕ) (acc : List ℕ) → list_all is_digit acc ≡ true → list_all is_digit (digits_onto k 10 false n acc) ≡ true
onto_digits zero n acc all = all
onto_digits (suc k) n acc all =
    let more = and_from (is_digit (digit_glyph false (n % 10))) (list_all is_digit acc) (digit_is (n % 10) (omega arith)) all in
    cond_both (eqb (n / 10) 0) (digit_glyph false (n % 10) ∷ acc) (digits_onto k 10 false (n / 10) (digit_glyph false (n % 10) ∷ acc)) (λ ds. list_all is_digit ds ≡ true) (λ e. more) (λ e. onto_digits k (n / 10) (digit_glyph false (n % 10) ∷ acc) more)

onto_longer : (k n : ℕ) (acc : List ℕ) → length acc ≤ length (digits_onto k 10 false n acc)
onto_longer zero n acc = omega arith
onto_longer (suc k) n acc =
    cond_both (eqb (n / 10) 0) (digit_glyph false (n % 10) ∷ acc) (digits_onto k 10 false (n / 10) (digit_glyph false (n % 10) ∷ acc)) (λ ds. length acc ≤ length ds) (λ e. omega arith) (λ e. let r = onto_longer k (n / 10) (digit_glyph false (n % 10) ∷ acc) in omega arith)

onto_some : (k n : ℕ) → 0 < length (digits_onto (suc k) 10 false n [])
onto_some k n =
    cond_both (eqb (n / 10) 0) (digit_glyph false (n % 10) ∷ []) (digits_onto k 10 false (n / 10) (digit_glyph false (n % 10) ∷ [])) (λ ds. 0 < length ds) (λ e. omega arith) (λ e. let r = onto_longer k (n / 10) (digit_glyph false (n % 10) ∷ []) in omega arith)

all_digits : (n : ℕ) → list_all is_digit (decimal n) ≡ true
unfolding digits
all_digits n = onto_digits 64 n [] refl

some_digit : (n : ℕ) → 0 < length (decimal n)
unfolding digits
some_digit n = onto_some 63 n

black_digits : (ds : List ℕ) → list_all is_digit ds ≡ true → list_all is_black ds ≡ true
black_digits [] all = refl
black_digits (c ∷ cs) all =
    let h = and_parts (is_digit c) (list_all is_digit cs) all in
    let d = h.0 in
    let here : is_black c ≡ true = grind (arith, nat_tests) in
    rw here (black_digits cs h.1)

no_end : (ds : List ℕ) → list_all is_digit ds ≡ true → has_end ds ≡ false
no_end [] all = refl
no_end (c ∷ cs) all =
    let ds = c ∷ cs in
    let last = AllPass-from_list_all is_digit ds all (length ds - 1) 0 (omega arith) in
    let end : eqb (get_or ds (length ds - 1) 0) 59 ≡ false = digit_no_end (get_or ds (length ds - 1) 0) last in
    and_false (nat_le 2 (length ds)) _ _ end
  where
    digit_no_end : (c : ℕ) → is_digit c ≡ true → eqb c 59 ≡ false
    digit_no_end c d = grind (arith, nat_tests)

    and_false : (a b c : Bool) → b ≡ false → (a && (b && c)) ≡ false
    and_false true true c e = absurd cc
    and_false true false c e = refl
    and_false false b c e = refl

pub digits_name : (ds : List ℕ) → list_all is_digit ds ≡ true → 0 < length ds → is_name ds ≡ true
digits_name [] all some = absurd (omega arith)
digits_name (c ∷ cs) all some =
    let h = and_parts (is_digit c) (list_all is_digit cs) all in
    let d = h.0 in
    let quote : eqb c 34 ≡ false = grind (arith, nat_tests) in
    let blank : is_blank c ≡ false = grind (arith, nat_tests) in
    let comment : eqb c 35 ≡ false = grind (arith, nat_tests) in
    let a : eqb c 40 ≡ false = grind (arith, nat_tests) in
    let b : eqb c 41 ≡ false = grind (arith, nat_tests) in
    let e : eqb c 43 ≡ false = grind (arith, nat_tests) in
    let f : eqb c 59 ≡ false = grind (arith, nat_tests) in
    let whole : is_whole (c ∷ cs) ≡ true = rw (quote, blank, comment, black_digits cs h.1, no_end (c ∷ cs) all) refl in
    let name : is_in (But marks) (c ∷ cs) ≡ true = rw (a, b, e, f) refl in
    rw (whole, name) refl

pub number_name : (n : ℕ) → is_name (decimal n) ≡ true
number_name n = digits_name (decimal n) (all_digits n) (some_digit n)

pub number_number : (n : ℕ) → is_number (decimal n) ≡ true
number_number n =
    let some = some_digit n in
    let lt : nat_lt 0 (length (decimal n)) ≡ true = grind (arith, nat_tests) in
    rw (all_digits n, lt) refl
