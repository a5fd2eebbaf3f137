-- The words of a made text: decimals, and a few letters with a decimal behind them.
use Rattle.std.proofs.Common.{◌≡◌, ℕ, ◌-◌, ◌<◌, Bool, true, false, ◌&&◌, not, eqb, List, [], ◌∷◌, length, get_or, refl, arith, decimal}
use Rattle.std.specs.Prelude.{nat_le}
use Rattle.std.specs.List.{list_all}
use Rattle.std.proofs.lemmas.Bool.Decides.{nat_tests}
use Rattle.std.proofs.lemmas.List.Sums.{AllPass-from_list_all}
use Rattle.std.proofs.lemmas.Bool.{and_parts}
use Rattle.token_forms.specs.Classes.{But, is_in}
use Rattle.def_tokens.specs.Numbers.{is_digit}
use Rattle.def_tokens.specs.DefTokens.{is_blank, is_black, has_end}
use Rattle.def_syntax.specs.Words.{marks}
use Rattle.def_layout.specs.Words.{is_whole}
use Rattle.def_layout.proofs.NumberWords.{number_name, number_number}
use Rattle.made_law.specs.Designs.Names.{unit, unit_net, in_port, out_port, chain_name, partition_name}

pub digits_of : (n : ℕ) → list_all is_digit (decimal n) ≡ true
digits_of n = (and_parts (list_all is_digit (decimal n)) _ (number_number n)).0

pub number_whole : (n : ℕ) → is_whole (decimal n) ≡ true
number_whole n = (and_parts (is_whole (decimal n)) (is_in (But marks) (decimal n)) (number_name n)).0

pub number_free : (n : ℕ) → is_in (But marks) (decimal n) ≡ true
number_free n = (and_parts (is_whole (decimal n)) (is_in (But marks) (decimal n)) (number_name n)).1

-- digits are no blanks, and end no statement
black_digits : (ds : List ℕ) → list_all is_digit ds ≡ true → list_all is_black ds ≡ true
black_digits [] all = refl
black_digits (c ∷ cs) all =
    let h = and_parts (is_digit c) (list_all is_digit cs) all in
    let d = h.0 in
    let here : is_black c ≡ true = grind (arith, nat_tests) in
    rw here (black_digits cs h.1)

abbrev plain : ℕ → Bool
plain b = not (eqb b 59)

plain_digits : (ds : List ℕ) → list_all is_digit ds ≡ true → list_all plain ds ≡ true
plain_digits [] all = refl
plain_digits (c ∷ cs) all =
    let h = and_parts (is_digit c) (list_all is_digit cs) all in
    let d = h.0 in
    let here : plain c ≡ true = grind (arith, nat_tests) in
    rw here (plain_digits cs h.1)

and_false : (a b c : Bool) → not b ≡ true → (a && (b && c)) ≡ false
and_false true true c e = absurd cc
and_false true false c e = refl
and_false false b c e = refl

no_end : (w : List ℕ) → 0 < length w → list_all plain w ≡ true → has_end w ≡ false
no_end w some all = and_false (nat_le 2 (length w)) (eqb (get_or w (length w - 1) 0) 59) _ (AllPass-from_list_all plain w all (length w - 1) 0 (omega arith))

-- bytes that begin no comment and no text in quotes, are no blanks and hold no semicolon
run_whole : (b : ℕ) (bs : List ℕ) → eqb b 34 ≡ false → is_blank b ≡ false → eqb b 35 ≡ false → list_all is_black bs ≡ true → list_all plain (b ∷ bs) ≡ true → is_whole (b ∷ bs) ≡ true
run_whole b bs quote blank comment black ends = rw (quote, blank, comment, black, no_end (b ∷ bs) (omega arith) ends) refl

abbrev black_of : (n : ℕ) → list_all is_black (decimal n) ≡ true
black_of n = black_digits (decimal n) (digits_of n)

abbrev plain_of : (n : ℕ) → list_all plain (decimal n) ≡ true
plain_of n = plain_digits (decimal n) (digits_of n)

pub unit_whole : (i : ℕ) → is_whole (unit i) ≡ true
unit_whole i = run_whole 117 (decimal i) refl refl refl (black_of i) (plain_of i)

pub unit_net_whole : (i : ℕ) → is_whole (unit_net i) ≡ true
unit_net_whole i = run_whole 113 (decimal i) refl refl refl (black_of i) (plain_of i)

pub in_port_whole : (k : ℕ) → is_whole (in_port k) ≡ true
in_port_whole k = run_whole 115 (105 ∷ decimal k) refl refl refl (black_of k) (plain_of k)

pub out_port_whole : (k : ℕ) → is_whole (out_port k) ≡ true
out_port_whole k = run_whole 115 (111 ∷ decimal k) refl refl refl (black_of k) (plain_of k)

pub chain_whole : (k : ℕ) → is_whole (chain_name k) ≡ true
chain_whole k = run_whole 99 (decimal k) refl refl refl (black_of k) (plain_of k)

pub partition_whole : (p : ℕ) → is_whole (partition_name p) ≡ true
partition_whole p = run_whole 80 (decimal p) refl refl refl (black_of p) (plain_of p)
