-- Texts that are the decimals of numbers.
use Rattle.std.proofs.Common.{◌≡◌, ◌<◌, ◌≤◌, ◌+◌, ◌-◌, ℕ, zero, suc, Bool, true, false, ◌||◌, List, refl, sym, ap, ◌∙◌, arith}
use Rattle.std.specs.Prelude.{decimal, get_or}
use Rattle.std.specs.List.{list_any, range_with_len}
use Rattle.std.specs.Str.{bytes_eq}
use Rattle.std.proofs.lemmas.Slice.Eq.{bytes_eq-Decides}
use Rattle.std.proofs.lemmas.List.Folds.{list_any_at}
use Rattle.std.proofs.lemmas.List.FromFn.{length-range_with_len, get_or-range_with_len}
use Rattle.scan_words.specs.Form.{Text}
use Rattle.scan_words.specs.Table.{is_number}

-- the number of such a text
pub record IsNumber (low high : ℕ) (value : Text) : Type 0 where
  pub number : ℕ
  pub least : low ≤ number
  pub most : number ≤ high
  pub is : value ≡ decimal number

among : (value : Text) (a n high : ℕ) → a + n ≤ high + 1 → list_any (λ number. bytes_eq value (decimal number)) (range_with_len a n) ≡ true → IsNumber a high value
among value a zero high within h = absurd cc
among value a (suc n) high within h = cases (bytes_eq value (decimal a)) refl h (λ k. among value (a + 1) n high (omega (arith, within)) k)
  where
    cases : (b : Bool) → bytes_eq value (decimal a) ≡ b → (b || list_any (λ number. bytes_eq value (decimal number)) (range_with_len (a + 1) n)) ≡ true
        → (list_any (λ number. bytes_eq value (decimal number)) (range_with_len (a + 1) n) ≡ true → IsNumber (a + 1) high value) → IsNumber a high value
    cases true e k behind = record { number = a; least = omega arith; most = omega (arith, within); is = (bytes_eq-Decides value (decimal a)).0 e }
    cases false e k behind =
        let later = behind k in
        record { number = later.number; least = let least = later.least in omega (arith, least); most = later.most; is = later.is }

-- a text that passes the test has its number
pub number_in : (low high : ℕ) (value : Text) → low ≤ high → is_number low high value ≡ true → IsNumber low high value
unfolding is_number
number_in low high value order h = among value low (high + 1 - low) high (omega (arith, order)) h

-- the decimal of a number passes it
pub passes : (low high number : ℕ) (value : Text) → low ≤ number → number ≤ high → value ≡ decimal number → is_number low high value ≡ true
unfolding is_number
passes low high number value least most is =
    list_any_at (λ k. bytes_eq value (decimal k)) (range_with_len low (high + 1 - low)) (number - low) 0
    (rw (length-range_with_len low (high + 1 - low)) (omega (arith, least, most)))
    (rw (get_or-range_with_len low (high + 1 - low) (number - low) 0 (omega (arith, least, most))) (same (low + (number - low)) (omega (arith, least))))
  where
    same : (k : ℕ) → k ≡ number → bytes_eq value (decimal k) ≡ true
    same k e = (bytes_eq-Decides value (decimal k)).1 (is ∙ ap decimal (sym e))
