-- Decimals in front of other bytes.
use Rattle.std.proofs.Common.{◌≡◌, ℕ, ◌+◌, ◌-◌, ◌*◌, ◌<◌, ◌≤◌, ◌&&◌, List, [], ◌∷◌, ◌++◌, length, Bool, true, false, decimal, get_or, take, drop, zero, suc, refl, sym, ap, ◌∙◌, subst, arith, rules}
use Rattle.std.specs.Char.{is_ascii_digit}
use Rattle.std.specs.Str.{all_ascii_digits}
use Rattle.std.proofs.lemmas.Bool.{false≢true, and_parts}
use Rattle.std.proofs.lemmas.List.{take-append-drop, drop-drop, take_more, get_or-drop, length-drop, drop_more, drop_all}
use Rattle.std.proofs.lemmas.Fmt.{digits_decimal, digits_value-decimal, decimal-digits_value, decimal_nonempty, first_decimal, decimal_digit}
use Rattle.std.proofs.lemmas.Str.Parse.{IsNumeralModel, numerals_by_fold}
use Rattle.fail_map.specs.Logs.{most_number}
use Rattle.fail_map.specs.Rows.{value_behind, value_of, StopsDigits, HasNumber, IsNumberAt}

-- ---- digits

own : IsNumeralModel (λ ds. all_ascii_digits ds ≡ true) (value_behind 0)
own = numerals_by_fold _ (search rules) value_behind (search rules)

pub decimal_digits : (n : ℕ) → n ≤ most_number → all_ascii_digits (decimal n) ≡ true
decimal_digits n small = digits_decimal own n (omega (arith, small))

value_decimal : (n : ℕ) → n ≤ most_number → value_of (decimal n) ≡ n
value_decimal n small = digits_value-decimal own n (omega (arith, small))

decimal_value : (ds : List ℕ) → all_ascii_digits ds ≡ true → 0 < length ds → (get_or ds 0 0 ≡ 48 → length ds ≡ 1) → value_of ds ≤ most_number → decimal (value_of ds) ≡ ds
decimal_value ds all some first small = decimal-digits_value own ds all some first (omega (arith, small))

-- digits end at the first byte that is none
pub same_digits : (xs ys s t : List ℕ) → all_ascii_digits xs ≡ true → all_ascii_digits ys ≡ true → StopsDigits s → StopsDigits t → xs ++ s ≡ ys ++ t → (xs ≡ ys) × (s ≡ t)
same_digits [] [] s t a b p q e = (refl, e)
same_digits [] (y ∷ ys) [] t a b p q e = absurd cc
same_digits [] (y ∷ ys) (c ∷ s) t a b p q e =
    let same : c ≡ y = cc in
    let digit : is_ascii_digit y ≡ true = (and_parts (is_ascii_digit y) (all_ascii_digits ys) b).0 in
    absurd (false≢true (sym p ∙ ap is_ascii_digit same ∙ digit))
same_digits (x ∷ xs) [] s [] a b p q e = absurd cc
same_digits (x ∷ xs) [] s (c ∷ t) a b p q e =
    let same : c ≡ x = cc in
    let digit : is_ascii_digit x ≡ true = (and_parts (is_ascii_digit x) (all_ascii_digits xs) a).0 in
    absurd (false≢true (sym q ∙ ap is_ascii_digit same ∙ digit))
same_digits (x ∷ xs) (y ∷ ys) s t a b p q e =
    let front : x ≡ y = cc in
    let behind : xs ++ s ≡ ys ++ t = cc in
    let rest = same_digits xs ys s t (and_parts (is_ascii_digit x) (all_ascii_digits xs) a).1 (and_parts (is_ascii_digit y) (all_ascii_digits ys) b).1 p q behind in
    ((λ i. front i ∷ rest.0 i), rest.1)

-- the number that stands in front, and what stands behind it
pub same_number : (n m : ℕ) (s t : List ℕ) → n ≤ most_number → m ≤ most_number → StopsDigits s → StopsDigits t → decimal n ++ s ≡ decimal m ++ t → (n ≡ m) × (s ≡ t)
same_number n m s t k l p q e =
    let both = same_digits (decimal n) (decimal m) s t (decimal_digits n k) (decimal_digits m l) p q e in
    (sym (value_decimal n k) ∙ ap value_of both.0 ∙ value_decimal m l, both.1)

-- ---- the values of digits

pub value_grows : (n : ℕ) (ds : List ℕ) → n ≤ value_behind n ds
value_grows n [] = omega arith
value_grows n (d ∷ ds) = omega (arith, value_grows (n * 10 + (d - 48)) ds)

pub value_parts : (n : ℕ) (xs ys : List ℕ) → value_behind n (xs ++ ys) ≡ value_behind (value_behind n xs) ys
value_parts n [] ys = refl
value_parts n (x ∷ xs) ys = value_parts (n * 10 + (x - 48)) xs ys

-- one digit more
pub value_more : (ds : List ℕ) (i : ℕ) → i < length ds → value_of (take (i + 1) ds) ≡ value_of (take i ds) * 10 + (get_or ds i 0 - 48)
value_more ds i l = ap value_of (take_more ds i 0 l) ∙ value_parts 0 (take i ds) (get_or ds i 0 ∷ [])

-- the whole is no less than a part from the front
pub value_least : (ds : List ℕ) (i : ℕ) → value_of (take i ds) ≤ value_of ds
value_least ds i = omega (arith, value_grows (value_of (take i ds)) (drop i ds), value_parts 0 (take i ds) (drop i ds), ap value_of (take-append-drop i ds))

pub digit_at : (ds : List ℕ) (i : ℕ) → all_ascii_digits ds ≡ true → i < length ds → (48 ≤ get_or ds i 0) × (get_or ds i 0 ≤ 57)
digit_at [] i all l = absurd (omega arith)
digit_at (d ∷ ds) zero all l = let digit : is_ascii_digit d ≡ true = (and_parts (is_ascii_digit d) (all_ascii_digits ds) all).0 in grind arith
digit_at (d ∷ ds) (suc i) all l = digit_at ds i (and_parts (is_ascii_digit d) (all_ascii_digits ds) all).1 (omega arith)

-- ---- a decimal at a place

-- digits without a leading zero that say no too great number are a decimal
pub is_number : (bytes : List ℕ) (at end number : ℕ) (digits : List ℕ) → at ≤ end → end ≤ length bytes → digits ≡ take (end - at) (drop at bytes) → all_ascii_digits digits ≡ true → 0 < length digits
    → (get_or digits 0 0 ≡ 48 → length digits ≡ 1) → at < end → number ≡ value_of digits → number ≤ most_number → StopsDigits (drop end bytes) → IsNumberAt bytes at number end
is_number bytes at end number digits l m e all some first some' v small stops = record {
  some = some';
  within = m;
  small = small;
  stops = stops;
  is = sym (take-append-drop (end - at) (drop at bytes))
      ∙ ap (λ xs. xs ++ drop (end - at) (drop at bytes)) (sym e ∙ sym (decimal_value digits all some first (omega (arith, v, small))) ∙ ap decimal (sym v))
      ∙ ap (λ xs. decimal number ++ xs) (drop-drop (end - at) at bytes ∙ ap (λ k. drop k bytes) (omega (arith, l)));
}

-- a decimal in front is just the digits there
pub its_digits : (bytes : List ℕ) (at end : ℕ) (digits : List ℕ) → at ≤ end → digits ≡ take (end - at) (drop at bytes) → all_ascii_digits digits ≡ true → StopsDigits (drop end bytes) → (h : HasNumber (drop at bytes))
    → decimal h.number ≡ digits
its_digits bytes at end digits l e all stops h =
    let parts : drop at bytes ≡ digits ++ drop end bytes
    = sym (take-append-drop (end - at) (drop at bytes)) ∙ ap (λ xs. xs ++ drop (end - at) (drop at bytes)) (sym e) ∙ ap (λ xs. digits ++ xs) (drop-drop (end - at) at bytes ∙ ap (λ k. drop k bytes) (omega (arith, l))) in
    (same_digits (decimal h.number) digits h.tail (drop end bytes) (decimal_digits h.number h.small) all h.stops stops (sym h.is ∙ parts)).0

pub no_empty : (n : ℕ) (digits : List ℕ) → n ≤ most_number → decimal n ≡ digits → length digits ≡ 0 → ⊥
no_empty n digits small e none = omega (arith, decimal_nonempty n (omega (arith, small)), ap length e, none)

pub no_leading_zero : (n : ℕ) (digits : List ℕ) → n ≤ most_number → decimal n ≡ digits → 1 < length digits → get_or digits 0 0 ≡ 48 → ⊥
no_leading_zero zero digits small e long first = omega (arith, ap length e, ap length (decimal_digit 0 (omega arith)), long)
no_leading_zero (suc n) digits small e long first = omega (arith, first_decimal (suc n) (omega arith) (omega (arith, small)), ap (λ ds. get_or ds 0 0) e, first)

pub no_greater : (n : ℕ) (digits : List ℕ) → n ≤ most_number → decimal n ≡ digits → most_number < value_of digits → ⊥
no_greater n digits small e great = omega (arith, value_decimal n small, ap value_of e, small, great)

-- one digit more stands there
pub digits_more : (bytes : List ℕ) (at end : ℕ) → at ≤ end → end < length bytes → all_ascii_digits (take (end - at) (drop at bytes)) ≡ true → is_ascii_digit (get_or bytes end 0) ≡ true → all_ascii_digits (take (end + 1 - at) (drop at bytes)) ≡ true
digits_more bytes at end l m all digit =
    let there : get_or (drop at bytes) (end - at) 0 ≡ get_or bytes end 0 = get_or-drop at bytes (end - at) 0 ∙ ap (λ k. get_or bytes k 0) (omega (arith, l)) in
    ap (λ k. all_ascii_digits (take k (drop at bytes))) (omega (arith, l))
    ∙ ap all_ascii_digits (take_more (drop at bytes) (end - at) 0 (omega (arith, length-drop at bytes, l, m)))
    ∙ digits_push (take (end - at) (drop at bytes)) (get_or (drop at bytes) (end - at) 0) all (ap is_ascii_digit there ∙ digit)
  where
    digits_push : (xs : List ℕ) (d : ℕ) → all_ascii_digits xs ≡ true → is_ascii_digit d ≡ true → all_ascii_digits (xs ++ d ∷ []) ≡ true
    digits_push [] d a b = ap (λ (q : Bool). q && true) b
    digits_push (x ∷ xs) d a b =
        let both = and_parts (is_ascii_digit x) (all_ascii_digits xs) a in
        λ i. both.0 i && digits_push xs d both.1 b i

pub stops_there : (bytes : List ℕ) (end : ℕ) → end < length bytes → is_ascii_digit (get_or bytes end 0) ≡ false → StopsDigits (drop end bytes)
stops_there bytes end l h = subst StopsDigits (sym (drop_more bytes end 0 l)) h

pub stops_end : (bytes : List ℕ) (end : ℕ) → length bytes ≤ end → StopsDigits (drop end bytes)
stops_end bytes end g = subst StopsDigits (sym (drop_all end bytes g)) tt
