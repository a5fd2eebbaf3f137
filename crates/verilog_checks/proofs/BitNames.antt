-- The names of bits: a base, an index and the brackets round it.
use Rattle.std.specs.Option.{IfSome}
use Rattle.std.proofs.Common.{◌≡◌, ℕ, ◌^◌, ◌<◌, ◌≤◌, Bool, true, false, ◌&&◌, ◌||◌, List, [], ◌∷◌, ◌++◌, length, get_or, decimal, Option, Some, None, MatchOption, ⊎_elim, refl, sym, ap, ◌∙◌, arith, rules}
use Rattle.std.specs.Prelude.{◌==◌, fold}
use Rattle.std.specs.List.{list_any, list_all}
use Rattle.std.proofs.lemmas.Bool.{cases_eq}
use Rattle.std.proofs.lemmas.Bool.Decides.{nat_tests}
use Rattle.std.proofs.lemmas.Str.Parse.{IsNumeralModel, numerals_by_fold}
use Rattle.std.proofs.lemmas.Fmt.{decimal_nonempty, decimal_digit, first_decimal, digits_decimal, digits_value-decimal, decimal-digits_value, decimal_injective}
use Rattle.base_types.proofs.TruthValues.{or_true}
use Rattle.verilog_syntax.specs.VerilogTokens.{is_digit}
use Rattle.verilog_names.specs.Values.{decimal_value, bit_name}
use Rattle.verilog_names.proofs.Indexes.{with_digit}

own : IsNumeralModel (λ ds. list_all is_digit ds ≡ true) decimal_value
own = numerals_by_fold _ (search rules) (fold with_digit) (search rules)

small : (i : ℕ) → i ≤ 65535 → i < 2 ^ 64
small i h = omega arith

pub not_empty : (ds : List ℕ) (i : ℕ) → length ds ≡ 0 → i ≤ 65535 → ds ≡ decimal i → ⊥
not_empty ds i none h is = let n = decimal_nonempty i (small i h) in let e = ap length is in absurd (omega arith)

pub not_zero_first : (ds : List ℕ) (i : ℕ) → 1 < length ds → get_or ds 0 0 ≡ 48 → i ≤ 65535 → ds ≡ decimal i → ⊥
not_zero_first ds i more first h is =
    ⊎_elim
    (λ (e : i ≡ 0). let one = ap length (is ∙ ap decimal e ∙ decimal_digit 0 (omega arith)) in absurd (omega arith))
    (λ (ne : i ≡ 0 → ⊥). let large = first_decimal i (omega arith) (small i h) in let same = ap (λ (l : List ℕ). get_or l 0 0) is in absurd (omega arith))
    (cases_eq i 0)

pub not_other : (ds : List ℕ) (i : ℕ) → list_all is_digit ds ≡ false → i ≤ 65535 → ds ≡ decimal i → ⊥
not_other ds i other h is = let all = digits_decimal own i (small i h) in let same = ap (list_all is_digit) is in cc

pub not_big : (ds : List ℕ) (i : ℕ) → 65535 < decimal_value ds → i ≤ 65535 → ds ≡ decimal i → ⊥
not_big ds i big h is = let value = digits_value-decimal own i (small i h) in let same = ap decimal_value is in absurd (omega arith)

pub plain_is : (ds : List ℕ) (v : ℕ) → list_all is_digit ds ≡ true → 0 < length ds → (get_or ds 0 0 ≡ 48 → length ds ≡ 1) → v ≤ 65535 → decimal_value ds ≡ v → ds ≡ decimal v
plain_is ds v all some first h is =
    let low : decimal_value ds < 2 ^ 64 = omega arith in
    sym (decimal-digits_value own ds all some first low) ∙ ap decimal is

abbrev pub IsPlain : List ℕ → Option ℕ → Type 0
IsPlain ds r = MatchOption r ((i : ℕ) → i ≤ 65535 → ds ≡ decimal i → ⊥) (λ i. (i ≤ 65535) × (ds ≡ decimal i))

pub plain_value : (ds : List ℕ) (r : Option ℕ) → list_all is_digit ds ≡ true → 0 < length ds → (get_or ds 0 0 ≡ 48 → length ds ≡ 1)
    → MatchOption r (65535 < decimal_value ds) (λ v. decimal_value ds ≡ v) → IfSome r (λ v. v ≤ 65535) → IsPlain ds r
plain_value ds None all some first value low = λ i h is. not_big ds i value h is
plain_value ds (Some v) all some first value low = (low, plain_is ds v all some first low value)

-- a list has a [
abbrev pub has_open : List ℕ → Bool
has_open bs = list_any (λ b. b == 91) bs

digit_no_open : (c : ℕ) → is_digit c ≡ true → (c == 91) ≡ false
digit_no_open c e = grind (arith, nat_tests)

digits_no_open : (ds : List ℕ) → list_all is_digit ds ≡ true → has_open ds ≡ false
digits_no_open [] e = refl
digits_no_open (d ∷ ds) e =
    let p = parts (is_digit d) (list_all is_digit ds) e in
    ap (λ (b : Bool). b || has_open ds) (digit_no_open d p.0) ∙ digits_no_open ds p.1
  where
    parts : (a b : Bool) → (a && b) ≡ true → (a ≡ true) × (b ≡ true)
    parts true b e = (refl, e)
    parts false b e = absurd cc

pub decimal_no_open : (i : ℕ) → i ≤ 65535 → has_open (decimal i) ≡ false
decimal_no_open i h = digits_no_open (decimal i) (digits_decimal own i (small i h))

has_open_at : (xs ys : List ℕ) → has_open (xs ++ 91 ∷ ys) ≡ true
has_open_at [] ys = refl
has_open_at (x ∷ xs) ys = ap (λ (b : Bool). (x == 91) || b) (has_open_at xs ys) ∙ or_true (x == 91)

-- the last [ cuts a list in one way
pub record SameCut (xs ys us vs : List ℕ) : Type 0 where
  pub front : xs ≡ us
  pub back : ys ≡ vs

pub last_cut : (xs ys us vs : List ℕ) → has_open ys ≡ false → has_open vs ≡ false → xs ++ 91 ∷ ys ≡ us ++ 91 ∷ vs → SameCut xs ys us vs
last_cut [] ys [] vs f g e = record { front = refl; back = cc }
last_cut [] ys (u ∷ us) vs f g e = let there = has_open_at us vs in let same : ys ≡ us ++ 91 ∷ vs = cc in let k = ap has_open same in absurd cc
last_cut (x ∷ xs) ys [] vs f g e = let there = has_open_at xs ys in let same : xs ++ 91 ∷ ys ≡ vs = cc in let k = ap has_open same in absurd cc
last_cut (x ∷ xs) ys (u ∷ us) vs f g e =
    let first : x ≡ u = cc in
    let rest : xs ++ 91 ∷ ys ≡ us ++ 91 ∷ vs = cc in
    let cut = last_cut xs ys us vs f g rest in
    record { front = ap (λ (y : ℕ). y ∷ xs) first ∙ ap (λ (l : List ℕ). u ∷ l) cut.front; back = cut.back }

-- the byte at the end
last_same : (xs ys : List ℕ) (x y : ℕ) → xs ++ x ∷ [] ≡ ys ++ y ∷ [] → xs ≡ ys
last_same [] [] x y e = refl
last_same [] (b ∷ []) x y e = absurd cc
last_same [] (b ∷ c ∷ ys) x y e = absurd cc
last_same (a ∷ []) [] x y e = absurd cc
last_same (a ∷ c ∷ xs) [] x y e = absurd cc
last_same (a ∷ xs) (b ∷ ys) x y e =
    let first : a ≡ b = cc in
    let rest : xs ++ x ∷ [] ≡ ys ++ y ∷ [] = cc in
    ap (λ (c : ℕ). c ∷ xs) first ∙ ap (λ (l : List ℕ). b ∷ l) (last_same xs ys x y rest)

pub bit_parts : (base : List ℕ) (i : ℕ) → bit_name base i ≡ (base ++ 91 ∷ decimal i) ++ 93 ∷ []
bit_parts [] i = refl
bit_parts (b ∷ bs) i = ap (λ (l : List ℕ). b ∷ l) (bit_parts bs i)

-- before the closing bracket
pub before_bracket : (front base : List ℕ) (i : ℕ) → front ++ 93 ∷ [] ≡ bit_name base i → front ≡ base ++ 91 ∷ decimal i
before_bracket front base i e = last_same front (base ++ 91 ∷ decimal i) 93 93 (e ∙ bit_parts base i)

abbrev pub IsNoBit : List ℕ → Type 0
IsNoBit name = (base : List ℕ) (i : ℕ) → i ≤ 65535 → name ≡ bit_name base i → ⊥

pub not_closed : (name : List ℕ) → ((front : List ℕ) → name ≡ front ++ 93 ∷ [] → ⊥) → IsNoBit name
not_closed name none base i h e = none (base ++ 91 ∷ decimal i) (e ∙ bit_parts base i)

pub not_open : (name front : List ℕ) → name ≡ front ++ 93 ∷ [] → has_open front ≡ false → IsNoBit name
not_open name front closed none base i h e =
    let there = has_open_at base (decimal i) in
    let same = ap has_open (before_bracket front base i (sym closed ∙ e)) in
    let f : false ≡ true = sym none ∙ same ∙ there in absurd cc

pub not_plain : (name front start digits : List ℕ) → name ≡ front ++ 93 ∷ [] → front ≡ start ++ 91 ∷ digits → has_open digits ≡ false → ((i : ℕ) → i ≤ 65535 → digits ≡ decimal i → ⊥) → IsNoBit name
not_plain name front start digits closed is none other base i h e =
    other i h (last_cut start digits base (decimal i) none (decimal_no_open i h) (sym is ∙ before_bracket front base i (sym closed ∙ e))).back

-- a name is that of one bit only
pub record IsSameBit (base other : List ℕ) (i j : ℕ) : Type 0 where
  pub vector : base ≡ other
  pub index : i ≡ j

pub same_bit : (base other : List ℕ) (i j : ℕ) → i ≤ 65535 → j ≤ 65535 → bit_name base i ≡ bit_name other j → IsSameBit base other i j
same_bit base other i j hi hj e =
    let cut = last_cut base (decimal i) other (decimal j) (decimal_no_open i hi) (decimal_no_open j hj) (last_same (base ++ 91 ∷ decimal i) (other ++ 91 ∷ decimal j) 93 93 (sym (bit_parts base i) ∙ e ∙ bit_parts other j)) in
    record { vector = cut.front; index = decimal_injective i j (small i hi) (small j hj) cut.back }
