-- The name of a vector's bit tells the vector and the index.
use Rattle.std.proofs.Common.{◌≡◌, ℕ, zero, suc, ◌+◌, ◌-◌, ◌%◌, ◌^◌, ◌<◌, ◌≤◌, min, max, Bool, true, false, cond, leb, List, [], ◌∷◌, ◌++◌, map, refl, sym, ap, subst, ◌∙◌, arith}
use Rattle.std.specs.Prelude.{decimal}
use Rattle.std.proofs.lemmas.Fmt.{decimal_by_steps, decimal_injective}
use Rattle.std.proofs.lemmas.Bool.{leb-true, leb-false}
use Rattle.std.proofs.lemmas.List.{append_assoc, same_from_push}
use Rattle.std.specs.List.{AllByRecursion as Each}
use Rattle.verilog_names.specs.declared.bounds.Bounds.{Bounds}
use Rattle.verilog_names.specs.Values.{bit_name}
use Rattle.verilog_names.specs.Declarations.{width, index_at, indexes_from, indexes}
use Rattle.verilog_reader.proofs.Distinct.{IsApartFrom, Distinct, each_append, each_map}

abbrev IsNoBracket : ℕ → Type 0
IsNoBracket c = c ≡ 91 → ⊥

plain_decimal : (n : ℕ) → n < 2 ^ 64 → Each IsNoBracket (decimal n)
plain_decimal n lt =
    decimal_by_steps (λ (n : ℕ) (ds : List ℕ). Each IsNoBracket ds) (λ n small. ((λ (is : 48 + n ≡ 91). omega arith), tt))
    (λ n ds big each. each_append IsNoBracket ds ((48 + n % 10) ∷ []) each ((λ (is : 48 + n % 10 ≡ 91). omega arith), tt)) n lt

no_bracket_in : (xs ys : List ℕ) → Each IsNoBracket (xs ++ 91 ∷ ys) → ⊥
no_bracket_in [] ys each = each.0 refl
no_bracket_in (x ∷ xs) ys each = no_bracket_in xs ys each.1

record IsSplit (xs ys ds es : List ℕ) : Type 0 where
  front : xs ≡ ys
  back : ds ≡ es

head_of : (x y : ℕ) (xs ys : List ℕ) → ◌≡◌ {A = List ℕ} (x ∷ xs) (y ∷ ys) → x ≡ y
head_of x y xs ys is = cc

tail_of : (x y : ℕ) (xs ys : List ℕ) → ◌≡◌ {A = List ℕ} (x ∷ xs) (y ∷ ys) → xs ≡ ys
tail_of x y xs ys is = cc

-- at the last bracket
split : (xs ys ds es : List ℕ) → Each IsNoBracket ds → Each IsNoBracket es → xs ++ 91 ∷ ds ≡ ys ++ 91 ∷ es → IsSplit xs ys ds es
split [] [] ds es a b is = record { front = refl; back = tail_of 91 91 ds es is }
split [] (y ∷ ys) ds es a b is = absurd (no_bracket_in ys es (subst (Each IsNoBracket) (tail_of 91 y ds (ys ++ 91 ∷ es) is) a))
split (x ∷ xs) [] ds es a b is = absurd (no_bracket_in xs ds (subst (Each IsNoBracket) (sym (tail_of x 91 (xs ++ 91 ∷ ds) es is)) b))
split (x ∷ xs) (y ∷ ys) ds es a b is =
    let rest = split xs ys ds es a b (tail_of x y (xs ++ 91 ∷ ds) (ys ++ 91 ∷ es) is) in
    let first = head_of x y (xs ++ 91 ∷ ds) (ys ++ 91 ∷ es) is in
    record { front = ap (λ (z : ℕ). z ∷ xs) first ∙ ap (λ (zs : List ℕ). y ∷ zs) rest.front; back = rest.back }

pub record IsSameBit (a b : List ℕ) (i j : ℕ) : Type 0 where
  pub vector : a ≡ b
  pub index : i ≡ j

pub same_bit : (a b : List ℕ) (i j : ℕ) → i < 2 ^ 64 → j < 2 ^ 64 → bit_name a i ≡ bit_name b j → IsSameBit a b i j
same_bit a b i j li lj is =
    let without = same_from_push (a ++ 91 ∷ decimal i) (b ++ 91 ∷ decimal j) 93 93 (append_assoc a (91 ∷ decimal i) (93 ∷ []) ∙ is ∙ sym (append_assoc b (91 ∷ decimal j) (93 ∷ []))) in
    let parts = split a b (decimal i) (decimal j) (plain_decimal i li) (plain_decimal j lj) without.0 in
    record { vector = parts.front; index = decimal_injective i j li lj parts.back }

-- bounds that are no fault
abbrev pub IsSmall : Bounds → Type 0
IsSmall b = (b.left ≤ 65535) × (b.right ≤ 65535)

abbrev pub IsIndex : Bounds → ℕ → Type 0
IsIndex b i = (min b.left b.right ≤ i) × (i ≤ max b.left b.right)

index_within : (b : Bounds) (k : ℕ) → k < width b → IsIndex b (index_at b k)
index_within b k lt = by (leb b.right b.left) refl
  where
    by : (t : Bool) → leb b.right b.left ≡ t → (min b.left b.right ≤ cond t (b.left - k) (b.left + k)) × (cond t (b.left - k) (b.left + k) ≤ max b.left b.right)
    by true down = (omega (arith, lt, leb-true b.right b.left down), omega (arith, lt, leb-true b.right b.left down))
    by false up = (omega (arith, lt, leb-false b.right b.left up), omega (arith, lt, leb-false b.right b.left up))

index_apart : (b : Bounds) (j k : ℕ) → j < k → k < width b → index_at b j ≡ index_at b k → ⊥
index_apart b j k lt within is = by (leb b.right b.left) refl is
  where
    by : (t : Bool) → leb b.right b.left ≡ t → cond t (b.left - j) (b.left + j) ≡ cond t (b.left - k) (b.left + k) → ⊥
    by true down is = omega (arith, lt, within, is, leb-true b.right b.left down)
    by false up is = omega (arith, lt, within, is, leb-false b.right b.left up)

pub indexes_within : (b : Bounds) (from n : ℕ) → from + n ≤ width b → Each (IsIndex b) (indexes_from b from n)
indexes_within b from zero fits = tt
indexes_within b from (suc n) fits = (index_within b from (omega (arith, fits)), indexes_within b (from + 1) n (omega (arith, fits)))

later_apart : (b : Bounds) (j from n : ℕ) → j < from → from + n ≤ width b → IsApartFrom (index_at b j) (indexes_from b from n)
later_apart b j from zero lt fits = tt
later_apart b j from (suc n) lt fits = (index_apart b j from lt (omega (arith, fits)), later_apart b j (from + 1) n (omega (arith, lt)) (omega (arith, fits)))

indexes_apart : (b : Bounds) (from n : ℕ) → from + n ≤ width b → Distinct (indexes_from b from n)
indexes_apart b from zero fits = tt
indexes_apart b from (suc n) fits = (later_apart b from (from + 1) n (omega arith) (omega (arith, fits)), indexes_apart b (from + 1) n (omega (arith, fits)))

pub small_index : (b : Bounds) (i : ℕ) → IsSmall b → IsIndex b i → i < 2 ^ 64
small_index b i small is = let low : i ≤ 65535 = omega (arith, small.0, small.1, is.1) in omega (arith, low)

bits_from : (name : List ℕ) (b : Bounds) → IsSmall b → (is : List ℕ) → Each (IsIndex b) is → Distinct is → Distinct (map (bit_name name) is)
bits_from name b small [] within apart = tt
bits_from name b small (i ∷ is) within apart = (
  each_map (λ (n : List ℕ). bit_name name i ≡ n → ⊥) (bit_name name) is (others is within.1 apart.0),
  bits_from name b small is within.1 apart.1,
)
  where
    others : (is : List ℕ) → Each (IsIndex b) is → IsApartFrom i is → Each (λ j. bit_name name i ≡ bit_name name j → ⊥) is
    others [] within apart = tt
    others (j ∷ is) more apart = (
      (λ same. apart.0 (same_bit name name i j (small_index b i small within.0) (small_index b j small more.0) same).index),
      others is more.1 apart.1,
    )

-- the bits of one vector
pub bits_apart : (name : List ℕ) (b : Bounds) → IsSmall b → Distinct (map (bit_name name) (indexes b))
bits_apart name b small = bits_from name b small (indexes b) (indexes_within b 0 (width b) (omega arith)) (indexes_apart b 0 (width b) (omega arith))
