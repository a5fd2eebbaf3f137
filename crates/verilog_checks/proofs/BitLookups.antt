-- Which names are those of bits of declared vectors.
use Rattle.std.proofs.Common.{◌≡◌, ℕ, zero, suc, ◌+◌, ◌-◌, ◌<◌, ◌≤◌, Bool, true, false, cond, ◌&&◌, ◌||◌, List, [], ◌∷◌, Option, Some, None, is_some, inl, inr, ⊎_elim, refl, sym, ap, ◌∙◌, arith}
use Rattle.std.specs.Prelude.{◌==◌}
use Rattle.std.specs.List.{list_any}
use Rattle.std.specs.Str.{bytes_eq}
use Rattle.std.proofs.lemmas.Bool.{cases_eq, cases_Bool, false_from_ne_true, and_parts}
use Rattle.std.proofs.lemmas.Bool.Decides.{nat_tests}
use Rattle.base_types.proofs.TruthValues.{bytes_same, bytes_are, bytes_turned, or_true, and_false, same_truth}
use Rattle.verilog_names.specs.declared.bounds.Bounds.{Bounds}
use Rattle.verilog_names.specs.declared.declared.First.{First}
use Rattle.verilog_names.specs.Values.{bit_name}
use Rattle.verilog_names.specs.Declarations.{Declaration, has, width, has_index, offset, index_at, indexes_from, indexes, is_named, first_of, bounds_or_none, bounds_in, selects}
use Rattle.verilog_checks.specs.Checks.{has_bit_in, are_bits}
use Rattle.verilog_names.specs.NameTables.{first_kept, kept_bounds}
use Rattle.verilog_checks.specs.Seen.{is_small, have_small, is_bit}
use Rattle.verilog_checks.proofs.AnyLemmas.{any_same, any_and, any_swap}
use Rattle.verilog_checks.proofs.BitNames.{IsNoBit, same_bit}
use Rattle.verilog_checks.proofs.Firsts.{bounds_is, declared_is}

-- some index of a vector, or none
pub none_from : (f : ℕ → Bool) (b : Bounds) (k n : ℕ) → ((m : ℕ) → m < k + n → f (index_at b m) ≡ false) → list_any f (indexes_from b k n) ≡ false
none_from f b k zero h = refl
none_from f b k (suc n) h = ap (λ t. t || list_any f (indexes_from b (k + 1) n)) (h k (omega arith)) ∙ none_from f b (k + 1) n (λ m lt. h m (omega arith))

pub some_from : (f : ℕ → Bool) (b : Bounds) (k n m : ℕ) → k ≤ m → m < k + n → f (index_at b m) ≡ true → list_any f (indexes_from b k n) ≡ true
some_from f b k zero m le lt e = absurd (omega arith)
some_from f b k (suc n) m le lt e =
    ⊎_elim
    (λ (is : m ≡ k). ap (λ t. t || list_any f (indexes_from b (k + 1) n)) (sym (ap (λ j. f (index_at b j)) is) ∙ e))
    (λ (ne : m ≡ k → ⊥). ap (λ t. f (index_at b k) || t) (some_from f b (k + 1) n m (omega arith) (omega arith) e) ∙ or_true (f (index_at b k)))
    (cases_eq m k)

-- indexes lie within the bounds
index_within : (b : Bounds) (m : ℕ) → m < width b → has_index b (index_at b m) ≡ true
index_within b m lt = grind (arith, nat_tests)

index_found : (b : Bounds) (i : ℕ) → has_index b i ≡ true → index_at b (offset b i) ≡ i
index_found b i e = grind (arith, nat_tests)

offset_within : (b : Bounds) (i : ℕ) → has_index b i ≡ true → offset b i < width b
offset_within b i e = grind (arith, nat_tests)

within_small : (b : Bounds) (i : ℕ) → is_small (Some b) ≡ true → has_index b i ≡ true → i ≤ 65535
within_small b i low e = grind (arith, nat_tests)

index_small : (b : Bounds) (m : ℕ) → is_small (Some b) ≡ true → m < width b → index_at b m ≤ 65535
index_small b m low lt = within_small b (index_at b m) low (index_within b m lt)

pub eq_true : (m n : ℕ) → (m == n) ≡ true → m ≡ n
eq_true m n e = grind (arith, nat_tests)

true_eq : (m n : ℕ) → m ≡ n → (m == n) ≡ true
true_eq m n e = grind (arith, nat_tests)

pub has_is : (b : Bounds) (i : ℕ) → list_any (λ j. j == i) (indexes b) ≡ has_index b i
has_is b i =
    elim (cases_Bool (has_index b i)) [
      | inl there ↦ some_from (λ j. j == i) b 0 (width b) (offset b i) (omega arith) (omega (arith, offset_within b i there)) (true_eq (index_at b (offset b i)) i (index_found b i there)) ∙ sym there
      | inr absent ↦
          none_from (λ j. j == i) b 0 (width b)
          (λ m lt. false_from_ne_true (index_at b m == i) (λ e. let wrong = sym absent ∙ sym (ap (has_index b) (eq_true (index_at b m) i e)) ∙ index_within b m (omega arith) in absurd cc))
          ∙ sym absent
    ]

pub same_from : (f g : ℕ → Bool) (b : Bounds) (k n : ℕ) → ((m : ℕ) → m < k + n → f (index_at b m) ≡ g (index_at b m)) → list_any f (indexes_from b k n) ≡ list_any g (indexes_from b k n)
same_from f g b k zero h = refl
same_from f g b k (suc n) h = ap (λ t. t || list_any f (indexes_from b (k + 1) n)) (h k (omega arith)) ∙ ap (λ t. g (index_at b k) || t) (same_from f g b (k + 1) n (λ m lt. h m (omega arith)))

bit_test : (v : List ℕ) (i j : ℕ) → i ≤ 65535 → j ≤ 65535 → bytes_eq (bit_name v j) (bit_name v i) ≡ (j == i)
bit_test v i j hi hj =
    same_truth (bytes_eq (bit_name v j) (bit_name v i)) (j == i) (λ e. true_eq j i (same_bit v v j i hj hi (bytes_are (bit_name v j) (bit_name v i) e)).index)
    (λ e. bytes_same (bit_name v j) (bit_name v i) (ap (bit_name v) (eq_true j i e)))

-- a vector has a bit of a name that is its own with an index
own_bit : (v : List ℕ) (b : Bounds) (i : ℕ) → is_small (Some b) ≡ true → i ≤ 65535 → has_bit_in v (Some b) (bit_name v i) ≡ has_index b i
own_bit v b i low h =
    same_from (λ j. bytes_eq (bit_name v j) (bit_name v i)) (λ j. j == i) b 0 (width b) (λ m lt. bit_test v i (index_at b m) h (index_small b m low (omega arith))) ∙ has_is b i

-- and of no other
other_bit : (v : List ℕ) (b : Bounds) (name : List ℕ) → is_small (Some b) ≡ true → ((j : ℕ) → j ≤ 65535 → bit_name v j ≡ name → ⊥) → has_bit_in v (Some b) name ≡ false
other_bit v b name low other =
    none_from (λ j. bytes_eq (bit_name v j) name) b 0 (width b)
    (λ m lt. false_from_ne_true (bytes_eq (bit_name v (index_at b m)) name) (λ e. other (index_at b m) (index_small b m low (omega arith)) (bytes_are (bit_name v (index_at b m)) name e)))

no_bit_in : (v : List ℕ) (o : Option Bounds) (name : List ℕ) → is_small o ≡ true → IsNoBit name → has_bit_in v o name ≡ false
no_bit_in v None name low none = refl
no_bit_in v (Some b) name low none = other_bit v b name low (λ j h e. none v j h (sym e))

bit_in : (v base : List ℕ) (o : Option Bounds) (i : ℕ) → is_small o ≡ true → i ≤ 65535 → has_bit_in v o (bit_name base i) ≡ (bytes_eq v base && selects o i)
bit_in v base None i low h = sym (and_false (bytes_eq v base))
bit_in v base (Some b) i low h =
    elim (cases_Bool (bytes_eq v base)) [
      | inl same ↦
          ap (λ w. has_bit_in v (Some b) (bit_name w i)) (sym (bytes_are v base same)) ∙ own_bit v b i low h ∙ sym (ap (λ t. t && has_index b i) same)
      | inr other ↦
          other_bit v b (bit_name base i) low (λ j hj e. let wrong = bytes_same v base (same_bit v base j i hj h e).vector in absurd cc) ∙ sym (ap (λ t. t && has_index b i) other)
    ]

pub small_bounds : (ds : List Declaration) (name : List ℕ) → have_small ds ≡ true → is_small (bounds_in ds name) ≡ true
small_bounds [] name low = refl
small_bounds (d ∷ ds) name low =
    let p = and_parts (is_small d.bounds) (have_small ds) low in
    elim (is_named name d) as (λ t. is_small (bounds_or_none (cond t (Some d) (first_of name ds))) ≡ true) [ true ↦ p.0 | false ↦ small_bounds ds name p.1 ]

pub is_no_bit : (ds : List Declaration) (name : List ℕ) → have_small ds ≡ true → IsNoBit name → is_bit ds name ≡ false
is_no_bit ds name low none = none_of ds
  where
    none_of : (es : List Declaration) → list_any (λ d. has_bit_in d.name (bounds_in ds d.name) name) es ≡ false
    none_of [] = refl
    none_of (e ∷ es) = ap (λ t. t || list_any (λ d. has_bit_in d.name (bounds_in ds d.name) name) es) (no_bit_in e.name (bounds_in ds e.name) name (small_bounds ds e.name low) none) ∙ none_of es

-- the test at a declaration, by the bounds of the vector that is looked up
at_name : (ds : List Declaration) (v base : List ℕ) (i : ℕ) → (bytes_eq v base && selects (bounds_in ds v) i) ≡ (bytes_eq v base && selects (bounds_in ds base) i)
at_name ds v base i =
    elim (cases_Bool (bytes_eq v base)) [
      | inl same ↦ ap (λ w. bytes_eq v base && selects (bounds_in ds w) i) (bytes_are v base same)
      | inr other ↦ ap (λ t. t && selects (bounds_in ds v) i) other ∙ sym (ap (λ t. t && selects (bounds_in ds base) i) other)
    ]

found_first : (o : Option First) (i : ℕ) → (is_some o && selects (kept_bounds o) i) ≡ selects (kept_bounds o) i
found_first None i = refl
found_first (Some first) i = refl

pub is_bit_of : (ds : List Declaration) (base : List ℕ) (i : ℕ) → have_small ds ≡ true → i ≤ 65535 → is_bit ds (bit_name base i) ≡ selects (bounds_in ds base) i
is_bit_of ds base i low h =
    any_same (λ d. has_bit_in d.name (bounds_in ds d.name) (bit_name base i)) (λ d. is_named base d && selects (bounds_in ds base) i) ds
    (λ d. bit_in d.name base (bounds_in ds d.name) i (small_bounds ds d.name low) h ∙ at_name ds d.name base i)
    ∙ any_and (is_named base) (selects (bounds_in ds base) i) ds
    ∙ ap (λ t. t && selects (bounds_in ds base) i) (sym (declared_is ds base))
    ∙ ap (λ o. is_some (first_kept ds base) && selects o i) (sym (bounds_is ds base))
    ∙ found_first (first_kept ds base) i
    ∙ ap (λ o. selects o i) (bounds_is ds base)

pub are_bits_is : (ds : List Declaration) (names : List (List ℕ)) → are_bits ds names ≡ list_any (is_bit ds) names
are_bits_is ds names = any_swap (λ d. has_bit_in d.name (bounds_in ds d.name)) ds names

-- a loop over the indexes of a vector that looks for one bit's name
from_turn : (f : ℕ → Bool) (b : Bounds) (k n m : ℕ) → n ≡ suc m → list_any f (indexes_from b k n) ≡ (f (index_at b k) || list_any f (indexes_from b (k + 1) m))
from_turn f b k n m e = ap (λ l. list_any f (indexes_from b k l)) e

module _ (all : List (List ℕ)) (v : List ℕ) (b : Bounds) (k : ℕ) (total : Bool) where
  abbrev pub bits_from : ℕ → Bool
  bits_from k = list_any (λ i. has all (bit_name v i)) (indexes_from b k (width b - k))

  bit_turn : k < width b → bits_from k ≡ (has all (bit_name v (index_at b k)) || bits_from (k + 1))
  bit_turn lt = from_turn (λ i. has all (bit_name v i)) b k (width b - k) (width b - (k + 1)) (omega arith)

  pub bit_passes : k < width b → has all (bit_name v (index_at b k)) ≡ false → bits_from k ≡ total → bits_from (k + 1) ≡ total
  bit_passes lt other so_far = sym (bit_turn lt ∙ ap (λ t. t || bits_from (k + 1)) other) ∙ so_far

  pub bit_fails : k < width b → has all (bit_name v (index_at b k)) ≡ true → bits_from k ≡ total → true ≡ total
  bit_fails lt there so_far = sym (bit_turn lt ∙ ap (λ t. t || bits_from (k + 1)) there) ∙ so_far

  pub bit_passed : width b ≤ k → bits_from k ≡ total → false ≡ total
  bit_passed le so_far = let none : width b - k ≡ 0 = omega arith in sym (ap (λ n. list_any (λ i. has all (bit_name v i)) (indexes_from b k n)) none) ∙ so_far

pub bits_among : (all : List (List ℕ)) (v : List ℕ) (b : Bounds) → list_any (λ i. has all (bit_name v i)) (indexes b) ≡ list_any (has_bit_in v (Some b)) all
bits_among all v b =
    any_swap (λ i other. bytes_eq other (bit_name v i)) (indexes b) all
    ∙ any_same (λ other. list_any (λ i. bytes_eq other (bit_name v i)) (indexes b)) (has_bit_in v (Some b)) all
    (λ other. any_same (λ i. bytes_eq other (bit_name v i)) (λ i. bytes_eq (bit_name v i) other) (indexes b) (λ i. bytes_turned other (bit_name v i)))
