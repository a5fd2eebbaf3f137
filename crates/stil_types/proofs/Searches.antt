-- A name among others in the order of their bytes.
use Rattle.std.proofs.Common.{◌≡◌, ◌⊎◌, inl, inr, ◌<◌, ◌≤◌, ℕ, suc, Bool, true, false, ◌||◌, List, [], ◌∷◌, length, Less, Equal, Greater, nat_cmp, is_eq, is_lt, refl, sym, ap, ◌∙◌, slice_index_or}
use native.Mathlib.Omega.{arith}
use Rattle.std.proofs.lemmas.Bool.{cases_lt}
use Rattle.std.proofs.lemmas.Cmp.{nat_list_cmp_total}
use Rattle.std.proofs.lemmas.List.Folds.{list_any_at}
use Rattle.std.proofs.lemmas.List.Sorted.{searchable_from_sorted, ranks_by}
use Rattle.std.proofs.lemmas.Map.Text.{is_eq-slice_cmp}
use Rattle.std.specs.Cmp.{IsStrictWeakOrder}
use Rattle.std.specs.Cmp.Lexicographic.{slice_cmp, nat_list_eq_equiv}
use Rattle.std.specs.declared.cmp.Ordering.{Ordering}
use Rattle.std.specs.List.Sorted.{IsNonDecreasingBy, IsPartitionPoint}
use Rattle.std.specs.Ordering.{ordering_index}
use Rattle.std.specs.Str.{bytes_eq}
use Rattle.stil_types.specs.Callees.{is_known}
use Rattle.stil_types.specs.Sorted.{AreSorted}

-- a name comes before another
abbrev pub comes_before : List ℕ → List ℕ → Bool
comes_before a b = is_lt (slice_cmp nat_cmp a b)

pub is_order : IsStrictWeakOrder comes_before
is_order = ranks_by nat_list_cmp_total (λ (n : List ℕ). n)

-- how a name stands to one that is looked for
abbrev pub against : List ℕ → List ℕ → Ordering
against q n = slice_cmp nat_cmp n q

same_test : (q n : List ℕ) → bytes_eq q n ≡ is_eq (against q n)
same_test q n = nat_list_eq_equiv.symm q n ∙ sym (is_eq-slice_cmp n q)

pub found : (q : List ℕ) (names : List (List ℕ)) (at : ℕ) → at < length names → against q (slice_index_or names at q) ≡ Equal → is_known names q ≡ true
found q names at within same = list_any_at (bytes_eq q) names at q within (same_test q (slice_index_or names at q) ∙ ap is_eq same)

none_equal : (q : List ℕ) (names : List (List ℕ)) → ((k : ℕ) (d : List ℕ) → k < length names → is_eq (against q (slice_index_or names k d)) ≡ false) → is_known names q ≡ false
none_equal q [] none = refl
none_equal q (n ∷ ns) none =
    ap (λ (b : Bool). b || is_known ns q) (same_test q n ∙ none 0 n omega arith) ∙ none_equal q ns (λ k d within. none (suc k) d omega arith)

parted : (q : List ℕ) (names : List (List ℕ)) (at k : ℕ) (d : List ℕ) → (k < at → against q (slice_index_or names k d) ≡ Less) → (at ≤ k → against q (slice_index_or names k d) ≡ Greater) → (k < at) ⊎ (at ≤ k) → is_eq (against q (slice_index_or names k d)) ≡ false
parted q names at k d before behind (inl here) = ap is_eq (before here)
parted q names at k d before behind (inr here) = ap is_eq (behind here)

-- where the search finds none, it isn't there
pub not_found : (q : List ℕ) (names : List (List ℕ)) (at : ℕ) → AreSorted names → (IsNonDecreasingBy (λ n. ordering_index (against q n)) names → IsPartitionPoint (λ n. against q n ≡ Less) (λ n. against q n ≡ Greater) names at)
    → is_known names q ≡ false
not_found q names at sorted parts =
    let point = parts (searchable_from_sorted nat_list_cmp_total (λ (n : List ℕ). n) names q sorted) in
    none_equal q names (λ k d within. parted q names at k d (point.0 k d (omega arith)) (λ after. point.1 k d after within) (cases_lt k at))
