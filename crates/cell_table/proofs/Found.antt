-- A cell is found by its name among cells that stand in the order of their names.
use Rattle.std.proofs.Common.{◌≡◌, ◌⊎◌, inl, inr, ◌<◌, ◌≤◌, ◌+◌, ℕ, zero, suc, Bool, true, false, cond, List, [], ◌∷◌, ◌++◌, map, length, Some, None, Less, Equal, Greater, nat_cmp, is_eq, is_lt, refl, sym, ap, ◌∙◌, slice_index_or}
use native.Mathlib.Omega.{arith}
use Rattle.std.proofs.lemmas.Bool.{cases_lt}
use Rattle.std.proofs.lemmas.Cmp.{nat_list_cmp_total}
use Rattle.std.proofs.lemmas.List.Sorted.{searchable_from_sorted}
use Rattle.std.proofs.lemmas.Map.Text.{is_eq-slice_cmp}
use Rattle.std.specs.Cmp.Lexicographic.{slice_cmp, nat_list_eq_equiv}
use Rattle.std.specs.declared.cmp.Ordering.{Ordering}
use Rattle.std.specs.List.{AllByRecursion}
use Rattle.std.specs.List.Sorted.{IsStrictlySortedBy, IsNonDecreasingBy, IsPartitionPoint}
use Rattle.std.specs.Map.{lookup}
use Rattle.std.specs.Ordering.{ordering_index, ordering_reverse}
use Rattle.std.specs.Str.{bytes_eq}
use Rattle.cell_table.specs.declared.table.Cell.{Cell}
use Rattle.cell_table.specs.Kept.{cells_view, AreInOrder}

-- how a cell's name stands to a name that is looked for
abbrev pub against : List ℕ → Cell → Ordering
against q c = slice_cmp nat_cmp c.name q

pub one_in_order : (cells old : List Cell) (cell : Cell) → old ≡ [] → cells ≡ old ++ cell ∷ [] → AreInOrder cells
unfolding IsStrictlySortedBy
one_in_order cells old cell none is = rw (is, none) (tt, tt)

same_test : (q : List ℕ) (c : Cell) → bytes_eq q c.name ≡ is_eq (against q c)
same_test q c = nat_list_eq_equiv.symm q c.name ∙ sym (is_eq-slice_cmp c.name q)

all_at : (P : List ℕ → Type 0) (cells : List Cell) (at : ℕ) (d : Cell) → AllByRecursion P (map (λ c. c.name) cells) → at < length cells → P (slice_index_or cells at d).name
all_at P [] at d all within = absurd omega arith
all_at P (c ∷ cs) zero d all within = all.0
all_at P (c ∷ cs) (suc at) d all within = all_at P cs at d all.1 omega arith

-- the cell at which the search ends is the first of that name
pub found : (q : List ℕ) (cells : List Cell) (at : ℕ) (d : Cell) → AreInOrder cells → at < length cells → against q (slice_index_or cells at d) ≡ Equal
    → lookup (bytes_eq q) (cells_view cells) ≡ Some (slice_index_or cells at d).paths
unfolding IsStrictlySortedBy
found q [] at d sorted within same = absurd omega arith
found q (c ∷ cs) zero d sorted within same =
    let here : bytes_eq q c.name ≡ true = same_test q c ∙ ap is_eq same in
    ap (λ (b : Bool). cond b (Some c.paths) (lookup (bytes_eq q) (cells_view cs))) here
found q (c ∷ cs) (suc at) d sorted within same =
    let less : slice_cmp nat_cmp c.name (slice_index_or cs at d).name ≡ Less = all_at (λ n. slice_cmp nat_cmp c.name n ≡ Less) cs at d sorted.0 omega arith in
    let there = (slice_index_or cs at d).name in
    let behind : slice_cmp nat_cmp q c.name ≡ Greater = sym (nat_list_cmp_total.congr there q c.name same) ∙ nat_list_cmp_total.antisymm there c.name ∙ ap ordering_reverse less in
    let before : against q c ≡ Less = nat_list_cmp_total.antisymm c.name q ∙ ap ordering_reverse behind in
    let other : bytes_eq q c.name ≡ false = same_test q c ∙ ap is_eq before in
    ap (λ (b : Bool). cond b (Some c.paths) (lookup (bytes_eq q) (cells_view cs))) other ∙ found q cs at d sorted.1 omega arith same

-- adjacent cells rise
rises : (cells : List Cell) (k : ℕ) (d : Cell) → AreInOrder cells → suc k < length cells → slice_cmp nat_cmp (slice_index_or cells k d).name (slice_index_or cells (suc k) d).name ≡ Less
unfolding IsStrictlySortedBy
rises [] k d sorted within = absurd omega arith
rises (c ∷ cs) zero d sorted within = all_at (λ n. slice_cmp nat_cmp c.name n ≡ Less) cs 0 d sorted.0 omega arith
rises (c ∷ cs) (suc k) d sorted within = rises cs k d sorted.1 omega arith

not_less : (cells : List Cell) (k next : ℕ) (d : Cell) → AreInOrder cells → next ≡ suc k → next < length cells → is_lt (slice_cmp nat_cmp (slice_index_or cells next d).name (slice_index_or cells k d).name) ≡ false
not_less cells k next d sorted is within =
    rw is (ap is_lt (nat_list_cmp_total.antisymm (slice_index_or cells (suc k) d).name (slice_index_or cells k d).name ∙ ap ordering_reverse (rises cells k d sorted (omega (arith, is, within)))))

searchable : (q : List ℕ) (cells : List Cell) → AreInOrder cells → IsNonDecreasingBy (λ c. ordering_index (against q c)) cells
searchable q cells sorted = searchable_from_sorted nat_list_cmp_total (λ (c : Cell). c.name) cells q (λ k d low within. not_less cells k (k + 1) d sorted (omega arith) within)

none_equal : (q : List ℕ) (cells : List Cell) → ((k : ℕ) (d : Cell) → k < length cells → is_eq (against q (slice_index_or cells k d)) ≡ false) → lookup (bytes_eq q) (cells_view cells) ≡ None
none_equal q [] none = refl
none_equal q (c ∷ cs) none =
    let other : bytes_eq q c.name ≡ false = same_test q c ∙ none 0 c omega arith in
    ap (λ (b : Bool). cond b (Some c.paths) (lookup (bytes_eq q) (cells_view cs))) other ∙ none_equal q cs (λ k d within. none (suc k) d omega arith)

parted : (q : List ℕ) (cells : List Cell) (at k : ℕ) (d : Cell) → (k < at → against q (slice_index_or cells k d) ≡ Less) → (at ≤ k → against q (slice_index_or cells k d) ≡ Greater) → (k < at) ⊎ (at ≤ k) → is_eq (against q (slice_index_or cells k d)) ≡ false
parted q cells at k d before behind (inl here) = ap is_eq (before here)
parted q cells at k d before behind (inr here) = ap is_eq (behind here)

-- where the search finds none, no cell has the name
pub not_found : (q : List ℕ) (cells : List Cell) (at : ℕ) → AreInOrder cells → (IsNonDecreasingBy (λ c. ordering_index (against q c)) cells → IsPartitionPoint (λ c. against q c ≡ Less) (λ c. against q c ≡ Greater) cells at)
    → lookup (bytes_eq q) (cells_view cells) ≡ None
not_found q cells at sorted parts =
    let point = parts (searchable q cells sorted) in
    none_equal q cells (λ k d within. parted q cells at k d (point.0 k d (omega arith)) (λ after. point.1 k d after within) (cases_lt k at))
