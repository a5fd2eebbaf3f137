-- Names in the order of their bytes.
use Rattle.std.specs.Prelude.{ℕ, List}
use Rattle.std.specs.Cmp.Lexicographic.{slice_cmp}
use Rattle.std.specs.List.Sorted.{IsSortedBy}
use Rattle.std.specs.Ordering.{nat_cmp, is_lt}

-- no name is less than the one before it
abbrev pub AreSorted : List (List ℕ) → Type 0
AreSorted names = IsSortedBy (λ a b. is_lt (slice_cmp nat_cmp a b)) names
