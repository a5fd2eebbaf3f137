-- The order of the entries of a table, and of the out pins of a path.
use Rattle.std.specs.Prelude.{◌≡◌, ℕ, List, map}
use Rattle.std.specs.List.{AllByRecursion as Each}
use Rattle.std.specs.List.Sorted.{IsStrictlySortedBy}
use Rattle.std.specs.Cmp.Lexicographic.{slice_cmp}
use Rattle.std.specs.Ordering.{nat_cmp}
use Rattle.std.specs.declared.cmp.Ordering.TheVariants.{Less}
use Rattle.toml.specs.Data.{Members, no_members, member}
use Rattle.cell_table.specs.declared.paths.OutPin.{OutPin}
use Rattle.cell_table.specs.declared.paths.ScanPath.{ScanPath}
use Rattle.cell_table.specs.Cells.{Cells}

-- each name is below those behind it
abbrev pub AboveAll : List ℕ → Members → Type 0
AboveAll n no_members = Unit {0}
AboveAll n (member k d ms) = (slice_cmp nat_cmp n k ≡ Less) × AboveAll n ms

-- the names of a table's entries ascend by their bytes
abbrev pub Ascending : Members → Type 0
Ascending no_members = Unit {0}
Ascending (member n d ms) = AboveAll n ms × Ascending ms

-- names ascend by their bytes
abbrev pub AreAscending : List (List ℕ) → Type 0
AreAscending names = IsStrictlySortedBy (slice_cmp nat_cmp) names

-- the names of some out pins
abbrev pub out_names : List OutPin → List (List ℕ)
out_names outs = map (λ out. out.pin) outs

-- the out pins of a path ascend by their bytes
abbrev pub HasOutsInOrder : ScanPath → Type 0
HasOutsInOrder path = AreAscending (out_names path.outs)

-- so do those of each path of each cell
abbrev pub HaveOutsInOrder : Cells → Type 0
HaveOutsInOrder cells = Each (λ cell. Each HasOutsInOrder cell.1) cells
