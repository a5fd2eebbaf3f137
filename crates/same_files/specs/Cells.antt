-- Scan cells of two netlists beside each other, each named by its instance, its scan path and its bit.
use Rattle.std.specs.Prelude.{◌≡◌, ℕ, ⊤, List, [], ◌∷◌, map, Contains, Option, Some, None}
use Rattle.std.specs.List.{slice_get}
use Rattle.std.specs.List.Sorted.{IsSorted, IsPermutation}
use Rattle.std.specs.Borrow.{Bor}
use Rattle.std.specs.declared.cmp.Ordering.{Ordering}
use Rattle.std.specs.Ordering.{nat_cmp, ordering_then}
use Rattle.std.specs.Cmp.Lexicographic.{slice_cmp}
use Rattle.netlist_core.specs.declared.netlist.Instance.{Instance}
use Rattle.netlist_core.specs.declared.netlist.Netlist.{Netlist}
use Rattle.chain_trace.specs.declared.path.BitId.{BitId}
use Rattle.path_chains.specs.Ranked.{name_of, key_of}
use Rattle.same_files.specs.Meaning.{NameSameCells}

-- the cell of an instance that may be there
abbrev pub cell_name : Option Instance → List ℕ
cell_name None = []
cell_name (Some instance) = instance.cell

-- the cell of a bit's instance
abbrev pub kind_of : Netlist → BitId → List ℕ
kind_of n bit = cell_name (slice_get n.instances bit.instance)

-- bits of one name stand on instances of one cell
abbrev pub HaveSameKinds : Netlist → Netlist → List BitId → List BitId → Type 0
HaveSameKinds n w old new = (a b : BitId) → Contains old a → Contains new b → key_of n a ≡ key_of w b → kind_of n a ≡ kind_of w b

-- the bits of two netlists are the same by name, and on instances of the same cells
pub record HaveSameScanCells (n w : Netlist) (old new : List BitId) : Type 0 where
  pub names : NameSameCells n w old new
  pub kinds : HaveSameKinds n w old new

-- what a bit is compared by: the name of its instance, its scan path, its place there, and the instance's cell
abbrev pub entry_of : Netlist → BitId → List ℕ × ℕ × ℕ × List ℕ
entry_of n bit = (name_of (slice_get n.instances bit.instance), bit.path, bit.index, kind_of n bit)

-- an entry as it lies in memory
abbrev pub seen : Bor (List ℕ) × ℕ × ℕ × Bor (List ℕ) → List ℕ × ℕ × ℕ × List ℕ
seen entry = (entry.0.now, entry.1, entry.2, entry.3.now)

-- the order of two entries
abbrev pub entry_cmp : List ℕ × ℕ × ℕ × List ℕ → List ℕ × ℕ × ℕ × List ℕ → Ordering
entry_cmp a b = ordering_then (ordering_then (ordering_then (slice_cmp nat_cmp a.0 b.0) (nat_cmp a.1 b.1)) (nat_cmp a.2 b.2)) (slice_cmp nat_cmp a.3 b.3)

-- entries in order that are those of some bits
pub record AreEntries (n : Netlist) (bits : List BitId) (entries : List (Bor (List ℕ) × ℕ × ℕ × Bor (List ℕ))) : Type 0 where
  pub sorted : IsSorted (λ a b. entry_cmp (seen a) (seen b)) entries
  pub those : IsPermutation (map (entry_of n) bits) (map seen entries)

-- no name stands twice
abbrev pub StandApart : List (List ℕ × ℕ × ℕ) → Type 0
StandApart [] = ⊤
StandApart (name ∷ names) = (¬ Contains names name) × StandApart names
