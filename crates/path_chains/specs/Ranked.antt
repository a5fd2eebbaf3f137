-- The numbers of bits by their order: the name of the instance, then the scan path, then the bit.
use Rattle.std.specs.Prelude.{ℕ, Bool, List, [], map, length, Option, Some, None, count_by}
use Rattle.std.specs.List.{flat_map, slice_get}
use Rattle.std.specs.Borrow.{Bor}
use Rattle.std.specs.declared.cmp.Ordering.{Ordering}
use Rattle.std.specs.Ordering.{is_lt, nat_cmp, ordering_then}
use Rattle.std.specs.Cmp.Lexicographic.{slice_cmp}
use Rattle.netlist_core.specs.declared.netlist.Instance.{Instance}
use Rattle.netlist_core.specs.declared.netlist.Netlist.{Netlist}
use Rattle.netlist_core.specs.Netlists.{IsNetlist}
use Rattle.chain_trace.specs.declared.path.BitId.{BitId}
use Rattle.chain_trace.specs.declared.path.PathBits.{PathBits}
use Rattle.chain_trace.specs.declared.path.Path.{Path}
use Rattle.chain_trace.specs.Paths.{StandOnce}
use Rattle.net_edit.specs.Rearranged.{steps_of}
use Rattle.cell_table.specs.Cells.{Cells}
use Rattle.stil_tester.specs.declared.chains.Chains.{Chains}
use Rattle.path_chains.specs.Numbered.{IsNumbering, bits_along, chain_of, bits_of_paths}

-- the name of an instance that may be there
abbrev pub name_of : Option Instance → List ℕ
name_of None = []
name_of (Some instance) = instance.name

-- what a bit is ordered by: the name of its instance, its scan path, and its place there
abbrev pub key_of : Netlist → BitId → List ℕ × ℕ × ℕ
key_of n bit = (name_of (slice_get n.instances bit.instance), bit.path, bit.index)

-- a key as it lies in memory
abbrev pub seen : Bor (List ℕ) × ℕ × ℕ → List ℕ × ℕ × ℕ
seen key = (key.0.now, key.1, key.2)

-- the order of two keys: by the bytes of the names, then by the scan paths, then by the places
abbrev pub key_cmp : List ℕ × ℕ × ℕ → List ℕ × ℕ × ℕ → Ordering
key_cmp a b = ordering_then (ordering_then (slice_cmp nat_cmp a.0 b.0) (nat_cmp a.1 b.1)) (nat_cmp a.2 b.2)

-- whether one bit comes before another
abbrev pub comes_before : Netlist → BitId → BitId → Bool
comes_before n a b = is_lt (key_cmp (key_of n a) (key_of n b))

-- how many of the bits come before one
abbrev pub rank_of : Netlist → List BitId → BitId → ℕ
rank_of n bits bit = count_by (λ other. comes_before n other bit) bits

-- the bits of several paths, in order
abbrev pub bits_of_all : List PathBits → List BitId
bits_of_all paths = flat_map (λ path. path.bits) paths

-- the chains of paths' bits, each bit numbered by its rank among all of them
abbrev pub ranked_chains : Netlist → List PathBits → Chains
ranked_chains n paths = record { chains = map (chain_of (rank_of n (bits_of_all paths))) paths; cells = length (bits_of_all paths) }

-- the scan chains along paths, their cells numbered by the names of the instances, then by scan path and bit
abbrev pub chains_along : Netlist → Cells → List Path → Chains
chains_along n cells paths = ranked_chains n (map (bits_along n cells) paths)

-- the bits of paths whose steps stand once are numbered by their ranks
abbrev pub RankLaw : Type 0
RankLaw = (n : Netlist) (cells : Cells) (paths : List Path) → IsNetlist n → StandOnce (steps_of paths)
    → IsNumbering (rank_of n (bits_of_paths n cells paths)) (length (bits_of_paths n cells paths)) (bits_of_paths n cells paths)
