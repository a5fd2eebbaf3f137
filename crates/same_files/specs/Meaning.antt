-- What a STIL text means on the scan chains of a netlist, and bits of two netlists that are the same by name.
use Rattle.std.specs.Prelude.{◌≡◌, ◌↔◌, ℕ, List, map, drop, Contains, Some, None}
use Rattle.base_types.specs.declared.fault.Fault.{Fault}
use Rattle.netlist_core.specs.declared.netlist.Netlist.{Netlist}
use Rattle.cell_table.specs.Cells.{Cells}
use Rattle.chain_trace.specs.declared.path.BitId.{BitId}
use Rattle.chain_trace.specs.declared.path.Path.{Path}
use Rattle.head_checks.specs.Asked.{asked_by_head}
use Rattle.traced_paths.specs.Traced.{ArePathsOf}
use Rattle.head_checks.specs.Heads.{HoldsInHeads}
use Rattle.path_chains.specs.Ranked.{key_of, rank_of, chains_along}
use Rattle.stil_types.specs.declared.head.StilHead.{StilHead}
use Rattle.stil_head.specs.Heads.{DenotesHead}
use Rattle.stil_head.specs.Ends.{head_text}
use Rattle.stil_calls.specs.declared.judging.Judging.TheVariants.{Lengths}
use Rattle.stil_reader.specs.Sayings.{Told}
use Rattle.stil_reader.specs.Patterns.{behind_head, names_in, statements_in}
use Rattle.stil_tester.specs.Meaning.{PatternText}
use Rattle.stil_written.specs.Unbounded.{says_free}
use Rattle.head_alike.specs.Erased.{head_tokens}

-- what a text says behind its head, whatever its size
abbrev pub patterns_in : StilHead → List ℕ → Told
patterns_in head stil = says_free Lengths head (behind_head head stil) (drop head.end stil)

-- A text means these patterns on some paths of a netlist: the paths are those of the chains that its head declares, the declarations
-- are right for them (ports, lengths, inversions, cells), and behind the head stand the patterns without fault. What is played is played on
-- the chains along the paths, their cells numbered by the names of the instances.
pub record Means (n : Netlist) (cells : Cells) (paths : List Path) (stil : List ℕ) (meant : PatternText) : Type 0 where
  pub head : StilHead
  pub head_is : DenotesHead stil head
  pub paths_are : ArePathsOf n cells (asked_by_head head) paths
  pub declared : (fault : Fault) → HoldsInHeads n cells paths head fault → ⊥
  pub sound : (patterns_in head stil).fault ≡ None
  pub is : meant ≡ record {
    head = head_tokens (head_text stil);
    names = names_in (patterns_in head stil).says;
    played = record { chains = chains_along n cells paths; statements = statements_in (patterns_in head stil).says };
  }

-- the bits of some paths of two netlists are the same by name (instance, scan path, place), and each has the same number in both
pub record NameSameCells (n w : Netlist) (old new : List BitId) : Type 0 where
  pub there : (key : List ℕ × ℕ × ℕ) → (Contains (map (key_of n) old) key ↔ Contains (map (key_of w) new) key)
  pub numbers : (a b : BitId) → Contains old a → Contains new b → key_of n a ≡ key_of w b → rank_of n old a ≡ rank_of w new b
