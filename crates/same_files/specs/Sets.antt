-- What a netlist and patterns mean by a cell table, and what is kept of them where they are read.
use Rattle.std.specs.Prelude.{◌≡◌, ℕ, List, map, Some, None}
use Rattle.base_types.specs.declared.fault.Fault.{Fault}
use Rattle.netlist_core.specs.declared.netlist.Netlist.{Netlist}
use Rattle.cell_table.specs.Cells.{Cells}
use Rattle.cell_table.specs.Entries.{DenotesCells}
use Rattle.verilog_reader.specs.Denoted.{DenotesNetlist}
use Rattle.chain_trace.specs.declared.path.Path.{Path}
use Rattle.chain_trace.specs.declared.path.PathBits.{PathBits}
use Rattle.head_checks.specs.Asked.{asked_by_head}
use Rattle.traced_paths.specs.Traced.{ArePathsOf}
use Rattle.head_checks.specs.Heads.{HoldsInHeads}
use Rattle.path_chains.specs.Numbered.{bits_along}
use Rattle.path_chains.specs.Ranked.{key_of, bits_of_all, ranked_chains, chains_along}
use Rattle.stil_types.specs.declared.head.StilHead.{StilHead}
use Rattle.stil_head.specs.Heads.{DenotesHead}
use Rattle.stil_head.specs.Ends.{head_text}
use Rattle.stil_calls.specs.declared.judging.Judging.TheVariants.{Lengths}
use Rattle.stil_reader.specs.Sayings.{Told}
use Rattle.stil_reader.specs.Patterns.{names_in, statements_in, patterns_told}
use Rattle.stil_tester.specs.declared.chains.Chains.{Chains}
use Rattle.stil_tester.specs.Meaning.{PatternText}
use Rattle.head_alike.specs.Erased.{head_tokens}
use Rattle.declared_chains.specs.Files.{Fits}
use Rattle.same_files.specs.Meaning.{patterns_in, Means}
use Rattle.same_files.specs.Cells.{StandApart}

-- the cells of a table, a netlist, the paths of the chains that the head of the patterns declares, and the patterns on these
pub record FileSet : Type 0 where
  pub cells : Cells
  pub netlist : Netlist
  pub paths : List Path
  pub meant : PatternText

-- files mean this
pub record IsFileSet (table verilog stil : List ℕ) (set : FileSet) : Type 0 where
  pub cells_are : DenotesCells table set.cells
  pub netlist_is : DenotesNetlist verilog set.netlist
  pub means : Means set.netlist set.cells set.paths stil set.meant

-- what is kept of files that are read: the head, the netlist, the bits of each chain's path, the chains, and the names of the Patterns
pub record ReadSet : Type 0 where
  pub head : StilHead
  pub netlist : Netlist
  pub bits : List PathBits
  pub chains : Chains
  pub names : List (List ℕ)

-- each bit has a name of its own
abbrev pub AreNamed : Netlist → List PathBits → Type 0
AreNamed n bits = StandApart (map (key_of n) (bits_of_all bits))

-- these are the names of the Patterns, and nothing is wrong
pub record AreNames (told : Told) (names : List (List ℕ)) : Type 0 where
  pub are : names ≡ names_in told.says
  pub sound : told.fault ≡ None

-- the patterns that are meant, by what is kept
abbrev pub meant_by : ReadSet → List ℕ → PatternText
meant_by set stil = record {
  head = head_tokens (head_text stil);
  names = set.names;
  played = record { chains = set.chains; statements = statements_in (patterns_in set.head stil).says };
}

-- it is kept of patterns in which nothing is wrong, whose calls fit the chains
pub record ArePatternsOf (stil : List ℕ) (set : ReadSet) : Type 0 where
  pub head_is : DenotesHead stil set.head
  pub chains_are : set.chains ≡ ranked_chains set.netlist set.bits
  pub fits : Fits set.head set.chains
  pub told : patterns_told Lengths set.head stil ≡ patterns_in set.head stil
  pub sound : (patterns_in set.head stil).fault ≡ None
  pub names_are : set.names ≡ names_in (patterns_in set.head stil).says

-- and of these files
pub record IsSet (table verilog stil : List ℕ) (set : ReadSet) : Type 0 where
  pub cells : Cells
  pub paths : List Path
  pub cells_are : DenotesCells table cells
  pub netlist_is : DenotesNetlist verilog set.netlist
  pub patterns : ArePatternsOf stil set
  pub paths_are : ArePathsOf set.netlist cells (asked_by_head set.head) paths
  pub declared : (fault : Fault) → HoldsInHeads set.netlist cells paths set.head fault → ⊥
  pub bits_are : set.bits ≡ map (bits_along set.netlist cells) paths
  pub chains_are : set.chains ≡ chains_along set.netlist cells paths
