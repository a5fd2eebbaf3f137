-- What is declared of new paths fits the head that was read (IEEE 1450-1999, ScanStructures, in this profile).
use Rattle.std.specs.Prelude.{◌≡◌, ℕ, ◌≤◌, List, map, length, Some, None, Option, ⊤}
use Rattle.std.specs.List.{AllByRecursion as Each}
use Rattle.base_types.specs.declared.fault.Fault.{Fault}
use Rattle.base_types.specs.declared.span.Span.{Span}
use Rattle.netlist_core.specs.declared.netlist.Netlist.{Netlist}
use Rattle.netlist_core.specs.Netlists.{IsNetlist}
use Rattle.cell_table.specs.Cells.{Cells}
use Rattle.chain_trace.specs.declared.path.Path.{Path}
use Rattle.net_edit.specs.Rearranged.{AreRearranged}
use Rattle.def_reader.specs.declared.design.Design.{Design}
use Rattle.stil_types.specs.declared.head.ScanChainDecl.{ScanChainDecl}
use Rattle.stil_types.specs.declared.head.StilHead.{StilHead}
use Rattle.stil_head.specs.Ends.{head_text}
use Rattle.stil_head.specs.Heads.{IsHead, DenotesHead}
use Rattle.head_chains.specs.Asked.{asked_by}
use Rattle.traced_paths.specs.Traced.{ArePathsOf, NameEntries}
use Rattle.traced_paths.specs.Bits.{all_bits}
use Rattle.head_checks.specs.Heads.{HoldsInHeads}
use Rattle.path_chains.specs.Numbered.{bits_along, HaveBits}
use Rattle.head_text.specs.Written.{NewChain, name_read, name_texts}
use Rattle.head_text.specs.Laws.{read_names, FitChains}
use Rattle.head_writer.specs.NewChains.{new_chains}

-- the list of a chain's cells stands at its place: the bytes of each name there are read as the name
abbrev pub AreNamesAt : List ℕ → Option (List (List ℕ)) → Option Span → Type 0
AreNamesAt text None None = ⊤
AreNamesAt text None (Some at) = ⊥
AreNamesAt text (Some names) None = ⊥
AreNamesAt text (Some names) (Some at) = map name_read (name_texts text at) ≡ names

-- so it is with each chain of a head
abbrev pub NamesLaw : Type 0
NamesLaw = (text : List ℕ) (head : StilHead) → IsHead text head → Each (λ (c : ScanChainDecl). AreNamesAt text c.cells c.cells_at) head.chains

-- a text that ends where its head ends is the head's text
abbrev pub OwnLaw : Type 0
OwnLaw = (text : List ℕ) (head : StilHead) → DenotesHead text head → head.end ≡ length text → head_text text ≡ text

-- the head of a STIL text, and the paths of a netlist that it asks for; its checks refused nothing
pub record FitsPaths (bytes : List ℕ) (head : StilHead) (n : Netlist) (cells : Cells) (d : Option Design) (paths : List Path) : Type 0 where
  pub denotes : DenotesHead bytes head
  pub netlist : IsNetlist n
  pub traced : ArePathsOf n cells (asked_by d (Some head)) paths
  pub entries : NameEntries n cells paths
  pub right : (fault : Fault) → HoldsInHeads n cells paths head fault → ⊥

-- new paths have the steps of the read ones, each once, between the same ports, and each has a bit
pub record AreNewFor (n : Netlist) (cells : Cells) (paths new : List Path) : Type 0 where
  pub rearranged : AreRearranged n cells paths new
  pub entries : NameEntries n cells new
  pub bits : HaveBits n cells new

-- what the head is to declare of the new paths
abbrev pub chains_for : List ℕ → StilHead → Netlist → Cells → List Path → List Path → List NewChain
chains_for text head n cells paths new = new_chains text head (map (bits_along n cells) paths) (map (bits_along n cells) new)

-- the declarations of the new paths fit the head: each has a bit, 32 bits count its bits, and where ScanCells stood each bit has a name
abbrev pub FitLaw : Type 0
FitLaw = (bytes text : List ℕ) (head : StilHead) (n : Netlist) (cells : Cells) (d : Option Design) (paths new : List Path)
    → FitsPaths bytes head n cells d paths → head_text bytes ≡ text → AreNewFor n cells paths new → all_bits n cells paths ≤ 262144
    → FitChains (read_names text head.chains) head.chains (chains_for text head n cells paths new)
