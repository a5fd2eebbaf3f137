-- Paths as scan chains of the tester: what the checks of a STIL head give them.
use Rattle.std.specs.Prelude.{◌≡◌, ℕ, List, length, map, Option, Some}
use Rattle.base_types.specs.declared.fault.Fault.{Fault}
use Rattle.netlist_core.specs.declared.netlist.Netlist.{Netlist}
use Rattle.netlist_core.specs.Netlists.{IsNetlist}
use Rattle.cell_table.specs.Cells.{Cells}
use Rattle.chain_trace.specs.declared.path.Path.{Path}
use Rattle.stil_types.specs.declared.head.StilHead.{StilHead}
use Rattle.stil_head.specs.Heads.{DenotesHead}
use Rattle.head_checks.specs.Asked.{asked_by_head}
use Rattle.traced_paths.specs.Traced.{ArePathsOf, NameEntries}
use Rattle.head_checks.specs.Heads.{HoldsInHeads}
use Rattle.path_chains.specs.Numbered.{bits_along, HaveBits}
use Rattle.path_chains.specs.Ranked.{chains_along}
use Rattle.stil_tester.specs.Shifting.{AreChains, bit_counts}

-- each path has as many bits as its ScanLength says, and at least one; so the calls of the head's patterns fit the chains along them
pub record AreDeclared (n : Netlist) (cells : Cells) (head : StilHead) (paths : List Path) : Type 0 where
  pub lengths : map (λ path. length (bits_along n cells path).bits) paths ≡ map (λ c. c.length) head.chains
  pub bits : HaveBits n cells paths
  pub chains : AreChains (chains_along n cells paths)
  pub counts : bit_counts (chains_along n cells paths) ≡ map (λ c. c.length) head.chains

-- the paths that a head asks for are as it declares them, where its checks refused nothing
abbrev pub DeclaredLaw : Type 0
DeclaredLaw = (text : List ℕ) (head : StilHead) (n : Netlist) (cells : Cells) (paths : List Path)
    → DenotesHead text head → IsNetlist n → ArePathsOf n cells (asked_by_head head) paths → NameEntries n cells paths
    → ((fault : Fault) → HoldsInHeads n cells paths head fault → ⊥) → AreDeclared n cells head paths
