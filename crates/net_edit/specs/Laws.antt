-- What the edits between several paths make of a netlist.
use Rattle.std.specs.Prelude.{◌≡◌, Bool, true, ℕ, List, Contains}
use Rattle.netlist_core.specs.declared.netlist.NetId.{NetId}
use Rattle.netlist_core.specs.declared.netlist.Netlist.{Netlist}
use Rattle.netlist_core.specs.Netlists.{named, IsNetlist}
use Rattle.cell_table.specs.Cells.{Cells}
use Rattle.cell_table.specs.Entries.{HaveEachPinOnce}
use Rattle.chain_trace.specs.declared.path.Path.{Path}
use Rattle.chain_trace.specs.Paths.{IsScanPath}
use Rattle.path_links.specs.Erasure.{erased_netlist}
use Rattle.net_edit.specs.Changes.{Change, changes}
use Rattle.net_edit.specs.Rearranged.{ArePinsOnce, AreRearranged}
use Rattle.net_edit.specs.Tails.{freed_between, rewired, AreTailNames}
use Rattle.net_edit.specs.Agreement.{Placing, AgreeOnPins, AreMoved}
use Rattle.net_edit.specs.Erased.{without_tails, tails_of, scan_sinks}

-- the paths are the scan paths of their outputs, each the only one
pub record HasPath (n : Netlist) (cells : Cells) (path : Path) : Type 0 where
  pub is : IsScanPath n cells path.output path
  pub only : (other : Path) → IsScanPath n cells path.output other → other ≡ path

-- the outputs have the new paths
abbrev pub PathsLaw : Type 0
PathsLaw = (n : Netlist) (cells : Cells) (names : List (List ℕ)) (old new : List Path) → IsNetlist n → AreRearranged n cells old new
    → (path : Path) → Contains new path → HasPath (rewired n cells names old new) cells path

-- with names for the tails it is a netlist
abbrev pub NetlistLaw : Type 0
NetlistLaw = (n : Netlist) (cells : Cells) (names : List (List ℕ)) (old new : List Path) → IsNetlist n → AreRearranged n cells old new
    → AreTailNames n (freed_between n cells old new) names → IsNetlist (rewired n cells names old new)

-- but for the scan sinks of the old paths and the tails it is the one that was read, where each output whose source changes
-- is one of the scan sinks
abbrev pub ErasedLaw : Type 0
ErasedLaw = (n : Netlist) (cells : Cells) (names : List (List ℕ)) (old new : List Path) (free : NetId → Bool) → IsNetlist n → AreRearranged n cells old new
    → AreTailNames n (freed_between n cells old new) names → ((c : Change) → Contains (changes old new) c → free c.port ≡ true)
    → erased_netlist (scan_sinks n cells free old) (without_tails (tails_of n cells (freed_between n cells old new) names) (named (rewired n cells names old new)))
    ≡ erased_netlist (scan_sinks n cells free old) (named n)

-- what is joined agrees with a design whose moved sinks stand in the nets of their new sources
abbrev pub AgreeLaw : Type 0
AgreeLaw = (n : Netlist) (cells : Cells) (names : List (List ℕ)) (old new : List Path) (before after : Placing) → IsNetlist n → AreRearranged n cells old new
    → AreMoved n cells old new before after → AgreeOnPins n before → AgreeOnPins (rewired n cells names old new) after

-- where in each cell of a table each pin stands once, so it does at each instance
abbrev pub PinsOnceLaw : Type 0
PinsOnceLaw = (n : Netlist) (cells : Cells) → HaveEachPinOnce cells → ArePinsOnce n cells
