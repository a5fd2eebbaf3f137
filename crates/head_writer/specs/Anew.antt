-- What is declared of new paths is right for the written netlist (IEEE 1450-1999, ScanStructures, in this profile).
use Rattle.std.specs.Prelude.{◌≡◌, ℕ, List, [], ◌∷◌, Option}
use Rattle.base_types.specs.declared.fault.Fault.{Fault}
use Rattle.netlist_core.specs.declared.netlist.Netlist.{Netlist}
use Rattle.netlist_core.specs.Netlists.{named}
use Rattle.cell_table.specs.Cells.{Cells}
use Rattle.chain_trace.specs.declared.path.Path.{Path}
use Rattle.chain_trace.specs.Named.{IsSamePath}
use Rattle.path_links.specs.declared.sinks.Sinks.{Sinks}
use Rattle.path_links.specs.Erasure.{erased_netlist}
use Rattle.net_edit.specs.Erased.{NamedTail, without_tails}
use Rattle.def_reader.specs.declared.design.Design.{Design}
use Rattle.stil_types.specs.declared.head.StilHead.{StilHead}
use Rattle.stil_head.specs.Ends.{head_text}
use Rattle.head_checks.specs.Heads.{HoldsInHeads}
use Rattle.chain_maps.specs.Along.{HaveSameInstances}
use Rattle.head_alike.specs.Heads.{AllSayAs}
use Rattle.head_text.specs.Written.{declared}
use Rattle.head_writer.specs.Fits.{FitsPaths, AreNewFor, chains_for}

-- the module has the same name, and the same instances in the same order, by their names and cells
pub record KeepsNames (n w : Netlist) : Type 0 where
  pub name : w.«module» ≡ n.«module»
  pub instances : HaveSameInstances n w

-- netlists that are the same but for scan wiring and tails have the same names
abbrev pub KeptLaw : Type 0
KeptLaw = (n w : Netlist) (sinks : Sinks) (tails : List NamedTail) → erased_netlist sinks (without_tails tails (named w)) ≡ erased_netlist sinks (named n) → KeepsNames n w

-- paths of two netlists side by side are the same by names
abbrev pub AreSameByNames : Netlist → Netlist → List Path → List Path → Type 0
AreSameByNames n w [] [] = Unit {0}
AreSameByNames n w [] (q ∷ qs) = ⊥
AreSameByNames n w (p ∷ ps) [] = ⊥
AreSameByNames n w (p ∷ ps) (q ∷ qs) = IsSamePath n w p q × AreSameByNames n w ps qs

-- a head that says what is declared of the new paths has no fault beside the same paths of a netlist that keeps the names
abbrev pub AnewLaw : Type 0
AnewLaw = (bytes text : List ℕ) (head again : StilHead) (n w : Netlist) (cells : Cells) (d : Option Design) (paths new after : List Path)
    → FitsPaths bytes head n cells d paths → head_text bytes ≡ text → AreNewFor n cells paths new → KeepsNames n w → AreSameByNames n w new after
    → AllSayAs (declared head.chains (chains_for text head n cells paths new)) again.chains
    → (fault : Fault) → HoldsInHeads w cells after again fault → ⊥
