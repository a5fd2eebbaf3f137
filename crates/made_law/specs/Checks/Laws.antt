-- Nothing is wrong with a made design beside its netlist, wherever the statements of both stand.
use Rattle.std.specs.Prelude.{◌≡◌, ℕ, ◌≤◌, map, Some}
use Rattle.base_types.specs.declared.fault.Fault.{Fault}
use Rattle.base_types.specs.declared.fault.FileKind.{FileKind}
use Rattle.cell_table.specs.Table.{small_cells}
use Rattle.def_reader.specs.Agreement.{HoldsInAgreement}
use Rattle.chain_rules.specs.ChainFaults.{IsRefusal}
use Rattle.design_elements.specs.Elements.{chain_specs}
use Rattle.design_elements.specs.Faults.{HoldsInElements}
use Rattle.head_chains.specs.Asked.{asked_by_chain}
use Rattle.traced_paths.specs.Traced.{ArePathsOf, HoldsInPaths}
use Rattle.path_numbers.specs.Numbers.{path_specs}
use Rattle.traced_paths.specs.Bits.{HaveTooManyBits}
use Rattle.design_places.specs.NetPins.{HoldsInNets}
use Rattle.design_places.specs.Ends.{HoldsInPlaces}
use Rattle.stil_types.specs.declared.head.StilHead.{StilHead}
use Rattle.head_checks.specs.Heads.{HoldsInHeads}
use Rattle.head_chains.specs.Chains.{HoldsInChains}
use Rattle.made_law.specs.Designs.Places.{Place, Places}
use Rattle.made_law.specs.Designs.MadeMacros.{made_macros}
use Rattle.made_law.specs.Designs.MadeChains.{made_chains}
use Rattle.made_law.specs.Designs.MadeDesign.{made_design}
use Rattle.made_law.specs.Paths.MadeNetlist.{NetlistPlaces, made_netlist}
use Rattle.made_law.specs.Checks.MadeAsked.{made_asked, made_paths}
use Rattle.made_law.specs.Checks.MadeBlocks.{BlockPlace, made_blocks}

-- no fault of the elements holds
abbrev pub ElementsLaw : Type 0
ElementsLaw = (n : ℕ) (d : Places) → 8 ≤ n → n ≤ 16384 → (fault : Fault) → HoldsInElements small_cells made_macros (made_design d n) fault → ⊥

-- netlist and design agree
abbrev pub AgreementLaw : Type 0
AgreementLaw = (n : ℕ) (v : NetlistPlaces) (d : Places) → 8 ≤ n → n ≤ 16384 → (fault : Fault) → HoldsInAgreement (made_netlist v n) (made_design d n) fault → ⊥

-- the chains of the design ask for this
abbrev pub AskedLaw : Type 0
AskedLaw = (n : ℕ) (at : ℕ → Place) → map asked_by_chain (made_chains at n) ≡ made_asked at

-- whatever file asks for it, nothing is wrong with it, and these are the paths
pub record AreAnswered (n : ℕ) (v : NetlistPlaces) (at : ℕ → Place) : Type 0 where
  pub are : ArePathsOf (made_netlist v n) small_cells (made_asked at) (made_paths n)
  pub none : (file : FileKind) (fault : Fault) → HoldsInPaths (made_netlist v n) small_cells file (made_asked at) fault → ⊥

-- so it is
abbrev pub TracedLaw : Type 0
TracedLaw = (n : ℕ) (v : NetlistPlaces) (at : ℕ → Place) → 8 ≤ n → n ≤ 16384 → AreAnswered n v at

-- the paths have few bits
abbrev pub BitsLaw : Type 0
BitsLaw = (n : ℕ) (v : NetlistPlaces) → 8 ≤ n → n ≤ 16384 → (fault : Fault) → HaveTooManyBits (made_netlist v n) small_cells (made_paths n) fault → ⊥

-- their pins and ports stand in the nets
abbrev pub NetsLaw : Type 0
NetsLaw = (n : ℕ) (v : NetlistPlaces) (d : Places) → 8 ≤ n → n ≤ 16384 → (fault : Fault) → HoldsInNets (made_netlist v n) small_cells (made_design d n) (made_paths n) fault → ⊥

-- their cells are placed
abbrev pub PlacesLaw : Type 0
PlacesLaw = (n : ℕ) (v : NetlistPlaces) (d : Places) → 8 ≤ n → n ≤ 16384 → (fault : Fault) → HoldsInPlaces (made_netlist v n) made_macros (made_design d n) (made_paths n) fault → ⊥

-- the chains beside the paths aren't refused
abbrev pub ChainsLaw : Type 0
ChainsLaw = (n : ℕ) (v : NetlistPlaces) (d : Places) → 8 ≤ n → n ≤ 16384 → (fault : Fault)
    → IsRefusal (path_specs (made_netlist v n) small_cells (Some (made_design d n)) (made_paths n)) (chain_specs (made_netlist v n) small_cells (made_design d n)) fault → ⊥

-- a head with these blocks fits the paths
abbrev pub HeadsLaw : Type 0
HeadsLaw = (n : ℕ) (v : NetlistPlaces) (at : ℕ → BlockPlace) (head : StilHead) → 8 ≤ n → n ≤ 16384 → head.chains ≡ made_blocks at n → (fault : Fault)
    → HoldsInHeads (made_netlist v n) small_cells (made_paths n) head fault → ⊥

-- and declares the ports of the design's chains
abbrev pub DeclaredLaw : Type 0
DeclaredLaw = (n : ℕ) (d : Places) (at : ℕ → BlockPlace) (head : StilHead) → head.chains ≡ made_blocks at n → (fault : Fault) → HoldsInChains (made_design d n) head fault → ⊥
