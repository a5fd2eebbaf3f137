-- What holds of the chains of every design as numbers.
use Rattle.std.specs.Prelude.{ℕ, ◌<◌, ◌≤◌, List, length, sum_by, All}
use Rattle.base_types.specs.declared.fault.Fault.{Fault}
use Rattle.netlist_core.specs.declared.netlist.Netlist.{Netlist}
use Rattle.cell_table.specs.Cells.{Cells}
use Rattle.lef_pins.specs.Macros.{NamedMacros}
use Rattle.def_reader.specs.declared.design.Design.{Design}
use Rattle.def_reader.specs.Sound.{IsSound}
use Rattle.chain_rules.specs.declared.spec.PathSpec.{PathSpec}
use Rattle.chain_rules.specs.Stretches.{path_at, step_at, IsPlace, elements_of, HasElements, NamedOnce}
use Rattle.design_elements.specs.Elements.{chain_specs}
use Rattle.design_elements.specs.Faults.{HoldsInElements}

-- no fault of what the chains name holds
abbrev pub IsFaultless : Cells → NamedMacros → Design → Type 0
IsFaultless cells macros d = (fault : Fault) → HoldsInElements cells macros d fault → ⊥

-- each step is one of an instance of the netlist
abbrev pub AreOfInstances : Netlist → List PathSpec → Type 0
AreOfInstances n paths = (p k : ℕ) → IsPlace paths p k → (step_at (path_at paths p) k).instance < length n.instances

-- each chain of a sound design has a list, and each list an element
abbrev pub ElementsLaw : Type 0
ElementsLaw = (n : Netlist) (cells : Cells) (d : Design) → IsSound d → All HasElements (chain_specs n cells d)

-- without a fault no step of the netlist's instances is named by two elements
abbrev pub OnceLaw : Type 0
OnceLaw = (n : Netlist) (cells : Cells) (macros : NamedMacros) (d : Design) (paths : List PathSpec) → IsFaultless cells macros d → AreOfInstances n paths → NamedOnce paths (chain_specs n cells d)

-- without a fault there are 65536 elements at most
abbrev pub FewElementsLaw : Type 0
FewElementsLaw = (n : Netlist) (cells : Cells) (macros : NamedMacros) (d : Design) → IsFaultless cells macros d → sum_by (λ chain. length (elements_of chain)) (chain_specs n cells d) ≤ 65536

-- and in a sound design 65536 chains at most
abbrev pub FewChainsLaw : Type 0
FewChainsLaw = (n : Netlist) (cells : Cells) (macros : NamedMacros) (d : Design) → IsSound d → IsFaultless cells macros d → length (chain_specs n cells d) ≤ 65536
