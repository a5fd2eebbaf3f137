-- What the checks of a design give the planning side: chains that belong to the paths, and rules whose plans can be measured.
use Rattle.std.specs.Prelude.{◌≡◌, ◌<◌, ◌≤◌, ◌^◌, List, length, Some}
use Rattle.base_types.specs.declared.fault.Fault.{Fault}
use Rattle.netlist_core.specs.declared.netlist.Netlist.{Netlist}
use Rattle.netlist_core.specs.Netlists.{IsNetlist}
use Rattle.cell_table.specs.Cells.{Cells}
use Rattle.lef_pins.specs.Macros.{NamedMacros}
use Rattle.chain_trace.specs.declared.path.Path.{Path}
use Rattle.def_reader.specs.declared.design.Design.{Design}
use Rattle.def_reader.specs.Sound.{IsSound}
use Rattle.chain_rules.specs.declared.unit.Rules.{Rules}
use Rattle.chain_rules.specs.Stretches.{AreChainSpecs}
use Rattle.chain_rules.specs.Rules.{AreRulesOf}
use Rattle.wire_cost.specs.declared.ends.Ends.{Ends}
use Rattle.wire_cost.specs.Lengths.{IsPlanAt}
use Rattle.traced_paths.specs.Asked.{Asked}
use Rattle.traced_paths.specs.Traced.{ArePathsOf, NameEntries}
use Rattle.traced_paths.specs.Bits.{all_bits}
use Rattle.path_numbers.specs.Numbers.{path_specs, step_count}
use Rattle.design_elements.specs.Elements.{chain_specs}
use Rattle.design_elements.specs.Faults.{HoldsInElements}
use Rattle.design_places.specs.Ends.{ends_of}

-- a netlist and a design of which the calls refused nothing, with the paths that are asked for, by the design or by a head
pub record AreChecked (n : Netlist) (cells : Cells) (macros : NamedMacros) (d : Design) (paths : List Path) : Type 0 where
  pub netlist : IsNetlist n
  pub design : IsSound d
  pub elements : (fault : Fault) → HoldsInElements cells macros d fault → ⊥
  pub asked : List Asked
  pub traced : ArePathsOf n cells asked paths
  pub entries : NameEntries n cells paths
  pub few_paths : length paths ≤ 256
  pub few_bits : all_bits n cells paths ≤ 262144
  pub few_steps : step_count (path_specs n cells (Some d) paths) < 2 ^ 32

-- the chains belong to the paths: units can be read off them
abbrev pub ChainsLaw : Type 0
ChainsLaw = (n : Netlist) (cells : Cells) (macros : NamedMacros) (d : Design) (paths : List Path)
    → AreChecked n cells macros d paths → AreChainSpecs (path_specs n cells (Some d) paths) (chain_specs n cells d)

-- the read plan can be measured
abbrev pub MeasuredLaw : Type 0
MeasuredLaw = (n : Netlist) (cells : Cells) (macros : NamedMacros) (d : Design) (paths : List Path) (rules : Rules)
    → AreChecked n cells macros d paths → AreRulesOf (path_specs n cells (Some d) paths) (chain_specs n cells d) rules
    → IsPlanAt (ends_of n cells macros d paths rules) rules.read
