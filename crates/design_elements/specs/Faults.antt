-- The faults of what the chains of a design name, each at the line of its chain's statement. Of those that hold the one of the least
-- kind is answered, and of these the one at the least line.
use Rattle.std.specs.Prelude.{◌≡◌, ℕ, ◌<◌, Bool, true, false, not, ◌==◌, List, [], ◌∷◌, ◌++◌, length, sum_by, Option, Some, None, is_none, option_map, option_and_then, Contains}
use Rattle.std.specs.List.{find, filter_map, flat_map}
use Rattle.std.specs.Str.{bytes_eq}
use Rattle.base_types.specs.Faults.{at_line}
use Rattle.base_types.specs.declared.fault.Fault.{Fault}
use Rattle.base_types.specs.declared.fault.FileKind.TheVariants.{Def}
use Rattle.base_types.specs.declared.kind.Kind.TheVariants.{ElementUnknown, ElementTwice, ElementUnplaced, ElementPin, BitsDiffer, NoMacro, TooManyElements}
use Rattle.cell_table.specs.declared.paths.ScanPath.{ScanPath}
use Rattle.cell_table.specs.Cells.{Cells}
use Rattle.cell_table.specs.Table.{paths_at}
use Rattle.lef_pins.specs.Macros.{NamedMacros, macro_at}
use Rattle.def_reader.specs.declared.design.Component.{Component}
use Rattle.def_reader.specs.declared.design.Element.{Element}
use Rattle.def_reader.specs.declared.design.ScanChainText.{ScanChainText}
use Rattle.def_reader.specs.declared.design.Design.{Design}
use Rattle.def_reader.specs.Designs.{cell_of}
use Rattle.def_reader.specs.Faults.{StandsAgain}
use Rattle.design_elements.specs.CellPins.{CellPins, pins_of, elements_of, cells_of, path_number, path_named}

-- no component has the name, or the table hasn't its cell
abbrev pub is_unknown : Cells → List Component → CellPins → Bool
is_unknown cells components pins = is_none (option_and_then (λ cell. paths_at cell cells) (cell_of components pins.component))

-- the component is there and isn't placed
abbrev pub has_no_place : Option Component → Bool
has_no_place None = false
has_no_place (Some component) = is_none component.place

-- the component of the name isn't placed
abbrev pub is_unplaced : List Component → CellPins → Bool
is_unplaced components pins = has_no_place (find (λ c. bytes_eq c.name pins.component) components)

-- the pins tell no scan path: one of them isn't such a pin, they belong to two paths, or none is named of a cell with several paths
abbrev pub has_no_path : Cells → List Component → CellPins → Bool
has_no_path cells components pins = is_none (path_number cells components pins)

-- the cell of the component is there and has no macro
abbrev pub lacks_macro : NamedMacros → Option (List ℕ) → Bool
lacks_macro macros None = false
lacks_macro macros (Some cell) = is_none (macro_at cell macros)

-- the cell has no macro
abbrev pub has_no_macro : NamedMacros → List Component → CellPins → Bool
has_no_macro macros components pins = lacks_macro macros (cell_of components pins.component)

-- BITS is written, and isn't the count of the path's bits
abbrev pub differ : Option ℕ → Option ScanPath → Bool
differ None path = false
differ (Some bits) None = false
differ (Some bits) (Some path) = not (bits == length path.bits)

-- the BITS of the element isn't the count of its path
abbrev pub has_other_bits : Cells → List Component → Element → Bool
has_other_bits cells components e = differ e.bits (path_named cells components (pins_of e))

-- something that a chain names fails the test, on the chain's line
pub record FailsIn {X : Type 0} (of_chain : ScanChainText → List X) (bad : X → Bool) (chains : List ScanChainText) (line : ℕ) : Type 0 where
  pub chain : ScanChainText
  pub there : Contains chains chain
  pub named : X
  pub listed : Contains (of_chain chain) named
  pub fails : bad named ≡ true
  pub is : line ≡ chain.line

-- the component and the scan path of an element, where its pins tell one, with the chain's line
abbrev pub element_rows : Cells → List Component → ScanChainText → List ((List ℕ × ℕ) × ℕ)
element_rows cells components chain =
    filter_map (λ e. option_map (λ path. ((e.component, path), chain.line)) (path_number cells components (pins_of e))) (elements_of chain)

-- the elements of all chains, in order
abbrev pub all_rows : Cells → List Component → List ScanChainText → List ((List ℕ × ℕ) × ℕ)
all_rows cells components chains = flat_map (element_rows cells components) chains

-- how many elements chains have together
abbrev pub element_count : List ScanChainText → ℕ
element_count chains = sum_by (λ chain. length (elements_of chain)) chains

-- with a chain there are more than 65536 elements, on this line
pub record AreTooMany (chains : List ScanChainText) (line : ℕ) : Type 0 where
  pub front : List ScanChainText
  pub chain : ScanChainText
  pub behind : List ScanChainText
  pub is : chains ≡ front ++ chain ∷ behind
  pub many : 65536 < element_count (front ++ chain ∷ [])
  pub line_is : line ≡ chain.line

-- what may be wrong with the elements, the START and the STOP cells of a design's chains
pub data HoldsInElements (cells : Cells) (macros : NamedMacros) (d : Design) : Fault → Type 0 where
  Unknown : (line : ℕ) → FailsIn cells_of (is_unknown cells d.components) d.chains line → HoldsInElements cells macros d (at_line ElementUnknown Def line)
  Twice : (line : ℕ) → StandsAgain (all_rows cells d.components d.chains) line → HoldsInElements cells macros d (at_line ElementTwice Def line)
  Unplaced : (line : ℕ) → FailsIn cells_of (is_unplaced d.components) d.chains line → HoldsInElements cells macros d (at_line ElementUnplaced Def line)
  Pin : (line : ℕ) → FailsIn cells_of (has_no_path cells d.components) d.chains line → HoldsInElements cells macros d (at_line ElementPin Def line)
  Bits : (line : ℕ) → FailsIn elements_of (has_other_bits cells d.components) d.chains line → HoldsInElements cells macros d (at_line BitsDiffer Def line)
  Macro : (line : ℕ) → FailsIn cells_of (has_no_macro macros d.components) d.chains line → HoldsInElements cells macros d (at_line NoMacro Def line)
  TooMany : (line : ℕ) → AreTooMany d.chains line → HoldsInElements cells macros d (at_line TooManyElements Def line)
