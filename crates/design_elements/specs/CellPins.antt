-- What the chains of a design name (LEF/DEF 5.8, SCANCHAINS): components with pins of them, and the scan paths that the pins tell.
use Rattle.std.specs.Prelude.{ℕ, Bool, true, ◌&&◌, ◌==◌, not, if◌then◌else◌, List, [], ◌∷◌, ◌++◌, length, map, Option, Some, None, option_and_then, slice_get}
use Rattle.std.specs.Option.{is_none}
use Rattle.std.specs.List.{flat_map, list_any, position}
use Rattle.std.specs.Str.{bytes_eq}
use Rattle.cell_table.specs.declared.paths.ScanPath.{ScanPath}
use Rattle.cell_table.specs.Cells.{Cells}
use Rattle.def_reader.specs.declared.design.Component.{Component}
use Rattle.def_reader.specs.declared.design.Element.{Element}
use Rattle.def_reader.specs.declared.design.EndText.{EndText}
use Rattle.def_reader.specs.declared.design.EndText.TheVariants.{Port, Cell}
use Rattle.def_reader.specs.declared.design.ScanChainText.{ScanChainText}
use Rattle.def_reader.specs.Designs.{scan_paths}
use Rattle.def_reader.specs.Sound.{elements_in}

-- a component, and the in pin and the out pin that are named of it
pub record CellPins : Type 0 where
  pub component : List ℕ
  pub input : Option (List ℕ)
  pub output : Option (List ℕ)

-- what an element names
abbrev pub pins_of : Element → CellPins
pins_of e = record { component = e.component; input = e.input; output = e.output }

-- START is left by an out pin
abbrev pub start_pins : EndText → List CellPins
start_pins (Port name) = []
start_pins (Cell component pin) = record { component = component; input = None; output = pin } ∷ []

-- STOP is entered by an in pin
abbrev pub stop_pins : EndText → List CellPins
stop_pins (Port name) = []
stop_pins (Cell component pin) = record { component = component; input = pin; output = None } ∷ []

-- the elements of a chain, in order
abbrev pub elements_of : ScanChainText → List Element
elements_of chain = flat_map elements_in chain.lists

-- all that a chain names: its START, its STOP and its elements
abbrev pub cells_of : ScanChainText → List CellPins
cells_of chain = start_pins chain.start ++ stop_pins chain.stop ++ map pins_of (elements_of chain)

-- one of the scan path's out pins has the name
abbrev pub leaves_by : ScanPath → List ℕ → Bool
leaves_by path output = list_any (λ o. bytes_eq o.pin output) path.outs

-- no pin is named, or the one that is passes the test
abbrev pub none_or : (List ℕ → Bool) → Option (List ℕ) → Bool
none_or test None = true
none_or test (Some pin) = test pin

-- the scan path has each pin that is named: it is entered by the in pin, and left by the out pin
abbrev pub fits : Option (List ℕ) → Option (List ℕ) → ScanPath → Bool
fits input output path = none_or (bytes_eq path.input) input && none_or (leaves_by path) output

-- the scan path that the pins tell, by its number: the first that has each named pin; where none is named, the only one
abbrev pub path_among : List ScanPath → Option (List ℕ) → Option (List ℕ) → Option ℕ
path_among paths input output =
    if is_none input && (is_none output && not (length paths == 1)) then None else position (fits input output) paths

-- the number of the scan path that is named
abbrev pub path_number : Cells → List Component → CellPins → Option ℕ
path_number cells components pins = path_among (scan_paths cells components pins.component) pins.input pins.output

-- the scan path that is named
abbrev pub path_named : Cells → List Component → CellPins → Option ScanPath
path_named cells components pins = option_and_then (λ k. slice_get (scan_paths cells components pins.component) k) (path_number cells components pins)

-- the number of the out pin that is named, among those of the scan path
abbrev pub out_among : Option (List ℕ) → Option ScanPath → Option ℕ
out_among output path = option_and_then (λ pin. option_and_then (λ p. position (λ o. bytes_eq o.pin pin) p.outs) path) output

-- the number of the out pin
abbrev pub out_number : Cells → List Component → CellPins → Option ℕ
out_number cells components pins = out_among pins.output (path_named cells components pins)
