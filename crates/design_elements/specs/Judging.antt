-- The judgements of what chains name, as the code goes over the chains.
use Rattle.std.specs.Prelude.{◌≡◌, ℕ, Bool, true, false, ◌||◌, List, ◌∷◌, ◌++◌, Option, option_map}
use Rattle.std.specs.Borrow.{Bor}
use Rattle.std.specs.List.{list_any}
use Rattle.cell_table.specs.Cells.{Cells}
use Rattle.lef_pins.specs.Macros.{NamedMacros}
use Rattle.def_reader.specs.declared.design.Component.{Component}
use Rattle.def_reader.specs.declared.design.Element.{Element}
use Rattle.def_reader.specs.declared.design.ScanChainText.{ScanChainText}
use Rattle.def_reader.specs.Sound.{elements_in}
use Rattle.design_elements.specs.declared.pins.Pins.{Pins}
use Rattle.design_elements.specs.declared.judge.Judgement.{Judgement}
use Rattle.design_elements.specs.declared.judge.Judgement.TheVariants as judgements
use Rattle.design_elements.specs.CellPins.{CellPins, pins_of, start_pins, stop_pins}
use Rattle.design_elements.specs.Faults.{is_unknown, is_unplaced, has_no_path, has_other_bits, has_no_macro}

-- a name that is lent
abbrev pub name_at : Option (Bor (List ℕ)) → Option (List ℕ)
name_at name = option_map (λ n. n.now) name

-- what is named, without its references
abbrev pub pins_at : Pins → CellPins
pins_at pins = record { component = pins.component.now; input = name_at pins.input; output = name_at pins.output }

-- what is named fails the judgement; its BITS are judged of elements alone
abbrev pub pins_fail : Judgement → Cells → NamedMacros → List Component → CellPins → Bool
pins_fail judgements.Unknown cells macros components pins = is_unknown cells components pins
pins_fail judgements.Unplaced cells macros components pins = is_unplaced components pins
pins_fail judgements.Pin cells macros components pins = has_no_path cells components pins
pins_fail judgements.Bits cells macros components pins = false
pins_fail judgements.Macro cells macros components pins = has_no_macro macros components pins

-- the element fails the judgement
abbrev pub element_fails : Judgement → Cells → NamedMacros → List Component → Element → Bool
element_fails judgements.Unknown cells macros components e = is_unknown cells components (pins_of e)
element_fails judgements.Unplaced cells macros components e = is_unplaced components (pins_of e)
element_fails judgements.Pin cells macros components e = has_no_path cells components (pins_of e)
element_fails judgements.Bits cells macros components e = has_other_bits cells components e
element_fails judgements.Macro cells macros components e = has_no_macro macros components (pins_of e)

-- the START, the STOP or an element of the chain fails the judgement
abbrev pub chain_fails : Judgement → Cells → NamedMacros → List Component → ScanChainText → Bool
chain_fails judgement cells macros components chain =
    (list_any (pins_fail judgement cells macros components) (start_pins chain.start)
    || list_any (pins_fail judgement cells macros components) (stop_pins chain.stop))
    || list_any (λ list. list_any (element_fails judgement cells macros components) (elements_in list)) chain.lists

-- a chain is bad behind those before it, on its line
pub record IsBadChain (bad : List ScanChainText → ScanChainText → Bool) (chains : List ScanChainText) (line : ℕ) : Type 0 where
  pub front : List ScanChainText
  pub chain : ScanChainText
  pub behind : List ScanChainText
  pub is : chains ≡ front ++ chain ∷ behind
  pub bad_is : bad front chain ≡ true
  pub line_is : line ≡ chain.line
