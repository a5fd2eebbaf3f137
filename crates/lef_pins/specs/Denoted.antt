-- The macros that a LEF without a fault denotes.
use Rattle.std.specs.Prelude.{◌≡◌, ℕ, if◌then◌else◌, List, [], ◌∷◌, map, Option, Some, None, ℤ, pos, All}
use Rattle.std.specs.Option.{option_or}
use Rattle.token_forms.specs.Tokens.{Token}
use Rattle.def_tokens.specs.DefTokens.{tokens_in}
use Rattle.lef_pins.specs.declared.macros.Macro.{Macro as macro_value}
use Rattle.lef_pins.specs.declared.macros.MacroPin.{MacroPin}
use Rattle.lef_pins.specs.Blocks.{name_of, PinItem, Port, OfPin, MacroItem, Pin, Shapes, OfMacro, FileItem, IsLef}
use Rattle.lef_pins.specs.Statements.{is_read_rect, rect_values, begins_size, begins_origin, size_values, origin_values}
use Rattle.lef_pins.specs.Faults.{macros_of, syntax_places, number_places, twice_places}
use Rattle.lef_pins.specs.Macros.{NamedMacros}
use Rattle.lef_pins.specs.Places.{IsMeasured}

-- the first RECT of a port
abbrev pub port_rect : List (List Token) → Option (List ℤ)
port_rect [] = None
port_rect (s ∷ ss) = if is_read_rect s then Some (rect_values s) else port_rect ss

-- the first RECT of an item of a pin
abbrev pub item_rect : PinItem → Option (List ℤ)
item_rect (Port b) = port_rect b.items
item_rect (OfPin s) = None

-- the first RECT of a pin, over its ports
abbrev pub pin_rect : List PinItem → Option (List ℤ)
pin_rect [] = None
pin_rect (i ∷ is) = option_or (item_rect i) (pin_rect is)

-- the pins of a macro, in order
abbrev pub pins_of : List MacroItem → List MacroPin
pins_of [] = []
pins_of (Pin name b ∷ is) = record { name = name_of name; rect = pin_rect b.items } ∷ pins_of is
pins_of (Shapes b ∷ is) = pins_of is
pins_of (OfMacro s ∷ is) = pins_of is

-- the values of the last SIZE, or these where there is none
abbrev pub size_from : ℤ × ℤ → List MacroItem → ℤ × ℤ
size_from p [] = p
size_from p (Pin name b ∷ is) = size_from p is
size_from p (Shapes b ∷ is) = size_from p is
size_from p (OfMacro s ∷ is) = size_from (if begins_size s then size_values s else p) is

-- the values of the last ORIGIN, or these where there is none
abbrev pub origin_from : ℤ × ℤ → List MacroItem → ℤ × ℤ
origin_from p [] = p
origin_from p (Pin name b ∷ is) = origin_from p is
origin_from p (Shapes b ∷ is) = origin_from p is
origin_from p (OfMacro s ∷ is) = origin_from (if begins_origin s then origin_values s else p) is

-- what a macro's statements say
abbrev pub macro_of : List MacroItem → macro_value
macro_of is =
    let size = size_from (pos 0, pos 0) is in
    let origin = origin_from (pos 0, pos 0) is in
    record { w = size.0; h = size.1; ox = origin.0; oy = origin.1; pins = pins_of is }

-- a LEF in which nothing is wrong denotes its macros with their names, in order
pub record DenotesMacros (text : List ℕ) (macros : NamedMacros) : Type 0 where
  pub items : List FileItem
  pub is : IsLef (tokens_in text) items
  pub no_syntax : syntax_places items ≡ []
  pub no_number : number_places items ≡ []
  pub no_twice : twice_places items ≡ []
  pub values : macros ≡ map (λ m. (name_of m.0, macro_of m.1.items)) (macros_of items)

-- all numbers are within two metres
abbrev pub AreMeasured : NamedMacros → Type 0
AreMeasured macros = All (λ m. IsMeasured m.1) macros
