-- Where the faults of a LEF stand (LEF 5.8), as the places of tokens, and which faults hold. A statement, and a number in it, stands
-- at the statement's first token; a block, and a name that stands twice, at the block's.
use Rattle.std.specs.Prelude.{ℕ, Bool, false, ◌||◌, not, if◌then◌else◌, List, [], ◌∷◌, ◌++◌, Contains}
use Rattle.std.specs.List.{flat_map, list_any}
use Rattle.std.specs.Str.{bytes_eq}
use Rattle.base_types.specs.Faults.{at_line}
use Rattle.list_laws.specs.Leasts.{place_if}
use Rattle.base_types.specs.Lines.{line_at}
use Rattle.base_types.specs.declared.fault.Fault.{Fault}
use Rattle.base_types.specs.declared.fault.FileKind.TheVariants.{Lef}
use Rattle.base_types.specs.declared.kind.Kind.TheVariants.{LefSyntax, LefNumber, LefTwice}
use Rattle.token_forms.specs.Tokens.{Token}
use Rattle.def_tokens.specs.DefTokens.{tokens_in}
use Rattle.lef_pins.specs.Blocks.{name_of, Block, is_closed, PinItem, Port, OfPin, MacroItem, Pin, Shapes, OfMacro, FileItem, Macro, Passed, IsLef}
use Rattle.lef_pins.specs.Statements.{start_of, begins_size, is_bad_rect, is_bad, is_far_rect, is_far}

-- the first token of a block that isn't closed
abbrev pub unclosed : {I : Type 0} → Block I → List ℕ
unclosed b = place_if (not (is_closed b)) b.mark.start

-- a macro with its name
abbrev pub NamedBlock : Type 0
NamedBlock = Token × Block MacroItem

-- the macros of a LEF
abbrev pub macros_of : List FileItem → List NamedBlock
macros_of [] = []
macros_of (Macro name b ∷ is) = (name, b) ∷ macros_of is
macros_of (Passed s ∷ is) = macros_of is

-- LefSyntax: a statement that is read is of no form, a macro hasn't exactly one SIZE, or a block isn't closed

-- in a port: a RECT of no form
abbrev pub syntax_in_port : List (List Token) → List ℕ
syntax_in_port ss = flat_map (λ s. place_if (is_bad_rect s) (start_of s)) ss

-- in an item of a pin: in its port, or where the port isn't closed
abbrev pub syntax_in_pin_item : PinItem → List ℕ
syntax_in_pin_item (Port b) = syntax_in_port b.items ++ unclosed b
syntax_in_pin_item (OfPin s) = []

-- in a pin, or where the pin isn't closed
abbrev pub syntax_in_pin : Block PinItem → List ℕ
syntax_in_pin b = flat_map syntax_in_pin_item b.items ++ unclosed b

-- in an item of a macro, where a SIZE stood before or not
abbrev pub syntax_in_item : Bool → MacroItem → List ℕ
syntax_in_item sized (Pin name b) = syntax_in_pin b
syntax_in_item sized (Shapes b) = unclosed b
syntax_in_item sized (OfMacro s) = place_if (is_bad sized s) (start_of s)

-- the item is a SIZE
abbrev pub is_size_item : MacroItem → Bool
is_size_item (Pin name b) = false
is_size_item (Shapes b) = false
is_size_item (OfMacro s) = begins_size s

-- in the items of a macro, one behind the other
abbrev pub syntax_in_items : Bool → List MacroItem → List ℕ
syntax_in_items sized [] = []
syntax_in_items sized (i ∷ is) = syntax_in_item sized i ++ syntax_in_items (sized || is_size_item i) is

-- a macro that has no SIZE
abbrev pub unsized : Block MacroItem → List ℕ
unsized b = place_if (not (list_any is_size_item b.items)) b.mark.start

-- in a macro, with its own END and SIZE
abbrev pub syntax_in_macro : Block MacroItem → List ℕ
syntax_in_macro b = syntax_in_items false b.items ++ (unclosed b ++ unsized b)

-- in all macros
abbrev pub syntax_places : List FileItem → List ℕ
syntax_places is = flat_map (λ m. syntax_in_macro m.1) (macros_of is)

-- LefNumber: a decimal that is read has more than six fraction digits or exceeds two metres

-- in a port
abbrev pub numbers_in_port : List (List Token) → List ℕ
numbers_in_port ss = flat_map (λ s. place_if (is_far_rect s) (start_of s)) ss

-- in an item of a pin
abbrev pub numbers_in_pin_item : PinItem → List ℕ
numbers_in_pin_item (Port b) = numbers_in_port b.items
numbers_in_pin_item (OfPin s) = []

-- in an item of a macro
abbrev pub numbers_in_item : MacroItem → List ℕ
numbers_in_item (Pin name b) = flat_map numbers_in_pin_item b.items
numbers_in_item (Shapes b) = []
numbers_in_item (OfMacro s) = place_if (is_far s) (start_of s)

-- in the items of a macro
abbrev pub numbers_in_macro : Block MacroItem → List ℕ
numbers_in_macro b = flat_map numbers_in_item b.items

-- in all macros
abbrev pub number_places : List FileItem → List ℕ
number_places is = flat_map (λ m. numbers_in_macro m.1) (macros_of is)

-- LefTwice: a macro's name, or a pin's in one macro, stands a second time

-- the places of names that stood before
abbrev pub again_in : List (List ℕ) → List (List ℕ × ℕ) → List ℕ
again_in before [] = []
again_in before (row ∷ rows) = place_if (list_any (bytes_eq row.0) before) row.1 ++ again_in (before ++ row.0 ∷ []) rows

-- the names of pins, with the places of their blocks
abbrev pub pin_rows : List MacroItem → List (List ℕ × ℕ)
pin_rows [] = []
pin_rows (Pin name b ∷ is) = (name_of name, b.mark.start) ∷ pin_rows is
pin_rows (Shapes b ∷ is) = pin_rows is
pin_rows (OfMacro s ∷ is) = pin_rows is

-- the names of macros likewise
abbrev pub macro_rows : List NamedBlock → List (List ℕ × ℕ)
macro_rows [] = []
macro_rows (m ∷ ms) = (name_of m.0, m.1.mark.start) ∷ macro_rows ms

-- the pins of each macro whose names stand a second time
abbrev pub pins_again : List NamedBlock → List ℕ
pins_again ms = flat_map (λ m. again_in [] (pin_rows m.1.items)) ms

-- these, and the macros whose names do
abbrev pub twice_places : List FileItem → List ℕ
twice_places is = pins_again (macros_of is) ++ again_in [] (macro_rows (macros_of is))

-- what may be wrong with a LEF
pub data HoldsInLef (text : List ℕ) : Fault → Type 0 where
  Syntax : (items : List FileItem) (place : ℕ) → IsLef (tokens_in text) items → Contains (syntax_places items) place → HoldsInLef text (at_line LefSyntax Lef (line_at text place))
  Number : (items : List FileItem) (place : ℕ) → IsLef (tokens_in text) items → Contains (number_places items) place → HoldsInLef text (at_line LefNumber Lef (line_at text place))
  Twice : (items : List FileItem) (place : ℕ) → IsLef (tokens_in text) items → Contains (twice_places items) place → HoldsInLef text (at_line LefTwice Lef (line_at text place))
