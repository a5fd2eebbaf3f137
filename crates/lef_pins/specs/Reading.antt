-- What the reader keeps on its way over a LEF: the least places of faults, and what macros and pins say. That it gathers what Faults
-- and Denoted define is proved in proofs/Gathered, TwiceNames and FileGathered.
use Rattle.std.specs.Prelude.{ℕ, ◌==◌, Bool, false, ◌||◌, not, if◌then◌else◌, min, List, [], ◌∷◌, ◌++◌, length, Option, None, Some, is_some, pos}
use Rattle.std.specs.List.{list_any}
use Rattle.std.specs.Option.{option_or}
use Rattle.std.specs.Str.{bytes_eq}
use Rattle.list_laws.specs.Leasts.{lesser, found_if}
use Rattle.token_forms.specs.Tokens.{Token}
use Rattle.lef_pins.specs.declared.least.Least.{Least}
use Rattle.lef_pins.specs.declared.pins.PinReading.{PinReading}
use Rattle.lef_pins.specs.declared.blocks.MacroReading.{MacroReading}
use Rattle.lef_pins.specs.declared.file.FileReading.{FileReading}
use Rattle.lef_pins.specs.declared.macros.Macro.{Macro as macro_value}
use Rattle.lef_pins.specs.Blocks.{name_of, is_closed, PinItem, Port, OfPin, MacroItem, Pin, Shapes, OfMacro, FileItem, Macro, Passed}
use Rattle.lef_pins.specs.Statements.{start_of, is_read_rect, is_bad_rect, is_far_rect, rect_values, begins_size, begins_origin, size_values, origin_values, is_bad, is_far}
use Rattle.lef_pins.specs.Macros.{macro_at, with_macro}

-- what is gathered from some items, one behind the other
abbrev pub gathered : {S I : Type 0} → (S → I → S) → S → List I → S
gathered put state [] = state
gathered put state (i ∷ is) = gathered put (put state i) is

-- a block goes on: a token stands first, and not the block's END
unfoldable pub goes_on : (List Token → Bool) → List Token → Bool
goes_on ends ts = not (length ts == 0 || ends ts)

-- the least places so far, and one more of a kind, where it counts
unfoldable pub with_syntax : Least → Bool → ℕ → Least
with_syntax l bad place = record { syntax = lesser l.syntax (found_if bad place); number = l.number; twice = l.twice }

-- likewise where a number has no value
unfoldable pub with_number : Least → Bool → ℕ → Least
with_number l far place = record { syntax = l.syntax; number = lesser l.number (found_if far place); twice = l.twice }

-- likewise where a name stood before
unfoldable pub with_twice : Least → Bool → ℕ → Least
with_twice l again place = record { syntax = l.syntax; number = l.number; twice = lesser l.twice (found_if again place) }

-- a pin, and a statement of its port more
unfoldable pub put_rect : PinReading → List Token → PinReading
put_rect p s =
    record {
      least = with_number (with_syntax p.least (is_bad_rect s) (start_of s)) (is_far_rect s) (start_of s);
      rect = option_or p.rect (if is_read_rect s then Some (rect_values s) else None);
    }

-- a pin, and an item more
unfoldable pub put_pin_item : PinReading → PinItem → PinReading
put_pin_item p (Port b) =
    let read = gathered put_rect p b.items in
    record { least = with_syntax read.least (not (is_closed b)) b.mark.start; rect = read.rect }
put_pin_item p (OfPin s) = p

-- names, and one more
unfoldable pub with_name : List (List ℕ) → List ℕ → List (List ℕ)
with_name names name = if list_any (bytes_eq name) names then names else names ++ name ∷ []

-- a macro with these places
abbrev pub with_least : MacroReading → Least → MacroReading
with_least m l = record { least = l; sized = m.sized; size = m.size; origin = m.origin; pins = m.pins; names = m.names }

-- a macro, and a pin more
unfoldable pub put_pin : MacroReading → List ℕ → ℕ → Bool → PinReading → MacroReading
put_pin m name place closed p =
    record {
      least = with_twice (with_syntax p.least (not closed) place) (list_any (bytes_eq name) m.names) place;
      sized = m.sized;
      size = m.size;
      origin = m.origin;
      pins = m.pins ++ record { name = name; rect = p.rect } ∷ [];
      names = with_name m.names name;
    }

-- a macro, and a statement more
unfoldable pub put_statement : MacroReading → List Token → MacroReading
put_statement m s =
    record {
      least = with_number (with_syntax m.least (is_bad m.sized s) (start_of s)) (is_far s) (start_of s);
      sized = m.sized || begins_size s;
      size = if begins_size s then size_values s else m.size;
      origin = if begins_origin s then origin_values s else m.origin;
      pins = m.pins;
      names = m.names;
    }

-- a macro, and an item more
unfoldable pub put_macro_item : MacroReading → MacroItem → MacroReading
put_macro_item m (Pin name b) = put_pin m (name_of name) b.mark.start (is_closed b) (gathered put_pin_item (record { least = m.least; rect = None }) b.items)
put_macro_item m (Shapes b) = with_least m (with_syntax m.least (not (is_closed b)) b.mark.start)
put_macro_item m (OfMacro s) = put_statement m s

-- a macro before its first item
abbrev pub macro_start : Least → MacroReading
macro_start l = record { least = l; sized = false; size = (pos 0, pos 0); origin = (pos 0, pos 0); pins = []; names = [] }

-- what a macro says
abbrev pub macro_read : MacroReading → macro_value
macro_read m = record { w = m.size.0; h = m.size.1; ox = m.origin.0; oy = m.origin.1; pins = m.pins }

-- a file, and a macro more
unfoldable pub put_macro : FileReading → List ℕ → ℕ → Bool → MacroReading → FileReading
put_macro f name place closed m =
    record {
      least = with_syntax (with_syntax m.least (not closed) place) (not m.sized) place;
      again = lesser f.again (found_if (is_some (macro_at name f.macros)) place);
      macros = with_macro f.macros name (macro_read m);
    }

-- a file, and an item more
unfoldable pub put_file_item : FileReading → FileItem → FileReading
put_file_item f (Macro name b) = put_macro f (name_of name) b.mark.start (is_closed b) (gathered put_macro_item (macro_start f.least) b.items)
put_file_item f (Passed s) = f

-- nothing is found
abbrev pub no_places : Least
no_places = record { syntax = None; number = None; twice = None }

-- a file before its first item
abbrev pub file_start : FileReading
file_start = record { least = no_places; again = None; macros = [] }
