-- Places of nets in a list by their pins.
use Rattle.std.specs.Prelude.{◌≡◌, ℕ, ◌<◌, Bool, true, List, take, Some, option_and_then, slice_get}
use Rattle.std.specs.Borrow.{Bor}
use Rattle.std.specs.List.{find, list_any}
use Rattle.std.specs.HashMap.{HashMap, get}
use Rattle.std.specs.HashSet.{HashSet, contains_by}
use Rattle.std.specs.Str.{bytes_eq}
use Rattle.def_reader.specs.declared.design.Net.{Net}
use Rattle.def_reader.specs.declared.design.NetPin.{NetPin}
use Rattle.def_reader.specs.declared.design.NetPin.TheVariants.{Cell, Port}
use Rattle.def_reader.specs.Steps.{PinKey, same_key, pin_of_key}
use Rattle.design_places.specs.NetPins.{same_pin}

-- whether the place of a pin is noted: that of each design pin is, of the pins of components those of such names
abbrev pub is_asked : {S : Type 0} → HashSet (Bor (List ℕ)) S → NetPin → Bool
is_asked names (Cell component pin) = contains_by (λ name. bytes_eq pin name.now) names
is_asked names (Port name) = true

-- each pin that is asked for has the place of the first of so many nets that has it, or none where no net has it
pub record ArePinsNoted {S : Type 0} (asked : NetPin → Bool) (places : HashMap PinKey ℕ S) (nets : List Net) (n : ℕ) : Type 0 where
  pub is : (q : PinKey) → asked (pin_of_key q) ≡ true → option_and_then (λ place. slice_get nets place) (get same_key places q) ≡ find (λ net. list_any (same_pin (pin_of_key q)) net.pins) (take n nets)
  pub within : (q : PinKey) (place : ℕ) → asked (pin_of_key q) ≡ true → get same_key places q ≡ Some place → place < n
