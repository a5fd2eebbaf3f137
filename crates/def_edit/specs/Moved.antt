-- A placed design (LEF/DEF 5.8) behind moves of pins: each leaves its net and stands last in another one, in the order of the moves; and a
-- design pin whose port moved names the net to which it went.
use Rattle.std.specs.Prelude.{◌≡◌, ℕ, ◌+◌, ◌<◌, Bool, false, ◌&&◌, ◌==◌, if◌then◌else◌, List, [], ◌∷◌, ◌++◌, length, Option, Some, None, option_and_then, option_map, unwrap_or}
use Rattle.std.specs.List.{find, flat_map, list_any, slice_get, AllByRecursion as Each}
use Rattle.std.specs.Str.{bytes_eq}
use Rattle.def_reader.specs.declared.design.NetPin.{NetPin}
use Rattle.def_reader.specs.declared.design.NetPin.TheVariants.{Cell, Port}
use Rattle.def_reader.specs.declared.design.Net.{Net}
use Rattle.def_reader.specs.declared.design.DesignPin.{DesignPin}
use Rattle.def_reader.specs.declared.design.Design.{Design}
use Rattle.def_edit.specs.declared.pin_moves.PinMove.{PinMove}

-- the pin at this place of this net leaves it
abbrev pub leaves : List PinMove → ℕ → ℕ → Bool
leaves moves net place = list_any (λ m. m.from == net && m.place == place) moves

-- the pins of a net, from a place on, that stay
unfoldable pub staying : List PinMove → ℕ → ℕ → List NetPin → List NetPin
staying moves net place [] = []
staying moves net place (p ∷ ps) = (if leaves moves net place then [] else p ∷ []) ++ staying moves net (place + 1) ps

-- the pin that moves
abbrev pub moving_pin : List Net → PinMove → Option NetPin
moving_pin nets m = option_and_then (λ net. slice_get net.pins m.place) (slice_get nets m.from)

-- a pin, if there is one
abbrev pub pin_list : Option NetPin → List NetPin
pin_list None = []
pin_list (Some p) = p ∷ []

-- the pins that come to a net, in the order of the moves
abbrev pub coming : List Net → List PinMove → ℕ → List NetPin
coming nets moves net = flat_map (λ m. if m.to == net then pin_list (moving_pin nets m) else []) moves

-- the pins of a net behind the moves
abbrev pub moved_pins : List Net → List PinMove → ℕ → List NetPin → List NetPin
moved_pins nets moves net pins = staying moves net 0 pins ++ coming nets moves net

-- the nets from a number on, behind the moves
unfoldable pub moved_from : List Net → List PinMove → ℕ → List Net → List Net
moved_from nets moves k [] = []
moved_from nets moves k (net ∷ rest) = record net { pins = moved_pins nets moves k net.pins } ∷ moved_from nets moves (k + 1) rest

-- the nets behind the moves
abbrev pub moved_nets : List Net → List PinMove → List Net
moved_nets nets moves = moved_from nets moves 0 nets

-- the pin is the port of this name
abbrev pub is_port : List ℕ → Option NetPin → Bool
is_port name None = false
is_port name (Some (Cell component pin)) = false
is_port name (Some (Port port)) = bytes_eq port name

-- the name of the net to which the port of this name goes, where it goes to one
abbrev pub new_net : List Net → List PinMove → List ℕ → Option (List ℕ)
new_net nets moves name = option_and_then (λ m. option_map (λ net. net.name) (slice_get nets m.to)) (find (λ m. is_port name (moving_pin nets m)) moves)

-- a design pin, which names the net of its port
abbrev pub moved_pin : List Net → List PinMove → DesignPin → DesignPin
moved_pin nets moves pin = record pin { net = unwrap_or (new_net nets moves pin.name) pin.net }

-- the pin of a move is there, and so is the net to which it goes, which has a pin
pub record IsMoveIn (nets : List Net) (m : PinMove) : Type 0 where
  pub pin : NetPin
  pub moves : moving_pin nets m ≡ Some pin
  pub net : Net
  pub goes : slice_get nets m.to ≡ Some net
  pub some : 0 < length net.pins

-- the moves are of pins that are there, none of them twice
pub record AreMovesIn (nets : List Net) (moves : List PinMove) : Type 0 where
  pub each : Each (IsMoveIn nets) moves
  pub once : (i j : ℕ) (m o : PinMove) → slice_get moves i ≡ Some m → slice_get moves j ≡ Some o → m.from ≡ o.from → m.place ≡ o.place → i ≡ j
