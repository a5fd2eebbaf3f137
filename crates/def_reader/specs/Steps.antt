-- What the checks know on their way over the statements: the least line so far, and what has been seen.
use Rattle.std.specs.Prelude.{◌≡◌, ℕ, Bool, true, ◌&&◌, List, Option, Some, None, Contains}
use Rattle.std.specs.Borrow.{Bor}
use Rattle.std.specs.HashSet.{HashSet, contains}
use Rattle.std.specs.Option.{option_eq}
use Rattle.std.specs.Str.{bytes_eq}
use Rattle.list_laws.specs.Leasts.{IsLeast}
use Rattle.def_reader.specs.declared.design.NetPin.{NetPin}
use Rattle.def_reader.specs.declared.design.NetPin.TheVariants as net_pins
use Rattle.def_reader.specs.Faults.{StandsAgain, names_in}

-- a set that knows which names the rows so far have, and the least line at which one of them stood again
pub record IsSeen {Q K : Type 0} (name : Q → K) (has : Q → Bool) (found : Option ℕ) (rows : List (K × ℕ)) : Type 0 where
  pub was : (q : Q) → has q ≡ true → Contains (names_in rows) (name q)
  pub kept : (q : Q) → Contains (names_in rows) (name q) → has q ≡ true
  pub least : IsLeast (StandsAgain rows) found

-- a connection by its component, or none at a design pin, and its pin
abbrev pub PinKey : Type 0
PinKey = Option (Bor (List ℕ)) × Bor (List ℕ)

-- both are the same connection
abbrev pub same_key : PinKey → PinKey → Bool
same_key x y = option_eq (λ a b. bytes_eq a.now b.now) x.0 y.0 && bytes_eq x.1.now y.1.now

-- whether a set of connections has one
abbrev pub has_pin_key : {S : Type 0} → HashSet PinKey S → PinKey → Bool
has_pin_key set q = contains same_key set q

-- the pin of a design pin, or of a component
abbrev pub pin_by : Option (Bor (List ℕ)) → List ℕ → NetPin
pin_by None pin = net_pins.Port pin
pin_by (Some component) pin = net_pins.Cell component.now pin

-- the pin that a connection is
abbrev pub pin_of_key : PinKey → NetPin
pin_of_key q = pin_by q.0 q.1.now
