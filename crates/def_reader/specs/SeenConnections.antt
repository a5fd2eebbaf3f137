-- What the check of connections has seen.
use Rattle.std.specs.Prelude.{ℕ, List}
use Rattle.def_reader.specs.declared.connections.SeenPins.{SeenPins}
use Rattle.def_reader.specs.declared.design.NetPin.{NetPin}
use Rattle.def_reader.specs.Steps.{IsSeen, has_pin_key, pin_of_key}

-- the connections so far are those of the rows, and the least line at which one stood again is known
abbrev pub IsSeenPins : SeenPins → List (NetPin × ℕ) → Type 0
IsSeenPins seen rows = IsSeen pin_of_key (has_pin_key seen.pins) seen.least rows
