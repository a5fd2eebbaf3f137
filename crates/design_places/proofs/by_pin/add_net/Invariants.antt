use Rattle.std.proofs.Common.{◌≡◌, true, Some, None, take}
use Rattle.std.specs.Prelude.{if◌then◌else◌}
use Rattle.std.specs.List.{list_any}
use Rattle.std.specs.HashMap.{get}
use Rattle.std.specs.Option.{option_or}
use Rattle.def_reader.specs.Steps.{PinKey, same_key, pin_of_key}
use Rattle.design_places.specs.NetPins.{same_pin}
use Rattle.design_places.specs.PinPlaces.{is_asked}
use Rattle.design_places.proofs.by_pin.add_net.Given as goal

abbrev pub invariant-loop-pin : goal.invariant-loop-pin
invariant-loop-pin l =
    (q : PinKey) → is_asked l.names (pin_of_key q) ≡ true → get same_key l.places q ≡ option_or (get same_key l.initial.places q) (if list_any (same_pin (pin_of_key q)) (take l.pin-index l.net.pins) then Some l.place else None)
