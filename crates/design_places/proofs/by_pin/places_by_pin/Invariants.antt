use Rattle.design_places.specs.PinPlaces.{is_asked, ArePinsNoted}
use Rattle.design_places.proofs.by_pin.places_by_pin.Given as goal

abbrev pub invariant-loop-place : goal.invariant-loop-place
invariant-loop-place l = ArePinsNoted (is_asked l.names) l.places l.nets l.place
