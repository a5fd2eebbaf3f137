use Rattle.design_places.specs.PinPlaces.{is_asked}
use Rattle.design_places.proofs.PinsNoted.{net_noted}
use Rattle.design_places.proofs.by_pin.places_by_pin.Goals as goal

pub loop-place-preserved : goal.loop-place-preserved
loop-place-preserved c =
    net_noted (is_asked c.args.names.now) c.loop-place.places c.add_net.new.places c.args.nets.now c.loop-place.place c.index-nets-place.result c.loop-place-test.true c.index-nets-place.is c.in_ok-add_net.ensures.ok c.loop-place.invariant
