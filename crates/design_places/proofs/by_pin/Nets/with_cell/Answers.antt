use Rattle.std.proofs.Common.{Some, sym, ◌∙◌}
use Rattle.design_places.specs.PinPlaces.{is_asked}
use Rattle.design_places.proofs.PinsNoted.{pin_at, pin_nowhere}
use Rattle.design_places.proofs.by_pin.Nets.with_cell.Goals as goal

pub returns-in-Some : goal.returns-in-Some
returns-in-Some c = record {
  value = rw (← c.self.view_is) (c.net_at.ensures.value ∙ pin_at (is_asked c.self.inside.names) c.self.inside.places c.self.inside.nets.now (Some c.args.component, c.args.pin) c.self.invariant (sym c.if-not-contains.ensures) c.in-Some.place.now (sym c.in-Some.ensures.value));
}

pub returns-in-None : goal.returns-in-None
returns-in-None c = record { value = rw (← c.self.view_is) (pin_nowhere (is_asked c.self.inside.names) c.self.inside.places c.self.inside.nets.now (Some c.args.component, c.args.pin) c.self.invariant (sym c.if-not-contains.ensures) (sym c.in-None.ensures.value)) }
