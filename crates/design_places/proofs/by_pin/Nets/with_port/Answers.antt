use Rattle.std.proofs.Common.{sym, ap, ◌∙◌}
use Rattle.design_places.specs.NetPins.{net_with}
use Rattle.design_places.specs.PinPlaces.{is_asked}
use Rattle.design_places.proofs.PinsNoted.{pin_at, pin_nowhere}
use Rattle.design_places.proofs.by_pin.Nets.with_port.Goals as goal

pub returns-in-Some : goal.returns-in-Some
returns-in-Some c = record {
  value = rw (← c.self.view_is)
      (c.net_at.ensures.value ∙ pin_at (is_asked c.self.inside.names) c.self.inside.places c.self.inside.nets.now c.port_key.result c.self.invariant (ap (is_asked c.self.inside.names) c.port_key.ensures.value) c.in-Some.place.now (sym c.in-Some.ensures.value)
      ∙ ap (net_with c.self.inside.nets.now) c.port_key.ensures.value);
}

pub returns-in-None : goal.returns-in-None
returns-in-None c = record {
  value = rw (← c.self.view_is)
      (pin_nowhere (is_asked c.self.inside.names) c.self.inside.places c.self.inside.nets.now c.port_key.result c.self.invariant (ap (is_asked c.self.inside.names) c.port_key.ensures.value) (sym c.in-None.ensures.value)
      ∙ ap (net_with c.self.inside.nets.now) c.port_key.ensures.value);
}
