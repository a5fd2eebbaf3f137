use Rattle.std.proofs.Common.{sym, ap, ◌∙◌, drop, ℕ}
use Rattle.lef_pins.proofs.Items.{port_put, of_pin_put}
use Rattle.lef_pins.proofs.pins.read_pin_item.Goals as goal

pub returns-then-begins_port-clause-pin : goal.returns-then-begins_port-clause-pin
returns-then-begins_port-clause-pin c =
    rw (c.put_end.ensures.value, c.read_port-closed.ensures.pin, c.read_port-closed.ensures.closed, c.skip.ensures.behind, c.start-place.ensures.value)
    (sym (port_put c.args.pin.now c.args.rest.now (sym c.if-begins_port.ensures.value)).state_is)

pub returns-then-begins_port-clause-rest : goal.returns-then-begins_port-clause-rest
returns-then-begins_port-clause-rest c =
    rw (c.read_port-closed.ensures.rest, c.skip.ensures.behind) (sym (port_put c.args.pin.now c.args.rest.now (sym c.if-begins_port.ensures.value)).rest_is)

pub returns-else-begins_port-clause-pin : goal.returns-else-begins_port-clause-pin
returns-else-begins_port-clause-pin c = sym (of_pin_put c.args.pin.now c.args.rest.now (sym c.if-begins_port.ensures.value)).state_is

pub returns-else-begins_port-clause-rest : goal.returns-else-begins_port-clause-rest
returns-else-begins_port-clause-rest c =
    c.skip-else-begins_port.ensures.behind
    ∙ ap (λ (n : ℕ). drop n c.args.rest.now) c.inner_len.ensures.value
    ∙ sym (of_pin_put c.args.pin.now c.args.rest.now (sym c.if-begins_port.ensures.value)).rest_is
