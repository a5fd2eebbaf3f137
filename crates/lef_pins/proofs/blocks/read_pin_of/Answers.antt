use Rattle.std.proofs.Common.{sym}
use Rattle.lef_pins.proofs.Items.{pin_put}
use Rattle.lef_pins.proofs.blocks.read_pin_of.Goals as goal

pub returns-clause-value : goal.returns-clause-value
returns-clause-value c =
    rw (c.in_ok-put_pin.ensures.value, c.read_pin-closed.ensures.pin, c.read_pin-closed.ensures.closed, c.skip.ensures.behind, c.bytes.ensures.value, c.bytes-2.ensures.value, c.in_ok-name.ensures.value, c.text.ensures.value, c.start-place.ensures.value)
    (sym (pin_put c.args.m.now c.args.rest.now c.requires.pin).state_is)

pub returns-clause-rest : goal.returns-clause-rest
returns-clause-rest c =
    rw (c.read_pin-closed.ensures.rest, c.skip.ensures.behind, c.bytes.ensures.value, c.in_ok-name.ensures.value, c.text.ensures.value) (sym (pin_put c.args.m.now c.args.rest.now c.requires.pin).rest_is)
