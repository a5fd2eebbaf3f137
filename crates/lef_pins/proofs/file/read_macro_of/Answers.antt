use Rattle.std.proofs.Common.{sym}
use Rattle.lef_pins.proofs.Items.{macro_put}
use Rattle.lef_pins.proofs.file.read_macro_of.Goals as goal

pub returns-clause-value : goal.returns-clause-value
returns-clause-value c =
    rw (c.in_ok-put_macro.ensures.value, c.in_ok-closed.ensures.value, c.in_ok-closed.ensures.closed, c.new-m.ensures.value, c.skip.ensures.behind, c.bytes.ensures.value, c.bytes-2.ensures.value, c.in_ok-name.ensures.value, c.text.ensures.value, c.start-place.ensures.value)
    (sym (macro_put c.args.file.now c.args.rest.now c.requires.begins).state_is)

pub returns-clause-rest : goal.returns-clause-rest
returns-clause-rest c =
    rw (c.in_ok-closed.ensures.rest, c.skip.ensures.behind, c.bytes.ensures.value, c.in_ok-name.ensures.value, c.text.ensures.value) (sym (macro_put c.args.file.now c.args.rest.now c.requires.begins).rest_is)
