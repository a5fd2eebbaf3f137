use Rattle.std.proofs.Common.{sym, ap, ◌∙◌}
use Rattle.lef_pins.specs.Reading.{put_statement}
use Rattle.lef_pins.proofs.Items.{shapes_put, statement_put}
use Rattle.lef_pins.proofs.blocks.read_macro_item.Goals as goal

pub returns-then-begins_shapes-clause-value : goal.returns-then-begins_shapes-clause-value
returns-then-begins_shapes-clause-value c =
    rw (c.with_syntax-m.ensures.value, c.pass_shapes-closed.ensures.closed, c.skip.ensures.behind, c.start-place.ensures.value)
    (sym (shapes_put c.args.m.now c.args.rest.now (sym c.if-begins_named.ensures.value) (sym c.if-begins_shapes.ensures.value)).state_is)

pub returns-then-begins_shapes-clause-rest : goal.returns-then-begins_shapes-clause-rest
returns-then-begins_shapes-clause-rest c =
    rw (c.pass_shapes-closed.ensures.rest, c.skip.ensures.behind) (sym (shapes_put c.args.m.now c.args.rest.now (sym c.if-begins_named.ensures.value) (sym c.if-begins_shapes.ensures.value)).rest_is)

pub returns-clause-value : goal.returns-clause-value
returns-clause-value c =
    c.put_statement.ensures.value
    ∙ ap (put_statement c.args.m.now) c.take_statement-statement.ensures.statement
    ∙ sym (statement_put c.args.m.now c.args.rest.now (sym c.if-begins_named.ensures.value) (sym c.if-begins_shapes.ensures.value)).state_is

pub returns-clause-rest : goal.returns-clause-rest
returns-clause-rest c =
    c.take_statement-statement.ensures.rest ∙ sym (statement_put c.args.m.now c.args.rest.now (sym c.if-begins_named.ensures.value) (sym c.if-begins_shapes.ensures.value)).rest_is
