use Rattle.std.proofs.Common.{List, sym, ap, ◌∙◌, drop}
use Rattle.token_forms.specs.Tokens.{Token}
use Rattle.lef_pins.specs.BlockReading.{inner_at}
use Rattle.lef_pins.specs.Blocks.{ends_shapes, statements}
use Rattle.lef_pins.specs.Reading.{put_rect}
use Rattle.lef_pins.proofs.Trees.{inner_reads}
use Rattle.lef_pins.proofs.Loops.{fewer, one_more, all_done}
use Rattle.lef_pins.proofs.pins.read_port.Goals as goal

pub loop-rest-smaller : goal.loop-rest-smaller
loop-rest-smaller c = fewer ends_shapes statements inner_at (inner_reads ends_shapes) c.loop-rest.rest c.take_statement-statement.new.rest (sym c.loop-rest-test.ensures.value) c.take_statement-statement.ensures.rest

pub loop-rest-preserved : goal.loop-rest-preserved
loop-rest-preserved c =
    one_more ends_shapes statements inner_at (inner_reads ends_shapes) put_rect c.loop-rest.pin c.put_rect.new.self c.args.pin.now c.loop-rest.rest c.take_statement-statement.new.rest c.args.rest.now
    (sym c.loop-rest-test.ensures.value) (c.put_rect.ensures.value ∙ ap (put_rect c.loop-rest.pin) c.take_statement-statement.ensures.statement) c.take_statement-statement.ensures.rest c.loop-rest.invariant

pub returns-clause-pin : goal.returns-clause-pin
returns-clause-pin c =
    (all_done ends_shapes statements inner_at (inner_reads ends_shapes) put_rect c.loop-rest.pin c.args.pin.now c.loop-rest.rest c.args.rest.now (sym c.loop-rest-test.ensures.value) c.loop-rest.invariant).same

pub returns-clause-closed : goal.returns-clause-closed
returns-clause-closed c =
    c.ends_shapes-closed.ensures.value
    ∙ ap ends_shapes (all_done ends_shapes statements inner_at (inner_reads ends_shapes) put_rect c.loop-rest.pin c.args.pin.now c.loop-rest.rest c.args.rest.now (sym c.loop-rest-test.ensures.value) c.loop-rest.invariant).end

pub returns-clause-rest : goal.returns-clause-rest
returns-clause-rest c =
    c.skip.ensures.behind
    ∙ ap (λ (ts : List Token). drop 1 ts) (all_done ends_shapes statements inner_at (inner_reads ends_shapes) put_rect c.loop-rest.pin c.args.pin.now c.loop-rest.rest c.args.rest.now (sym c.loop-rest-test.ensures.value) c.loop-rest.invariant).end
