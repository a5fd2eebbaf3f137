use Rattle.std.proofs.Common.{List, sym, ap, ◌∙◌, drop}
use Rattle.token_forms.specs.Tokens.{Token}
use Rattle.lef_pins.specs.BlockReading.{pin_item_at}
use Rattle.lef_pins.specs.Blocks.{ends_named, pin_items}
use Rattle.lef_pins.specs.Reading.{put_pin_item}
use Rattle.lef_pins.proofs.Trees.{pin_reads}
use Rattle.lef_pins.proofs.Loops.{fewer, one_more, all_done}
use Rattle.lef_pins.proofs.pins.read_pin.Goals as goal

pub loop-rest-smaller : goal.loop-rest-smaller
loop-rest-smaller c =
    let ends = ends_named c.args.name.now in
    fewer ends pin_items pin_item_at (pin_reads ends) c.loop-rest.rest c.read_pin_item.new.rest (sym c.loop-rest-test.ensures.value) c.read_pin_item.ensures.rest

pub loop-rest-preserved : goal.loop-rest-preserved
loop-rest-preserved c =
    let ends = ends_named c.args.name.now in
    one_more ends pin_items pin_item_at (pin_reads ends) put_pin_item c.loop-rest.pin c.read_pin_item.new.pin c.args.pin.now c.loop-rest.rest c.read_pin_item.new.rest c.args.rest.now
    (sym c.loop-rest-test.ensures.value) c.read_pin_item.ensures.pin c.read_pin_item.ensures.rest c.loop-rest.invariant

pub returns-clause-pin : goal.returns-clause-pin
returns-clause-pin c =
    let ends = ends_named c.args.name.now in
    (all_done ends pin_items pin_item_at (pin_reads ends) put_pin_item c.loop-rest.pin c.args.pin.now c.loop-rest.rest c.args.rest.now (sym c.loop-rest-test.ensures.value) c.loop-rest.invariant).same

pub returns-clause-closed : goal.returns-clause-closed
returns-clause-closed c =
    let ends = ends_named c.args.name.now in
    c.ends_named-closed.ensures.value
    ∙ ap ends (all_done ends pin_items pin_item_at (pin_reads ends) put_pin_item c.loop-rest.pin c.args.pin.now c.loop-rest.rest c.args.rest.now (sym c.loop-rest-test.ensures.value) c.loop-rest.invariant).end

pub returns-clause-rest : goal.returns-clause-rest
returns-clause-rest c =
    let ends = ends_named c.args.name.now in
    c.skip.ensures.behind
    ∙ ap (λ (ts : List Token). drop 2 ts) (all_done ends pin_items pin_item_at (pin_reads ends) put_pin_item c.loop-rest.pin c.args.pin.now c.loop-rest.rest c.args.rest.now (sym c.loop-rest-test.ensures.value) c.loop-rest.invariant).end
