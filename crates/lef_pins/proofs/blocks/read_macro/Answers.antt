use Rattle.std.proofs.Common.{List, sym, ap, ◌∙◌, drop}
use Rattle.token_forms.specs.Tokens.{Token}
use Rattle.lef_pins.specs.BlockReading.{macro_item_at}
use Rattle.lef_pins.specs.Blocks.{ends_named, macro_items}
use Rattle.lef_pins.specs.Reading.{put_macro_item}
use Rattle.lef_pins.proofs.Trees.{macro_reads}
use Rattle.lef_pins.proofs.Loops.{fewer, one_more, all_done}
use Rattle.lef_pins.proofs.blocks.read_macro.Goals as goal

pub loop-alloc-smaller : goal.loop-alloc-smaller
loop-alloc-smaller c =
    let ends = ends_named c.args.name.now in
    fewer ends macro_items macro_item_at (macro_reads ends) c.loop-alloc.rest c.read_macro_item.new.rest (sym c.loop-alloc-test.ensures.value) c.in_ok-read_macro_item.ensures.rest

pub loop-alloc-preserved : goal.loop-alloc-preserved
loop-alloc-preserved c =
    let ends = ends_named c.args.name.now in
    one_more ends macro_items macro_item_at (macro_reads ends) put_macro_item c.loop-alloc.m c.read_macro_item.new.m c.args.m.now c.loop-alloc.rest c.read_macro_item.new.rest c.args.rest.now
    (sym c.loop-alloc-test.ensures.value) c.in_ok-read_macro_item.ensures.value c.in_ok-read_macro_item.ensures.rest c.loop-alloc.invariant

pub returns-clause-value : goal.returns-clause-value
returns-clause-value c =
    let ends = ends_named c.args.name.now in
    (all_done ends macro_items macro_item_at (macro_reads ends) put_macro_item c.loop-alloc.m c.args.m.now c.loop-alloc.rest c.args.rest.now (sym c.loop-alloc-test.ensures.value) c.loop-alloc.invariant).same

pub returns-clause-closed : goal.returns-clause-closed
returns-clause-closed c =
    let ends = ends_named c.args.name.now in
    c.ends_named-closed.ensures.value
    ∙ ap ends (all_done ends macro_items macro_item_at (macro_reads ends) put_macro_item c.loop-alloc.m c.args.m.now c.loop-alloc.rest c.args.rest.now (sym c.loop-alloc-test.ensures.value) c.loop-alloc.invariant).end

pub returns-clause-rest : goal.returns-clause-rest
returns-clause-rest c =
    let ends = ends_named c.args.name.now in
    c.skip.ensures.behind
    ∙ ap (λ (ts : List Token). drop 2 ts) (all_done ends macro_items macro_item_at (macro_reads ends) put_macro_item c.loop-alloc.m c.args.m.now c.loop-alloc.rest c.args.rest.now (sym c.loop-alloc-test.ensures.value) c.loop-alloc.invariant).end
