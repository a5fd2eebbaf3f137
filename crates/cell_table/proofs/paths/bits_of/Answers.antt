use Rattle.std.proofs.lemmas.Result.{err_from_is_err_and}
use Rattle.cell_table.specs.Cells.{bit_of}
use Rattle.cell_table.proofs.Loops.{item_goes_on, item_gives, items_end}
use Rattle.cell_table.proofs.paths.bits_of.Goals as goal

pub returns-in_err-bit_of : goal.returns-in_err-bit_of
returns-in_err-bit_of c =
    let items = c.deref-value-items.ensures.value in
    let p = err_from_is_err_and c.from_residual.result c.from_residual.ensures.1 in
    rw (p.1, p.2) (item_gives bit_of c.loop-value.bits c.args.values.now.items c.loop-value.value-index _ c.value-item.result c.in_err-bit_of.field-0.0
    (rw items at c.loop-value-test.true) (rw items at c.value-item.is) c.in_err-bit_of.ensures c.loop-value.invariant)

pub loop-value-preserved : goal.loop-value-preserved
loop-value-preserved c =
    let items = c.deref-value-items.ensures.value in
    rw c.in_ok-push.ensures.ok (item_goes_on bit_of c.loop-value.bits c.args.values.now.items c.loop-value.value-index _ c.value-item.result c.in_ok-bit_of.field-0
    (rw items at c.loop-value-test.true) (rw items at c.value-item.is) c.in_ok-bit_of.ensures c.loop-value.invariant)

pub returns : goal.returns
returns c =
    let items = c.deref-value-items.ensures.value in
    items_end bit_of c.loop-value.bits c.args.values.now.items c.loop-value.value-index _ (rw items at c.loop-value-test.false) c.loop-value.invariant
