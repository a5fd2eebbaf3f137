use Rattle.std.proofs.lemmas.Result.{err_from_is_err_and}
use Rattle.cell_table.specs.Ascending.{HasOutsInOrder}
use Rattle.cell_table.specs.Cells.{path_of}
use Rattle.cell_table.proofs.Loops.{item_goes_on, item_gives, items_end}
use Rattle.cell_table.proofs.Orders.{each_more}
use Rattle.cell_table.proofs.paths.paths_of.Goals as goal

pub returns-in_err-path_of-clause-value : goal.returns-in_err-path_of-clause-value
returns-in_err-path_of-clause-value c =
    let items = c.deref-value-items.ensures.value in
    let p = err_from_is_err_and c.from_residual.result c.from_residual.ensures.1 in
    rw (p.1, p.2) (item_gives path_of c.loop-value.paths c.args.values.now.items c.loop-value.value-index _ c.value-item.result c.in_err-path_of.field-0.0
    (rw items at c.loop-value-test.true) (rw items at c.value-item.is) c.in_err-path_of.ensures.value c.loop-value.invariant.same)

pub loop-value-preserved : goal.loop-value-preserved
loop-value-preserved c =
    let items = c.deref-value-items.ensures.value in
    let path = c.in_ok-path_of.field-0 in
    rw c.in_ok-push.ensures.ok (record {
      same = item_goes_on path_of c.loop-value.paths c.args.values.now.items c.loop-value.value-index _ c.value-item.result path
          (rw items at c.loop-value-test.true) (rw items at c.value-item.is) c.in_ok-path_of.ensures.value c.loop-value.invariant.same;
      order = each_more HasOutsInOrder c.loop-value.paths path c.loop-value.invariant.order c.in_ok-path_of.ensures.order;
    })

pub returns-clause-value : goal.returns-clause-value
returns-clause-value c =
    let items = c.deref-value-items.ensures.value in
    items_end path_of c.loop-value.paths c.args.values.now.items c.loop-value.value-index _ (rw items at c.loop-value-test.false) c.loop-value.invariant.same

pub returns-clause-order : goal.returns-clause-order
returns-clause-order c = c.loop-value.invariant.order
