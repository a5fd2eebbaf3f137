use Rattle.std.proofs.Common.{ap, ◌∙◌}
use Rattle.base_types.specs.Names.{plain_name}
use Rattle.cell_table.specs.declared.table.Cell.{Cell}
use Rattle.cell_table.proofs.CellLoop.{with_none, ascend_from, cell_stops, cells_end, gives_none, same_after, ascend_after}
use Rattle.cell_table.proofs.Orders.{cells_more}
use Rattle.cell_table.proofs.cells.cells_of.Goals as goal

pub loop-name-init : goal.loop-name-init
loop-name-init c =
    let is = c.into_iter-name-iterator.ensures.into_iter_gives ∙ c.iter-name-items.ensures.rest in
    rw (c.new-cells.ensures.items, is) (tt, tt, record { same = with_none _; ascend = ascend_from c.args.table.now.entries c.iter-name-items.ensures.ordered; order = tt })

pub returns-in-Err-NoForm-clause-cells : goal.returns-in-Err-NoForm-clause-cells
returns-in-Err-NoForm-clause-cells c =
    let name = c.in_ok-name.ensures.value ∙ c.as_bytes.ensures.value in
    let stops = cell_stops c.loop-name.cells.items c.loop-name.name-iterator c.next.new.self c.in-Some.name.now c.in-Some.value.now c.in_ok-name.name _
    c.in-Some.ensures.steps name (gives_none c.in-Err-NoForm.field-0 _ c.in-Err-NoForm.field-0-is c.in-Err-NoForm.ensures.value) c.loop-name.invariant.2.same in
    let plain = c.in_ok-plain_name-in-Err-NoForm.ensures.value ∙ ap plain_name c.bytes.ensures.value in
    rw (c.shape_fault.ensures.value, plain) stops

pub loop-name-preserved : goal.loop-name-preserved
loop-name-preserved c =
    let old = c.loop-name.cells.items in
    let new = c.push.new.self.items in
    let cell : Cell = record { name = c.in_ok-name.name; paths = c.in-Ok.paths } in
    let name = c.in_ok-name.ensures.value ∙ c.as_bytes.ensures.value in
    let here = c.loop-name.invariant.2 in
    let added = c.in_ok-push.ensures.items in (
      tt,
      tt,
      record {
        same = same_after old new c.loop-name.name-iterator c.next.new.self c.in-Some.name.now c.in-Some.value.now cell _ c.in-Some.ensures.steps name c.in-Ok.ensures.value here.same here.ascend added;
        ascend = ascend_after old new c.loop-name.name-iterator c.next.new.self c.in-Some.name.now c.in-Some.value.now cell _ c.in-Some.ensures.steps name c.in-Ok.ensures.value here.same here.ascend added;
        order = cells_more old new cell added here.order c.in-Ok.ensures.order;
      },
    )

pub returns-clause-cells : goal.returns-clause-cells
returns-clause-cells c = cells_end c.loop-name.cells.items c.loop-name.name-iterator _ c.in-None.ensures.steps.0 c.loop-name.invariant.2.same
