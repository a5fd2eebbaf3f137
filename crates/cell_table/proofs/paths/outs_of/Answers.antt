use Rattle.std.proofs.lemmas.Result.{err_from_is_err_and}
use Rattle.std.proofs.Common.{◌∙◌}
use Rattle.cell_table.specs.Cells.{out_of}
use Rattle.cell_table.proofs.Loops.{front_none, member_goes_on, member_gives, members_end}
use Rattle.cell_table.proofs.CellLoop.{ascend_from}
use Rattle.cell_table.proofs.Orders.{outs_more, outs_end}
use Rattle.cell_table.proofs.paths.outs_of.Goals as goal

pub loop-pin-init : goal.loop-pin-init
loop-pin-init c =
    let is = c.into_iter-pin-iterator.ensures.into_iter_gives.0 in
    let none = c.new-outs.ensures.value in
    rw (none, is) (tt, tt, record { same = front_none _; ascend = ascend_from c.args.pins.now.entries c.into_iter-pin-iterator.ensures.into_iter_gives.5 })

pub returns-in_err-out_of-clause-value : goal.returns-in_err-out_of-clause-value
returns-in_err-out_of-clause-value c =
    let p = err_from_is_err_and c.from_residual.result c.from_residual.ensures.1 in
    rw (p.1, p.2) (member_gives out_of c.loop-pin.outs c.loop-pin.pin-iterator c.next.new.self c.in-Some.pin.now c.in-Some.value.now c.as_str.result.now _
    c.in-Some.ensures.steps c.as_str.ensures.value c.in_err-out_of.field-0.0 c.in_err-out_of.ensures.value c.loop-pin.invariant.2.same)

pub loop-pin-preserved : goal.loop-pin-preserved
loop-pin-preserved c =
    let out = c.in_ok-out_of.field-0 in
    rw c.in_ok-push.ensures.ok (
      tt,
      tt,
      record {
        same = member_goes_on out_of c.loop-pin.outs c.loop-pin.pin-iterator c.next.new.self c.in-Some.pin.now c.in-Some.value.now c.as_str.result.now _
            c.in-Some.ensures.steps c.as_str.ensures.value out c.in_ok-out_of.ensures.value c.loop-pin.invariant.2.same;
        ascend = outs_more c.loop-pin.outs out c.loop-pin.pin-iterator c.next.new.self c.in-Some.pin.now c.in-Some.value.now c.in-Some.ensures.steps (c.in_ok-out_of.ensures.pin ∙ c.as_str.ensures.value) c.loop-pin.invariant.2.ascend;
      },
    )

pub returns-clause-value : goal.returns-clause-value
returns-clause-value c = members_end out_of c.loop-pin.outs c.loop-pin.pin-iterator _ c.in-None.ensures.steps.0 c.loop-pin.invariant.2.same

pub returns-clause-order : goal.returns-clause-order
returns-clause-order c = outs_end c.loop-pin.outs c.loop-pin.pin-iterator c.in-None.ensures.steps.0 c.loop-pin.invariant.2.ascend
