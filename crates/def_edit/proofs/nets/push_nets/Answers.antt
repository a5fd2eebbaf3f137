use Rattle.std.proofs.Common.{arith}
use Rattle.def_edit.specs.Lookups.{rows_of}
use Rattle.def_edit.proofs.NetSteps.{after_skipped, after_put, all_counted}
use Rattle.def_edit.proofs.nets.push_nets.Goals as goal
use Rattle.def_edit.proofs.nets.push_nets.Goals.{in-Net+in_ok-cut+in-Some, in_default}

pub overflow_add-cut : goal.overflow_add-cut
overflow_add-cut c = omega (arith, c.loop-statement.invariant.within, c.loop-statement.invariant.small, c.in_ok-cut.ensures.few)

pub loop-statement-preserved : goal.loop-statement-preserved
loop-statement-preserved c =
    let by = c.args.by.now in
    let rows = rows_of by.bytes.now by.nets.items in
    let n = c.statement-item.result in
    let before = c.loop-statement.invariant in
    elim c.match-statement.branch [
      | in-Net+in_ok-cut+in-Some w ↦
          let after =
          after_put by.bytes.now by.components rows by.moves.now c.args.statements.now c.loop-statement.statement-index c.loop-statement.number w.in-Some.next n n w.in-Net.net c.loop-statement.out.items w.push_net.new.out.items _
          c.loop-statement.cut w.in_ok-cut.field-0 _ c.loop-statement-test.true c.statement-item.is w.in-Net.is w.in-Some.ensures.1 w.in_ok-cut.ensures.value w.in_ok-cut.ensures.cut before.edits before.cuts
          in
          rw (w.out-is, w.number-is, w.cut-is)
          record { within = omega (arith, before.within, w.in_ok-cut.ensures.few, w.in-Some.ensures.1); small = omega (arith, w.in-Some.ensures.0, w.in-Some.ensures.1); edits = after.0; cuts = after.1 }
      | in_default w ↦
          let after =
          after_skipped by.bytes.now by.components rows by.moves.now c.args.statements.now c.loop-statement.statement-index c.loop-statement.number n n c.loop-statement.out.items _
          c.loop-statement.cut _ c.loop-statement-test.true c.statement-item.is w.in_default.is before.edits before.cuts
          in
          rw (w.out-is, w.number-is, w.cut-is) record { within = before.within; small = before.small; edits = after.0; cuts = after.1 }
    ]

pub returns-clause-cut : goal.returns-clause-cut
returns-clause-cut c =
    let by = c.args.by.now in
    all_counted by.bytes.now by.components (rows_of by.bytes.now by.nets.items) by.moves.now c.args.statements.now c.loop-statement.statement-index c.loop-statement.number c.loop-statement.cut _ c.loop-statement-test.false c.loop-statement.invariant.cuts
