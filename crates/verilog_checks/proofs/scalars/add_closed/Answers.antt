use Rattle.std.proofs.Common.{sym, ap, ◌∙◌}
use Rattle.verilog_names.specs.Values.{unescaped}
use Rattle.verilog_checks.proofs.ClosedNames.{closed_added, closed_left}
use Rattle.verilog_checks.proofs.scalars.add_closed.Goals.{then-is_bracketed+in_ok-insert, else-is_bracketed}
use Rattle.verilog_checks.proofs.scalars.add_closed.Goals as goal

pub loop-written-preserved : goal.loop-written-preserved
loop-written-preserved c = λ before h q.
    let xs = c.args.declared.now in
    let i = c.loop-written.written-index in
    let d = c.written-item.result in
    let name = c.unescaped-name.result.now in
    let at = c.unescaped-name.ensures.value ∙ ap unescaped c.written-item.is in
    elim c.if-is_bracketed.branch [
      | then-is_bracketed+in_ok-insert w ↦
          rw w.set-is (closed_added before xs i d name q.now _ _ c.loop-written-test.true at (sym c.is_bracketed.ensures.value ∙ w.if-is_bracketed.true) (w.in_ok-insert.ensures.updates.0 q) (c.loop-written.invariant before h q))
      | else-is_bracketed w ↦ rw w.set-is (closed_left before xs i d name q.now _ c.loop-written-test.true at (sym c.is_bracketed.ensures.value ∙ w.if-is_bracketed.false) (c.loop-written.invariant before h q))
    ]
