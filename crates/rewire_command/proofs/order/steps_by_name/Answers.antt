use Rattle.rewire_command.proofs.Ordering.{found_more}
use Rattle.rewire_command.proofs.order.steps_by_name.Goals as goal

pub loop-step-preserved : goal.loop-step-preserved
loop-step-preserved c = λ q.
    found_more c.args.netlist.now c.as_slice-step-items.result.now c.args.path.now.steps c.loop-step.step-index _ c.instance_name.result.now q.now _ _ c.as_slice-step-items.ensures.value c.loop-step-test.true
    c.instance_name.ensures.value (c.in_ok-add.ensures.ok q) (c.loop-step.invariant q)
