use Rattle.std.specs.HashMap.{get}
use Rattle.chain_trace.specs.Drivers.{same_place}
use Rattle.def_writer.specs.PlanChains.{is_at}
use Rattle.def_writer.proofs.SeenSteps.{find_at}
use Rattle.def_writer.proofs.traced.put_steps.Goals as goal

pub loop-step-preserved : goal.loop-step-preserved
loop-step-preserved c q =
    find_at (is_at q.0 q.1) c.args.more.now c.loop-step.step-index _ (get same_place c.args.steps.now q) (get same_place c.loop-step.steps q) (get same_place c.put_step.new.steps q) c.loop-step-test.true
    (c.in_ok-put_step.ensures.value q) (c.loop-step.invariant q)
