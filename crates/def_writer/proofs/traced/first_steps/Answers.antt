use Rattle.std.specs.HashMap.{get}
use Rattle.chain_trace.specs.Drivers.{same_place}
use Rattle.def_writer.specs.PlanChains.{is_at}
use Rattle.def_writer.proofs.SeenSteps.{steps_next}
use Rattle.def_writer.proofs.traced.first_steps.Goals as goal

pub loop-path-preserved : goal.loop-path-preserved
loop-path-preserved c = record {
  first = λ q.
      steps_next (is_at q.0 q.1) c.args.paths.now c.loop-path.path-index c.path-item.result c.as_slice.result.now (get same_place c.loop-path.steps q) (get same_place c.put_steps.new.steps q)
      c.loop-path-test.true c.path-item.is c.as_slice.ensures.value (c.in_ok-put_steps.ensures.value q) (c.loop-path.invariant.first q);
}
