use Rattle.traced_paths.specs.Steps.{is_marked}
use Rattle.def_writer.specs.PlanChains.{names_step}
use Rattle.def_writer.proofs.SeenSteps.{put_at}
use Rattle.def_writer.proofs.listing.put_elements.Goals as goal

pub loop-element-preserved : goal.loop-element-preserved
loop-element-preserved c step =
    put_at (names_step step) c.args.elements.now c.loop-element.element-index _ (is_marked c.args.set.now step) (is_marked c.loop-element.set step) (is_marked c.insert.new.self step) c.loop-element-test.true
    (c.in_ok-insert.ensures.updates.0 (step.instance, step.path)) (c.loop-element.invariant step)
