use Rattle.net_edit.specs.Applied.{put_instance}
use Rattle.net_edit.proofs.PutSteps.{placed_more}
use Rattle.net_edit.proofs.applied.put_instances.Goals as goal

pub loop-place-preserved : goal.loop-place-preserved
loop-place-preserved c = λ at has.
    placed_more (put_instance at) c.args.instances.now c.loop-place.place c.index-instances-place.result c.loop-place.copies c.push.new.self c.in_ok-put_instance.field-0 c.loop-place-test.true c.index-instances-place.is
    (c.loop-place.invariant at has) (c.in_ok-put_instance.ensures.value at has) c.in_ok-push.ensures.ok
