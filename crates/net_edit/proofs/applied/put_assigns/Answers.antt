use Rattle.std.proofs.Common.{◌==◌}
use Rattle.std.specs.HashMap.{get}
use Rattle.net_edit.specs.Applied.{put_assign}
use Rattle.net_edit.proofs.PutSteps.{placed_more}
use Rattle.net_edit.proofs.applied.put_assigns.Goals as goal

pub loop-place-preserved : goal.loop-place-preserved
loop-place-preserved c =
    placed_more (put_assign (get ◌==◌ c.args.rights.now)) c.args.assigns.now c.loop-place.place c.index-assigns-place.result c.loop-place.copies c.push.new.self c.in_ok-put_assign.field-0 c.loop-place-test.true c.index-assigns-place.is
    c.loop-place.invariant c.in_ok-put_assign.ensures.value c.in_ok-push.ensures.ok
