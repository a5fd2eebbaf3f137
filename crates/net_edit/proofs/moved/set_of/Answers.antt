use Rattle.path_links.proofs.EditKeys.{link_added}
use Rattle.net_edit.proofs.moved.set_of.Goals as goal

pub loop-link-preserved : goal.loop-link-preserved
loop-link-preserved c q =
    link_added c.args.links.now c.loop-link.link-index _ c.key_of.result q _ _ c.loop-link-test.true c.key_of.ensures.value (c.in_ok-insert.ensures.updates.0 q) (c.loop-link.invariant q)
