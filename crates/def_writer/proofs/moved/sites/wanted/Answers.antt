use Rattle.def_writer.proofs.moved.FoundSites.{pair_put}
use Rattle.def_writer.proofs.moved.sites.wanted.Goals as goal

pub loop-pair-preserved : goal.loop-pair-preserved
loop-pair-preserved c = λ q.
    pair_put c.args.pairs.now c.loop-pair.pair-index _ q _ _ _ c.loop-pair-test.true (c.in_ok-insert.ensures.updates.0 q) (c.in_ok-insert-2.ensures.updates.0 q) (c.loop-pair.invariant q)
