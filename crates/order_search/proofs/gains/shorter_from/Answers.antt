use Rattle.order_search.proofs.Lanes.{settled_more}
use Rattle.order_search.proofs.gains.shorter_from.Goals as goal

pub loop-j-preserved : goal.loop-j-preserved
loop-j-preserved c = settled_more c.args.ends.now c.args.chain c.args.units.now c.args.i c.args.from c.loop-j.j c.loop-j.invariant (c.is_shorter_turned.ensures.no c.if-is_shorter_turned.false)
