use borrow.Author.Count.{below_more}
use Rattle.order_search.specs.Trials.{NoMoveOf}
use Rattle.order_search.proofs.plain.has_move_in.Goals as goal

pub loop-i-preserved : goal.loop-i-preserved
loop-i-preserved c = below_more (NoMoveOf c.args.rules.now c.args.ends.now c.args.plan.now c.args.c) c.loop-i.i c.loop-i.invariant (c.in_ok-has_move_of.ensures.none (λ y. cc))
