use Rattle.design_maker.proofs.PieceLaws.{no_pieces, one_more}
use Rattle.design_maker.proofs.pieces.push_pieces.Goals as goal

pub loop-number-init : goal.loop-number-init
loop-number-init g c = no_pieces _ _

pub loop-number-preserved : goal.loop-number-preserved
loop-number-preserved g c = one_more _ _ _ _ _ c.loop-number.invariant c.in_ok-push.ensures.value
