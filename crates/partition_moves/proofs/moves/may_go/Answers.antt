use Rattle.partition_moves.proofs.Refused.{no_move_unfit}
use Rattle.partition_moves.proofs.moves.may_go.Goals as goal

pub returns : goal.returns
returns c = record {
  none = λ n e. no_move_unfit c.args.rules.now e c.args.plan.now.plan c.args.c c.args.i c.args.d c.requires.legal c.requires.chain c.requires.place c.requires.other c.if-c-d.false (c.may_move.ensures.none n);
}
