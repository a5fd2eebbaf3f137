use Rattle.std.proofs.lemmas.Bool.{iff_false}
use Rattle.partition_moves.proofs.Landing.{no_move_across}
use Rattle.partition_moves.proofs.Refused.{no_move_shut, not_not}
use Rattle.partition_moves.proofs.moves.are_open.Goals as goal

pub returns-then-not-are_together : goal.returns-then-not-are_together
returns-then-not-are_together c = record {
  none = λ n e. no_move_across c.args.rules.now e c.args.plan.now.plan c.args.c c.args.d c.requires.legal c.requires.chain c.requires.other (iff_false c.are_together.ensures.value c.if-not-are_together.true);
}

pub returns : goal.returns
returns c = record {
  none = λ n e. no_move_shut c.args.rules.now e c.args.plan.now.plan c.args.c c.args.d c.args.plan.now.least c.requires.legal c.requires.chain c.requires.other c.if-c-d.false c.requires.kept.least (c.are_shut.ensures.shut (not_not c.are_shut.result n));
}
