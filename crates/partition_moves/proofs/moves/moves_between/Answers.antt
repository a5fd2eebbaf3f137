use Rattle.std.proofs.Common.{refl}
use Rattle.partition_moves.proofs.Settled.{not_true}
use Rattle.partition_moves.proofs.moves.moves_between.Goals as goal

pub returns-then-not-are_open-clause-quiet : goal.returns-then-not-are_open-clause-quiet
returns-then-not-are_open-clause-quiet c = λ y. (refl, c.are_open.ensures.none (not_true c.are_open.result c.if-not-are_open.true) c.args.ends.now)
