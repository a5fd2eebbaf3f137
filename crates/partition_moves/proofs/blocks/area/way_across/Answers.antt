use Rattle.std.proofs.Common.{arith}
use Rattle.std.proofs.lemmas.Int.{ints}
use Rattle.partition_moves.proofs.blocks.area.way_across.Goals as goal

pub returns-clause-one : goal.returns-clause-one
returns-clause-one c = λ h. (c.args.point.x, grind (arith, ints, c.if-point-area.false), grind (arith, ints, c.if-area-point.false), omega (arith, ints))
