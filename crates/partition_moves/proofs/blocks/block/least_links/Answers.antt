use Rattle.std.proofs.Common.{◌+◌, arith}
use Rattle.wire_cost.specs.Rows.{before_at, next_at}
use Rattle.partition_moves.proofs.blocks.block.least_links.Goals as goal

pub returns-clause-least_behind : goal.returns-clause-least_behind
returns-clause-least_behind c = λ w us k l h. omega (arith, c.least_way.ensures.least_back (before_at w us k) h.from, c.least_way-2.ensures.value.least (next_at w us (k + 1)) (h.behind l))
