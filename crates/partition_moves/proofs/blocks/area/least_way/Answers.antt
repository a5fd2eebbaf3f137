use Rattle.partition_moves.proofs.blocks.Ways.{least_link}
use Rattle.partition_moves.proofs.blocks.area.least_way.Goals as goal

pub returns-clause-value : goal.returns-clause-value
returns-clause-value c = least_link c.args.area.now c.args.point c.way_across.result c.way_upward.result c.if-area.false c.way_across.ensures.least c.way_upward.ensures.least c.way_across.ensures.one c.way_upward.ensures.one
