use Rattle.std.proofs.Common.{length}
use Rattle.partition_moves.proofs.Settled.{filled_few, filled_range}
use Rattle.partition_moves.proofs.moves.take_move.Goals as goal

pub fill_blocks-requires-clause-chain : goal.fill_blocks-requires-clause-chain
fill_blocks-requires-clause-chain c =
    filled_range c.args.rules.now c.args.ends.now _ _ c.args.plan.now.plan c.args.d c.chain.result.now c.move_counted.ensures.value c.requires.searchable c.requires.gain.legal c.requires.legal c.requires.other c.chain.ensures.value

pub fill_blocks-requires-clause-room : goal.fill_blocks-requires-clause-room
fill_blocks-requires-clause-room c =
    filled_few c.args.rules.now _ _ c.args.plan.now.plan c.args.d c.chain.result.now (length c.args.blocks.now) c.move_counted.ensures.value c.requires.gain.legal c.requires.legal c.requires.other c.chain.ensures.value c.requires.room
