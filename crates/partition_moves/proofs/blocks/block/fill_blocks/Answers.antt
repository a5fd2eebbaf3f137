use Rattle.std.proofs.Common.{arith}
use Rattle.std.proofs.lemmas.List.{length-set}
use Rattle.wire_cost.specs.Lengths.{chain_ends}
use Rattle.partition_moves.proofs.blocks.Filling.{blocks_all, blocks_more}
use Rattle.partition_moves.proofs.blocks.block.fill_blocks.Goals as goal

pub loop-b-preserved : goal.loop-b-preserved
loop-b-preserved c = record {
  room = omega (arith, length-set c.loop-b.blocks c.loop-b.b c.block_of.result, c.loop-b.invariant.room);
  filled = blocks_more (chain_ends c.args.ends.now c.args.chain) c.args.units.now c.loop-b.blocks c.loop-b.b c.min-until.result c.block_of.result (omega (arith, c.loop-b.invariant.room, c.requires.room)) c.block_of.ensures.near c.block_of.ensures.covers (λ k p q. omega arith) c.loop-b.invariant.filled;
}

pub returns-clause-blocks : goal.returns-clause-blocks
returns-clause-blocks c = blocks_all (chain_ends c.args.ends.now c.args.chain) c.args.units.now c.loop-b.blocks c.loop-b.b (omega arith) c.loop-b.invariant.filled
