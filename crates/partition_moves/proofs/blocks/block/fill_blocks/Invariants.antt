use Rattle.std.proofs.Common.{◌≡◌, length}
use Rattle.wire_cost.specs.Lengths.{chain_ends}
use Rattle.partition_moves.proofs.blocks.Filling.{AreFirstBlocks}
use Rattle.partition_moves.proofs.blocks.block.fill_blocks.Given as goal

abbrev pub invariant-loop-b : goal.invariant-loop-b
invariant-loop-b l = record {
  room : length l.blocks ≡ length l.fn.blocks;
  filled : AreFirstBlocks (chain_ends l.ends l.chain) l.units l.blocks l.b;
}
