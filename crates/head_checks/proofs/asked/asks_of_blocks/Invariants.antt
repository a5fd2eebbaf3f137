use Rattle.std.proofs.Common.{◌≡◌, map, take}
use Rattle.traced_paths.specs.Asked.{told}
use Rattle.head_checks.specs.Asked.{asked_by_block}
use Rattle.head_checks.proofs.asked.asks_of_blocks.Given as goal

abbrev pub invariant-loop-block : goal.invariant-loop-block
invariant-loop-block l = map told l.asks.items ≡ map asked_by_block (take l.block-index l.blocks)
