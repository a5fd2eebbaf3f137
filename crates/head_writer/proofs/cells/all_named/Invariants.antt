use Rattle.std.proofs.Common.{◌≡◌, ◌++◌, length}
use Rattle.head_writer.specs.NewChains.{all_named}
use Rattle.head_writer.proofs.cells.all_named.Given as goal

abbrev pub invariant-loop-chain : goal.invariant-loop-chain
invariant-loop-chain l = l.named.items ++ all_named l.text l.rest l.left ≡ all_named l.text l.chains l.paths

abbrev pub decreases-loop-chain : goal.decreases-loop-chain
decreases-loop-chain l = length l.rest
