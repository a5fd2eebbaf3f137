use Rattle.std.proofs.Common.{◌≡◌, ◌++◌, length, map}
use Rattle.head_text.specs.Written.{head_edits}
use Rattle.head_writer.specs.NewChains.{new_chain}
use Rattle.head_writer.proofs.edits.head_edits.Given as goal

abbrev pub invariant-loop-chain : goal.invariant-loop-chain
invariant-loop-chain l =
    l.edits.items ++ head_edits l.head.marks l.rest (map (new_chain l.names) l.left) ≡ head_edits l.head.marks l.head.chains (map (new_chain l.names) l.paths)

abbrev pub decreases-loop-chain : goal.decreases-loop-chain
decreases-loop-chain l = length l.rest
