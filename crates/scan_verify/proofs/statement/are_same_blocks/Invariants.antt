use Rattle.std.proofs.Common.{ℕ, ◌<◌, get_or}
use Rattle.scan_verify.proofs.Places.{no_body, AreSameInBlocks}
use Rattle.scan_verify.proofs.statement.are_same_blocks.Given as goal

abbrev pub invariant-loop-index : goal.invariant-loop-index
invariant-loop-index l = (k : ℕ) → k < l.index → AreSameInBlocks l.map.0 l.map.1 l.text l.other (get_or l.body k no_body) (get_or l.block k no_body)
