use Rattle.std.proofs.Common.{◌≡◌, ◌+◌, length}
use Rattle.stil_syntax.specs.Shapes.{before_block}
use Rattle.stil_syntax.proofs.loops.before_len.Given as goal

abbrev pub invariant-loop-token : goal.invariant-loop-token
invariant-loop-token l = record {
  same : l.count + length (before_block l.rest) ≡ length (before_block l.tokens);
  within : l.count + length l.rest ≡ length l.tokens;
}

abbrev pub decreases-loop-token : goal.decreases-loop-token
decreases-loop-token l = length l.rest
