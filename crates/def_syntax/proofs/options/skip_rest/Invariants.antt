use Rattle.std.proofs.Common.{◌≡◌, ◌≤◌, ◌+◌, length}
use Rattle.def_syntax.specs.Options.{rest_at}
use Rattle.def_syntax.proofs.options.skip_rest.Given as goal

abbrev pub invariant-loop-token : goal.invariant-loop-token
invariant-loop-token l = record {
  read : rest_at l.depth l.parser.tokens ≡ rest_at 0 l.fn.parser.tokens;
  room : l.depth + length l.parser.tokens ≤ l.most;
  shorter : length l.parser.tokens ≤ length l.fn.parser.tokens;
}

abbrev pub decreases-loop-token : goal.decreases-loop-token
decreases-loop-token l = length l.parser.tokens
