use Rattle.std.proofs.Common.{◌≡◌, ◌<◌, ◌+◌, ◌^◌, length}
use Rattle.token_forms.specs.Tokens.{tokens_left}
use Rattle.scan_verify.specs.Staying.{left, depth_of}
use Rattle.scan_verify.proofs.alike.staying.StayingTokens.next.Given as goal

abbrev pub invariant-loop-token : goal.invariant-loop-token
invariant-loop-token l = record {
  left : l.fn.self ≡ left l.self-inside.standing (tokens_left l.self-inside.tokens);
  room : depth_of l.self-inside.standing + length l.self-inside.tokens.spans < 2 ^ 64;
}

abbrev pub decreases-loop-token : goal.decreases-loop-token
decreases-loop-token l = length l.self-inside.tokens.spans
