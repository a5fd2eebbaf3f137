use Rattle.std.proofs.Common.{◌≡◌, ◌+◌, ◌-◌, ◌≤◌, length, drop, false}
use Rattle.stil_tokens.specs.StilTokens.{closed_len}
use Rattle.stil_tokens.proofs.pieces.closed_len.Given as goal

abbrev pub invariant-loop-at : goal.invariant-loop-at
invariant-loop-at l = record { within : l.at ≤ length l.bytes; same : l.at + closed_len l.closing l.star (drop l.at l.bytes) ≡ closed_len l.closing false l.bytes }

abbrev pub decreases-loop-at : goal.decreases-loop-at
decreases-loop-at l = length l.bytes - l.at
