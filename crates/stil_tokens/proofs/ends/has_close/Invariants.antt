use Rattle.std.proofs.Common.{◌≡◌, ◌-◌, ◌≤◌, length, drop, false}
use Rattle.stil_tokens.specs.StilTokens.{has_close}
use Rattle.stil_tokens.proofs.ends.has_close.Given as goal

abbrev pub invariant-loop-at : goal.invariant-loop-at
invariant-loop-at l = record { within : l.at ≤ length l.bytes; same : has_close l.closing l.star (drop l.at l.bytes) ≡ has_close l.closing false l.bytes }

abbrev pub decreases-loop-at : goal.decreases-loop-at
decreases-loop-at l = length l.bytes - l.at
