use Rattle.stil_head.proofs.marks.has_mark.Given as goal
use Rattle.std.proofs.Common.{◌≡◌, length, false}
use Rattle.stil_head.specs.Unsupported.{has_mark}

abbrev pub invariant-loop-token : goal.invariant-loop-token
invariant-loop-token l = has_mark l.assigns l.rest ≡ has_mark false l.tokens

abbrev pub decreases-loop-token : goal.decreases-loop-token
decreases-loop-token l = length l.rest
