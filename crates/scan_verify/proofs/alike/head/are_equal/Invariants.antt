use Rattle.std.proofs.Common.{◌≡◌, length}
use Rattle.std.specs.Prelude.{◌↔◌}
use Rattle.scan_verify.proofs.alike.head.are_equal.Given as goal

abbrev pub invariant-loop-token : goal.invariant-loop-token
invariant-loop-token l = (l.fn.a ≡ l.fn.b) ↔ (l.a ≡ l.b)

abbrev pub decreases-loop-token : goal.decreases-loop-token
decreases-loop-token l = length l.a
