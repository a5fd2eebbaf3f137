use Rattle.std.proofs.Common.{◌≡◌, length, false}
use Rattle.stil_syntax.specs.Shapes.{holds_scan}
use Rattle.stil_syntax.proofs.callee.holds_scan.Given as goal

abbrev pub invariant-loop-found : goal.invariant-loop-found
invariant-loop-found l = holds_scan l.head l.begins l.rest ≡ holds_scan l.head false l.tokens

abbrev pub decreases-loop-found : goal.decreases-loop-found
decreases-loop-found l = length l.rest
