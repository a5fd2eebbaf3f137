use Rattle.std.proofs.Common.{◌≡◌}
use Rattle.stil_syntax.specs.Shapes.{behind_within, behind_labels}
use Rattle.stil_syntax.proofs.labels.behind_labels.Given as goal

abbrev pub invariant-loop-left : goal.invariant-loop-left
invariant-loop-left l = behind_within l.left l.rest ≡ behind_labels l.tokens

abbrev pub decreases-loop-left : goal.decreases-loop-left
decreases-loop-left l = l.left
