use Rattle.std.proofs.Common.{◌≡◌, ◌++◌, length}
use Rattle.stil_syntax.specs.Shapes.{behind_within}
use Rattle.stil_written.specs.Readings.{label_names}
use Rattle.scan_verify.proofs.alike.labels.put_labels.Given as goal

abbrev pub invariant-loop-left : goal.invariant-loop-left
invariant-loop-left l = record {
  names : l.fn.names ++ label_names (length l.fn.tokens) l.fn.tokens ≡ l.names ++ label_names l.left l.tokens;
  behind : behind_within (length l.fn.tokens) l.fn.tokens ≡ behind_within l.left l.tokens;
}

abbrev pub decreases-loop-left : goal.decreases-loop-left
decreases-loop-left l = l.left
