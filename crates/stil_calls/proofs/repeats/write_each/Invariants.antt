use Rattle.std.proofs.Common.{◌≡◌, ◌++◌, length}
use Rattle.stil_calls.specs.Repeats.{repeats_from, repeats_of, written}
use Rattle.stil_calls.proofs.repeats.write_each.Given as goal

abbrev pub invariant-loop-repeat : goal.invariant-loop-repeat
invariant-loop-repeat l = l.text.items ++ written (repeats_from l.repeats.escape l.repeats.bytes.now) ≡ written (repeats_of l.bytes)

abbrev pub decreases-loop-repeat : goal.decreases-loop-repeat
decreases-loop-repeat l = length l.repeats.bytes.now
