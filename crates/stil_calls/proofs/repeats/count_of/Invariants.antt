use Rattle.std.proofs.Common.{◌≡◌, ◌≤◌, ◌+◌, ◌-◌, ◌^◌, min, length}
use Rattle.stil_calls.specs.Repeats.{repeats_from, repeats_of, count_of}
use Rattle.stil_calls.proofs.repeats.count_of.Given as goal

abbrev pub invariant-loop-repeat : goal.invariant-loop-repeat
invariant-loop-repeat l = record {
  small : l.count ≤ 2 ^ 64 - 1;
  same : min (l.count + count_of (repeats_from l.repeats.escape l.repeats.bytes.now)) (2 ^ 64 - 1) ≡ min (count_of (repeats_of l.bytes)) (2 ^ 64 - 1);
}

abbrev pub decreases-loop-repeat : goal.decreases-loop-repeat
decreases-loop-repeat l = length l.repeats.bytes.now
