use Rattle.std.proofs.Common.{◌≡◌, ◌≤◌, length}
use Rattle.stil_calls.specs.Repeats.{repeats_from, whole_from}
use Rattle.stil_calls.proofs.repeats.Repeats.next.Given as goal

abbrev pub invariant-loop-b : goal.invariant-loop-b
invariant-loop-b l = record {
  same : repeats_from l.self.escape l.self.bytes.now ≡ repeats_from l.fn.self.escape l.fn.self.bytes.now;
  whole : whole_from l.self.escape l.self.bytes.now ≡ whole_from l.fn.self.escape l.fn.self.bytes.now;
  shorter : length l.self.bytes.now ≤ length l.fn.self.bytes.now;
}

abbrev pub decreases-loop-b : goal.decreases-loop-b
decreases-loop-b l = length l.self.bytes.now
