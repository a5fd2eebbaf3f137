use Rattle.std.proofs.Common.{◌≡◌, ◌+◌, ◌-◌, ◌<◌, ◌≤◌, ℕ, get_or, length}
use Rattle.std.specs.Vec.{vec_capacity}
use Rattle.fail_map.proofs.mapping.put_count.Given as goal

abbrev pub invariant-loop-counts : goal.invariant-loop-counts
invariant-loop-counts l = record {
  same : (k : ℕ) → get_or l.counts.items k 0 ≡ get_or l.initial.counts.items k 0;
  room : length l.counts.items ≤ l.pattern → l.pattern < vec_capacity l.counts;
}

abbrev pub decreases-loop-counts : goal.decreases-loop-counts
decreases-loop-counts l = l.pattern + 1 - length l.counts.items
