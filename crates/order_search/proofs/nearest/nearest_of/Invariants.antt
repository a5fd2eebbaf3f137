use Rattle.std.proofs.Common.{◌≡◌, ℕ, ◌<◌, ◌≤◌, get_or, slice_get}
use Rattle.wire_cost.specs.Lengths.{link_of}
use Rattle.order_search.proofs.nearest.nearest_of.Given as goal

abbrev pub invariant-loop-k : goal.invariant-loop-k
invariant-loop-k l = record {
  within : l.best < l.k;
  value : l.least ≡ link_of l.from (slice_get l.ends.entry (get_or l.left l.best 0));
  first : (k : ℕ) → k < l.best → l.least < link_of l.from (slice_get l.ends.entry (get_or l.left k 0));
  least : (k : ℕ) → k < l.k → l.least ≤ link_of l.from (slice_get l.ends.entry (get_or l.left k 0));
}
