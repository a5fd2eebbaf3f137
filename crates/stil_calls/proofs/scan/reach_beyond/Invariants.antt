use Rattle.std.proofs.Common.{◌≡◌, ◌-◌, ◌≤◌, ◌^◌, min, length, drop}
use Rattle.stil_calls.specs.Given.{data_of, longest_in, reach_beyond}
use Rattle.stil_calls.proofs.scan.reach_beyond.Given as goal

abbrev pub invariant-loop-at : goal.invariant-loop-at
invariant-loop-at l = record {
  within : l.at ≤ length l.chains;
  same : reach_beyond (drop l.at l.chains) (data_of (drop l.at l.each)) ≡ reach_beyond l.chains (data_of l.each);
  most : min (longest_in (data_of (drop l.at l.each))) (2 ^ 64 - 1) ≤ l.most;
}

abbrev pub decreases-loop-at : goal.decreases-loop-at
decreases-loop-at l = length l.chains - l.at
