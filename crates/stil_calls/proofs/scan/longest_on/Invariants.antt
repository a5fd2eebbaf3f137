use Rattle.std.proofs.Common.{◌≡◌, ◌-◌, ◌≤◌, ◌^◌, min, max, length, drop}
use Rattle.std.specs.Prelude.{option_copied}
use Rattle.std.specs.List.{list_any}
use Rattle.stil_calls.specs.Scans.{is_unsound}
use Rattle.stil_calls.specs.Given.{data_of, longest_in}
use Rattle.stil_calls.proofs.scan.longest_on.Given as goal

abbrev pub invariant-loop-at : goal.invariant-loop-at
invariant-loop-at l = record {
  within : l.at ≤ length l.each;
  sound : list_any (λ given. is_unsound l.side (option_copied given)) (drop l.at l.each) ≡ list_any (λ given. is_unsound l.side (option_copied given)) l.each;
  same : max l.longest (min (longest_in (data_of (drop l.at l.each))) (2 ^ 64 - 1)) ≡ min (longest_in (data_of l.each)) (2 ^ 64 - 1);
}

abbrev pub decreases-loop-at : goal.decreases-loop-at
decreases-loop-at l = length l.each - l.at
