use Rattle.std.proofs.Common.{◌≡◌, ◌-◌, ◌≤◌, length, drop}
use Rattle.stil_parts.specs.Scanner.{later, end_of, run}
use Rattle.stil_parts.proofs.scan.scan_on.Given as goal

abbrev pub invariant-loop-at : goal.invariant-loop-at
invariant-loop-at l = record {
  within : l.at ≤ length l.bytes;
  some : l.from ≤ l.at;
  shallow : l.now.depth ≤ l.at;
  same : later l.from (end_of l.last l.fn.scan (drop l.from l.bytes)) ≡ later l.at (end_of l.last l.now (drop l.at l.bytes));
  ran : run l.fn.scan (drop l.from l.bytes) ≡ run l.now (drop l.at l.bytes);
}

abbrev pub decreases-loop-at : goal.decreases-loop-at
decreases-loop-at l = length l.bytes - l.at
