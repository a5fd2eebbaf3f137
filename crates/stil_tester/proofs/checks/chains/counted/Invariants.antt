use Rattle.std.proofs.Common.{◌≡◌, ◌<◌, ℕ, length, get_or, take}
use Rattle.std.specs.Prelude.{count_by, nat_eq}
use Rattle.stil_tester.proofs.checks.chains.counted.Given as goal

abbrev pub invariant-loop-number : goal.invariant-loop-number
invariant-loop-number l = record {
  long : length l.counts.items ≡ l.cells;
  each : (cell : ℕ) → cell < l.cells → get_or l.counts.items cell 0 ≡ count_by (nat_eq cell) (take l.number-index l.numbers);
}
