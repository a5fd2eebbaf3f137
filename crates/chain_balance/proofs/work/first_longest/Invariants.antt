use Rattle.std.proofs.Common.{◌≡◌, ◌-◌, ◌<◌, ℕ, length, get_or}
use Rattle.chain_balance.proofs.work.first_longest.Given as goal

abbrev pub invariant-loop-path : goal.invariant-loop-path
invariant-loop-path l = record {
  within : l.path < length l.loads;
  before : (k : ℕ) → k < l.path → ¬ (get_or l.loads k 0 ≡ l.most);
}

abbrev pub decreases-loop-path : goal.decreases-loop-path
decreases-loop-path l = length l.loads - l.path
