use Rattle.std.proofs.Common.{◌≡◌, ℕ, ◌<◌, length, get_or}
use Rattle.chain_balance.specs.Balance.{path_bits}
use Rattle.chain_balance.proofs.work.loads_of.Given as goal

abbrev pub invariant-loop-path : goal.invariant-loop-path
invariant-loop-path l = record {
  long : length l.loads.items ≡ l.path;
  each : (path : ℕ) → path < l.path → get_or l.loads.items path 0 ≡ path_bits l.rules l.fixed l.plan path;
}
