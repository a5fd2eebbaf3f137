use Rattle.std.proofs.Common.{◌≡◌, ◌<◌, ℕ, length, take, sum_by, slice_index_or}
use Rattle.chain_rules.specs.Indexes.{steps_before}
use Rattle.chain_rules.proofs.index.counts_before.Given as goal

abbrev pub invariant-loop-path : goal.invariant-loop-path
invariant-loop-path l = record {
  sum : l.before ≡ sum_by (λ path. length path.steps) (take l.path-index l.paths);
  long : length l.counts.items ≡ l.path-index;
  each : (n : ℕ) → n < l.path-index → slice_index_or l.counts.items n 0 ≡ steps_before l.paths n;
}
