use Rattle.std.proofs.Common.{◌≡◌, ℕ, ◌<◌, ◌≤◌}
use Rattle.chain_rules.specs.Stretches.{path_at, step_at}
use Rattle.chain_rules.specs.Runs.{stretch, mark_at}
use Rattle.chain_rules.proofs.listing.has_unmarked_bit.Given as goal

abbrev pub invariant-loop-place : goal.invariant-loop-place
invariant-loop-place l =
    (k : ℕ) → l.listing.run.from ≤ k → k < l.place → mark_at (stretch l.listing.run) l.listing.marks.items k ≡ 0 → ¬ (0 < (step_at (path_at l.index l.listing.run.path) k).bits)
