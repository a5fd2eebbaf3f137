use Rattle.std.proofs.Common.{◌≡◌, ℕ, ◌<◌}
use Rattle.chain_rules.specs.Runs.{stretch, mark_at}
use Rattle.chain_rules.proofs.listing.has_mark_between.Given as goal

abbrev pub invariant-loop-place : goal.invariant-loop-place
invariant-loop-place l = (k : ℕ) → l.low < k → k < l.place → mark_at (stretch l.listing.run) l.listing.marks.items k ≡ 0
