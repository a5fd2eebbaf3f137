use Rattle.std.proofs.Common.{◌≡◌, ℕ, ◌<◌}
use Rattle.chain_rules.specs.Stretches.{IsInside}
use Rattle.chain_rules.specs.Runs.{stretch, mark_at}
use Rattle.chain_rules.proofs.cuts.first_marked.Given as goal

abbrev pub invariant-loop-place : goal.invariant-loop-place
invariant-loop-place l = (j : ℕ) → IsInside (stretch l.listing.run) j → j < l.place → mark_at (stretch l.listing.run) l.listing.marks.items j ≡ 0
