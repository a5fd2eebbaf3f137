use Rattle.std.proofs.Common.{◌≡◌, ℕ, ◌<◌, ◌≤◌}
use Rattle.chain_rules.specs.Runs.{stretch, mark_at}
use Rattle.chain_rules.proofs.cuts.end_of_unit.Given as goal

pub record Far (marks : ℕ → ℕ) (to start group last place : ℕ) : Type 0 where
  pub order : start ≤ last
  pub below : last ≤ place
  pub inside : last < to
  pub mark : marks last ≡ group
  pub within : (k : ℕ) → start ≤ k → k ≤ last → 0 < marks k → marks k ≡ group
  pub beyond : (k : ℕ) → last < k → k < place → marks k ≡ 0

abbrev pub invariant-loop-place : goal.invariant-loop-place
invariant-loop-place l = Far (mark_at (stretch l.listing.run) l.listing.marks.items) l.listing.run.to l.start l.group l.last l.place
