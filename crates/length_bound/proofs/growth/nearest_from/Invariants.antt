use Rattle.std.proofs.Common.{ℕ, ◌<◌, ◌≤◌, length}
use Rattle.std.specs.Prelude.{◌≤ℤ◌}
use Rattle.length_bound.specs.Certificates.{number_at}
use Rattle.length_bound.proofs.growth.nearest_from.Given as goal

abbrev pub invariant-loop-j : goal.invariant-loop-j
invariant-loop-j l = record {
  behind : l.first ≤ l.best;
  within : l.best < length l.near;
  least : (i : ℕ) → l.first ≤ i → i < l.j → number_at l.near l.best ≤ℤ number_at l.near i;
}
