use Rattle.std.proofs.Common.{◌≡◌, ℕ, ◌<◌, ◌≤◌, length}
use Rattle.std.specs.Prelude.{◌≤ℤ◌}
use Rattle.length_bound.specs.Certificates.{AreSmall, number_at}
use Rattle.length_bound.specs.Growth.{IsUnderBoth, place_at}
use Rattle.length_bound.proofs.growth.approach.Given as goal

abbrev pub invariant-loop-j : goal.invariant-loop-j
invariant-loop-j l = record {
  small : AreSmall l.near;
  before : (i : ℕ) → i ≤ l.k → number_at l.near i ≡ number_at l.fn.near i;
  lower : (i : ℕ) → i < length l.row → number_at l.near i ≤ℤ number_at l.fn.near i;
  under : (i : ℕ) → l.k < i → i < l.j → IsUnderBoth l.n (place_at l.row l.k) (place_at l.row i) (number_at l.near i);
}
