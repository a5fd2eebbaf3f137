use Rattle.std.proofs.Common.{◌≡◌, ℕ, ◌<◌, ◌≤◌, false}
use Rattle.retarget.specs.Places.{bits_at}
use Rattle.stil_types.specs.Calls.{is_expectation, compare_at}
use Rattle.retarget.proofs.judge.has_long_compare.Given as goal

abbrev pub invariant-loop-number : goal.invariant-loop-number
invariant-loop-number l = (c k : ℕ) → c < l.number → bits_at l.chains c ≤ k → is_expectation (compare_at l.call c k) ≡ false
