use Rattle.std.proofs.Common.{◌≡◌, ℕ, ◌<◌, ◌≤◌, get_or, false}
use Rattle.stil_types.specs.Calls.{is_expectation}
use Rattle.retarget.proofs.judge.expects_from.Given as goal

abbrev pub invariant-loop-index : goal.invariant-loop-index
invariant-loop-index l = (k : ℕ) → l.from ≤ k → k < l.index → is_expectation (get_or l.text k 88) ≡ false
