use Rattle.std.proofs.Common.{◌≡◌, ℕ, ◌<◌, ◌≤◌, true}
use Rattle.net_edit.specs.TailNames.{tail_name}
use Rattle.net_edit.specs.TakenNames.{has_name}
use Rattle.net_edit.proofs.names.least_free.Given as goal

abbrev pub invariant-loop-number : goal.invariant-loop-number
invariant-loop-number l = (other : ℕ) → l.from ≤ other → other < l.number → has_name l.taken (tail_name other) ≡ true
