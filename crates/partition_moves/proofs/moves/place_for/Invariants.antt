use Rattle.std.proofs.Common.{ℕ, ◌+◌, ◌-◌, ◌<◌, ◌≤◌, length}
use Rattle.chain_rules.specs.Legality.{chain_at}
use Rattle.partition_moves.specs.Links.{NoMoveAt}
use Rattle.partition_moves.proofs.moves.place_for.Given as goal

abbrev pub invariant-places : goal.invariant-places
invariant-places l = (k : ℕ) → k < l.from → k ≤ length (chain_at l.plan.plan l.d) → NoMoveAt l.rules l.ends l.plan.plan l.c l.i l.d k

abbrev pub decreases-places : goal.decreases-places
decreases-places l = length (chain_at l.plan.plan l.d) + 1 - l.from
