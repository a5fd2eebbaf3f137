use Rattle.std.proofs.Common.{ℕ, ◌<◌, ◌≤◌}
use Rattle.chain_rules.specs.Legality.{unit_at}
use Rattle.partition_moves.proofs.held.least_bits.Given as goal

abbrev pub invariant-loop-unit : goal.invariant-loop-unit
invariant-loop-unit l = (u : ℕ) → u < l.unit-index → l.least ≤ (unit_at l.rules u).bits
