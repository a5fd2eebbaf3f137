use Rattle.std.proofs.Common.{◌≡◌, ℕ, ◌<◌, length}
use Rattle.chain_rules.specs.Legality.{bits_of, chain_at}
use Rattle.partition_moves.specs.Roomy.{held_in}
use Rattle.partition_moves.proofs.held.held_by.Given as goal

abbrev pub invariant-loop-c : goal.invariant-loop-c
invariant-loop-c l = record {
  counts : length l.bits.items ≡ l.c;
  each : (k : ℕ) → k < l.c → held_in l.bits.items k ≡ bits_of l.rules (chain_at l.plan k);
}
