use Rattle.std.proofs.Common.{◌≡◌, ℕ, ◌<◌, length, get_or}
use Rattle.chain_rules.specs.Legality.{bits_of, chain_at}
use Rattle.chain_balance.proofs.work.held_of.Given as goal

abbrev pub invariant-loop-chain : goal.invariant-loop-chain
invariant-loop-chain l = record {
  long : length l.held.items ≡ l.chain;
  each : (c : ℕ) → c < l.chain → get_or l.held.items c 0 ≡ bits_of l.rules (chain_at l.plan c);
}
