use Rattle.std.proofs.Common.{ℕ, ◌<◌, ◌≤◌, length}
use Rattle.chain_rules.specs.Legality.{chain_at}
use Rattle.order_search.proofs.order.longest_chain.Given as goal

abbrev pub invariant-loop-c : goal.invariant-loop-c
invariant-loop-c l = (k : ℕ) → k < l.c → length (chain_at l.plan k) ≤ l.longest
