use Rattle.std.proofs.Common.{◌≡◌, ℕ, ◌<◌, length, get_or, []}
use Rattle.chain_rules.specs.Plans.{lists_of}
use Rattle.order_search.specs.Nearest.{IsNearestChain}
use Rattle.order_search.proofs.nearest.nearest_plan.Given as goal

abbrev pub invariant-loop-chain : goal.invariant-loop-chain
invariant-loop-chain l = record {
  count : length l.chains.items ≡ l.chain;
  nearest : (c : ℕ) → c < l.chain → IsNearestChain l.rules l.ends c (get_or (lists_of l.chains.items) c []);
}
