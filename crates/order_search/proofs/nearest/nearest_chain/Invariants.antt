use Rattle.std.proofs.Common.{◌≡◌, length}
use Rattle.chain_rules.specs.Legality.{chain_at}
use Rattle.wire_cost.specs.Lengths.{IsNearOrNowhere, chain_ends, end_of}
use Rattle.order_search.proofs.Placing.{IsPlacing}
use Rattle.order_search.proofs.nearest.nearest_chain.Given as goal

abbrev pub invariant-loop : goal.invariant-loop
invariant-loop l = record {
  count : length l.placed.items ≡ l.counter;
  placing : IsPlacing l.ends l.chain (chain_at l.rules.read l.chain) l.free l.placed.items l.left.items;
  from : l.from ≡ end_of l.ends.exit (chain_ends l.ends l.chain).start l.placed.items;
  near : IsNearOrNowhere l.from;
}
