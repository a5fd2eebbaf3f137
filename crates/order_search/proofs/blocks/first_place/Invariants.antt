use Rattle.std.proofs.Common.{ℕ, ◌-◌, ◌*◌, ◌/◌, ◌<◌, ◌≤◌}
use Rattle.wire_cost.specs.Lengths.{chain_ends}
use Rattle.order_search.specs.Aims.{IsNoGainTo}
use Rattle.order_search.proofs.blocks.first_place.Given as goal

abbrev pub invariant-tries : goal.invariant-tries
invariant-tries l = record {
  low : l.from / 32 ≤ l.at;
  high : l.at ≤ l.last;
  none : (j : ℕ) → l.from ≤ j → j < l.until → j < 32 * l.at → IsNoGainTo (chain_ends l.ends l.chain) l.units l.aim j;
}

abbrev pub decreases-tries : goal.decreases-tries
decreases-tries l = l.last - l.at
