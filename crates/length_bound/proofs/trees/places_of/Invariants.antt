use Rattle.std.proofs.Common.{◌≡◌, ℕ, ◌<◌, length}
use Rattle.wire_cost.specs.Lengths.{chain_ends}
use Rattle.length_bound.specs.Growth.{IsNearPlace, IsPlace, place_at}
use Rattle.length_bound.proofs.trees.places_of.Given as goal

abbrev pub invariant-loop-number : goal.invariant-loop-number
invariant-loop-number l = record {
  count : length l.row.items ≡ l.number;
  each : (i : ℕ) → i < l.number → IsPlace (chain_ends l.ends l.chain) l.units l.weights (place_at l.row.items i);
  near : (i : ℕ) → i < l.number → IsNearPlace (place_at l.row.items i);
  numbers : (i : ℕ) → i < l.number → (place_at l.row.items i).number ≡ i;
}
