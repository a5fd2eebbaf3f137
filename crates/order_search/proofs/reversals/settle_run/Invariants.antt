use Rattle.std.proofs.Common.{◌≡◌, ℕ, ◌+◌, ◌<◌, ◌≤◌, drop, cond, false}
use Rattle.std.specs.List.Sorted.{IsPermutation}
use Rattle.wire_cost.specs.Lengths.{IsChainAt, chain_ends, chain_length_of}
use Rattle.order_search.specs.Runs.{IsRunSettled, IsSettledAt}
use Rattle.order_search.specs.Sums.{IsFilledWith}
use Rattle.order_search.proofs.reversals.settle_run.Given as goal

abbrev pub invariant-passes : goal.invariant-passes
invariant-passes l = record {
  chain : IsChainAt l.ends l.chain l.units;
  filled : IsFilledWith (chain_ends l.ends l.chain) l.units l.sums;
  room : l.sums.room ≡ l.fn.sums.room;
  permutation : IsPermutation l.fn.units l.units;
  tail : drop l.limit l.units ≡ drop l.limit l.fn.units;
  no_longer : chain_length_of l.ends l.chain l.units ≤ chain_length_of l.ends l.chain l.fn.units;
  settled : l.again ≡ false → IsRunSettled l.ends l.chain l.units l.limit;
  shorter : l.taken.steps + chain_length_of l.ends l.chain l.units ≤ chain_length_of l.ends l.chain l.fn.units;
  still : l.taken.steps ≡ 0 → l.units ≡ l.fn.units;
}

-- the length, and one more where another pass is to come
abbrev pub decreases-passes : goal.decreases-passes
decreases-passes l = chain_length_of l.ends l.chain l.units + cond l.again 1 0

abbrev pub invariant-places : goal.invariant-places
invariant-places l = record {
  chain : IsChainAt l.ends l.chain l.units;
  filled : IsFilledWith (chain_ends l.ends l.chain) l.units l.sums;
  room : l.sums.room ≡ l.fn.sums.room;
  permutation : IsPermutation l.fn.units l.units;
  tail : drop l.limit l.units ≡ drop l.limit l.fn.units;
  progress : chain_length_of l.ends l.chain l.units + cond l.again 1 0 ≤ chain_length_of l.ends l.chain l.initial.units;
  settled : l.again ≡ false → (k : ℕ) → k < l.i → IsSettledAt l.ends l.chain l.units l.limit k;
  shorter : l.taken.steps + chain_length_of l.ends l.chain l.units ≤ chain_length_of l.ends l.chain l.fn.units;
  still : l.taken.steps ≡ 0 → l.units ≡ l.fn.units;
}

abbrev pub invariant-gains : goal.invariant-gains
invariant-gains l = record {
  chain : IsChainAt l.ends l.chain l.units;
  filled : IsFilledWith (chain_ends l.ends l.chain) l.units l.sums;
  room : l.sums.room ≡ l.fn.sums.room;
  permutation : IsPermutation l.fn.units l.units;
  tail : drop l.limit l.units ≡ drop l.limit l.fn.units;
  progress : chain_length_of l.ends l.chain l.units + cond l.again 1 0 ≤ chain_length_of l.ends l.chain l.initial.units + cond l.initial.again 1 0;
  settled : l.again ≡ false → (k : ℕ) → k < l.i → IsSettledAt l.ends l.chain l.units l.limit k;
  shorter : l.taken.steps + chain_length_of l.ends l.chain l.units ≤ chain_length_of l.ends l.chain l.fn.units;
  still : l.taken.steps ≡ 0 → l.units ≡ l.fn.units;
}

abbrev pub decreases-gains : goal.decreases-gains
decreases-gains l = chain_length_of l.ends l.chain l.units
