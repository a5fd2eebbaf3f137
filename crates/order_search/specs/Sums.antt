-- What the tests of reversed runs read: the sums and the rows of the chain with its present units.
use Rattle.std.specs.Prelude.{◌≡◌, ℕ, pos, ◌+◌, ◌≤◌, List, length, slice_index_or}
use Rattle.wire_cost.specs.Filled.{Filled}
use Rattle.wire_cost.specs.Lengths.{ChainEnds, backward_sum, forward_sum}
use Rattle.wire_cost.specs.Rows.{AreBlocksOf, AreRowsOf}

-- the sums and the rows are those of the chain with these units
pub record IsFilledWith (w : ChainEnds) (us : List ℕ) (f : Filled) : Type 0 where
  pub forward_count : length f.forward ≡ length us + 2
  pub forward : (k : ℕ) → k ≤ length us + 1 → slice_index_or f.forward k (pos 0) ≡ pos (forward_sum w us k)
  pub backward_count : length f.backward ≡ length us + 2
  pub backward : (k : ℕ) → k ≤ length us + 1 → slice_index_or f.backward k (pos 0) ≡ pos (backward_sum w us k)
  pub rows : AreRowsOf w us f.rows
  pub block_rows : AreBlocksOf w us f.rows
