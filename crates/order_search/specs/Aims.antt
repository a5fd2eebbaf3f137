-- How runs from one place are tested by the sums of a chain's links.
use Rattle.std.specs.Prelude.{◌≢◌, ℕ, ℤ, pos, ◌+◌, ◌*◌, ◌^◌, ◌+ℤ◌, ◌-ℤ◌, ◌<◌, ◌≤◌, ◌≤ℤ◌, List, length, None, Some, unsigned_abs}
use Rattle.wire_cost.specs.Lengths.{ChainEnds, IsNear, backward_sum, forward_sum, link_of}
use Rattle.wire_cost.specs.Rows.{next_at}
use Rattle.order_search.specs.declared.blocks.Aim.{Aim}

-- its points are near and its limit small
pub record IsSmallAim (aim : Aim) : Type 0 where
  pub before : IsNear aim.before
  pub exit : IsNear aim.exit
  pub limit : unsigned_abs aim.limit ≤ 2 ^ 61

-- the two links that a run up to the unit at place j gets, and the links up to it turned round less the same as they are and
-- the one behind
abbrev pub turned_sum : ChainEnds → List ℕ → Aim → ℕ → ℤ
turned_sum w us aim j = pos (link_of (Some aim.before) (next_at w us j) + link_of (Some aim.exit) (next_at w us (j + 1))) +ℤ (pos (backward_sum w us (j + 1)) -ℤ pos (forward_sum w us (j + 2)))

-- that is no less than the limit
abbrev pub IsNoGainTo : ChainEnds → List ℕ → Aim → ℕ → Type 0
IsNoGainTo w us aim j = aim.limit ≤ℤ turned_sum w us aim j

-- so it is for each unit of a block that has a point behind it
abbrev pub IsPassed : ChainEnds → List ℕ → Aim → ℕ → Type 0
IsPassed w us aim b = (j : ℕ) → 32 * b ≤ j → j < 32 * b + 32 → j < length us → next_at w us (j + 1) ≢ None → IsNoGainTo w us aim j
