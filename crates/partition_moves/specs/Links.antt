-- What the tests of moves and exchanges compare: the links at the places of a chain.
use Rattle.std.specs.Prelude.{◌≡◌, ◌≢◌, ℕ, ◌+◌, ◌^◌, ◌<◌, ◌≤◌, ◌⊎◌, List, Some, slice_get, slice_index_or}
use Rattle.chain_rules.specs.Legality.{chain_at, moved_plan, swapped_plan}
use Rattle.chain_rules.specs.declared.plan.Plan.{Plan}
use Rattle.chain_rules.specs.declared.unit.Rules.{Rules}
use Rattle.wire_cost.specs.declared.ends.Ends.{Ends}
use Rattle.wire_cost.specs.Lengths.{ChainEnds, IsNear, chain_ends, link_of}
use Rattle.wire_cost.specs.Rows.{before_at, next_at}
use Rattle.partition_moves.specs.Covers.{link_at}
use Rattle.order_search.specs.Trials.{IsGain, at}
use Rattle.partition_moves.specs.declared.lift.Lift.{Lift}

-- where the unit at place i of a chain is entered and left, its two links, and the one that closes its place without it
pub record IsLift (w : ChainEnds) (us : List ℕ) (i : ℕ) (l : Lift) : Type 0 where
  pub entry : slice_get w.entry (slice_index_or us i 0) ≡ Some l.entry
  pub exit : slice_get w.exit (slice_index_or us i 0) ≡ Some l.exit
  pub opened : l.opened ≡ link_of (before_at w us i) (Some l.entry) + link_of (Some l.exit) (next_at w us (i + 1))
  pub closed : l.closed ≡ link_of (before_at w us i) (next_at w us (i + 1))

-- its points are near and its links small
pub record IsSmallLift (l : Lift) : Type 0 where
  pub entry : IsNear l.entry
  pub exit : IsNear l.exit
  pub opened : l.opened ≤ 2 ^ 44
  pub closed : l.closed ≤ 2 ^ 43

-- the wire is shorter where the unit stands at place k of these
abbrev pub IsShorterAt : ChainEnds → List ℕ → Lift → ℕ → Type 0
IsShorterAt w us l k = link_of (before_at w us k) (Some l.entry) + link_of (Some l.exit) (next_at w us k) + l.closed < link_at w us k + l.opened

-- the two links at place k are shorter where the unit stands there in place of the one that does
abbrev pub IsCloserAt : ChainEnds → List ℕ → Lift → ℕ → Type 0
IsCloserAt w us l k = link_of (before_at w us k) (Some l.entry) + link_of (Some l.exit) (next_at w us (k + 1)) < link_at w us k + link_at w us (k + 1)

-- the unit at place i of chain c that is put at place k of chain d, which counts with the unit, stands then at place j
abbrev pub Lands : ℕ → ℕ → ℕ → ℕ → ℕ → Type 0
Lands c i d k j = ((c ≡ d) × (i < k) × (j + 1 ≡ k)) ⊎ ((c ≡ d → k ≤ i) × (j ≡ k))

-- chain d isn't chain c, or place k is neither before nor behind its unit at place i
abbrev pub IsApart : ℕ → ℕ → ℕ → ℕ → Type 0
IsApart c i d k = c ≡ d → (k ≢ i) × (k ≢ i + 1)

-- the move of the unit at place i of chain c to place k of chain d, which counts with the unit, is no gain
abbrev pub NoMoveAt : Rules → Ends → Plan → ℕ → ℕ → ℕ → ℕ → Type 0
NoMoveAt rules ends p c i d k = (j : ℕ) → Lands c i d k j → ¬ IsGain rules ends p (moved_plan p (at c i) (at d j))

-- the two links at place k are shorter where unit u stands there in place of the one that does
abbrev pub IsCloserBy : ChainEnds → List ℕ → ℕ → ℕ → Type 0
IsCloserBy w us u k = link_of (before_at w us k) (slice_get w.entry u) + link_of (slice_get w.exit u) (next_at w us (k + 1)) < link_at w us k + link_at w us (k + 1)

-- the exchange of the units at place i of chain c and at place k of chain d is no gain, where the links of the latter place
-- get shorter
abbrev pub NoCloserSwapAt : Rules → Ends → Plan → ℕ → ℕ → ℕ → ℕ → Type 0
NoCloserSwapAt rules ends p c i d k = IsCloserBy (chain_ends ends d) (chain_at p d) (slice_index_or (chain_at p c) i 0) k → ¬ IsGain rules ends p (swapped_plan p (at c i) (at d k))
