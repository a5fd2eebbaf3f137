-- Chains whose links are as short as they can be.
use Rattle.std.specs.Prelude.{ℕ, ◌+◌, ◌<◌, ◌≤◌, List, length, slice_get}
use Rattle.chain_rules.specs.declared.unit.Rules.{Rules}
use Rattle.wire_cost.specs.declared.ends.Ends.{Ends}
use Rattle.wire_cost.specs.Lengths.{ChainEnds, link_of}
use Rattle.wire_cost.specs.Rows.{before_at, next_at}
use Rattle.partition_moves.specs.Covers.{link_at}

-- no unit is left farther from where it is entered
abbrev pub AreNarrow : Rules → Ends → ℕ → Type 0
AreNarrow rules e m = (u : ℕ) → u < length rules.units → link_of (slice_get e.entry u) (slice_get e.exit u) ≤ m

-- the two links at place k are no longer than the way past its unit, less so much
abbrev pub IsStraightAt : ChainEnds → List ℕ → ℕ → ℕ → Type 0
IsStraightAt w us m k = link_at w us k + link_at w us (k + 1) + m ≤ link_of (before_at w us k) (next_at w us (k + 1))
