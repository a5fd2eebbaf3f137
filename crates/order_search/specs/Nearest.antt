-- The plan of nearest neighbours.
use Rattle.std.specs.Prelude.{◌≡◌, ℕ, ◌+◌, ◌<◌, ◌⊎◌, nat_eq, List, length, take, drop, Option, slice_get, slice_index_or, All, IsTrue, IsPermutation}
use Rattle.std.specs.List.{position_or_len}
use Rattle.base_types.specs.declared.span.Point.{Point}
use Rattle.chain_rules.specs.Legality.{chain_at, unit_at}
use Rattle.chain_rules.specs.declared.plan.Plan.{Plan}
use Rattle.chain_rules.specs.declared.unit.Rules.{Rules}
use Rattle.wire_cost.specs.declared.ends.Ends.{Ends}
use Rattle.wire_cost.specs.Lengths.{chain_ends, end_of, link_of}
use Rattle.order_search.specs.Steps.{IsPinnedLast}

-- the place of a unit in a chain as read
abbrev pub read_place : List ℕ → ℕ → ℕ
read_place read u = position_or_len (nat_eq u) read

-- from the point p the link to unit u is less than that to unit v, or as long and u stands before v as read
abbrev pub IsNearer : Ends → List ℕ → Option Point → ℕ → ℕ → Type 0
IsNearer ends read p u v =
    (link_of p (slice_get ends.entry u) < link_of p (slice_get ends.entry v))
    ⊎ ((link_of p (slice_get ends.entry u) ≡ link_of p (slice_get ends.entry v)) × (read_place read u < read_place read v))

-- the point that a chain comes from before its place k
abbrev pub point_at : Ends → ℕ → List ℕ → ℕ → Option Point
point_at ends c us k = let w = chain_ends ends c in end_of w.exit w.start (take k us)

-- a chain holds its units as read, each the nearest to what stands before it among those behind it; a pinned one stands last
-- and isn't counted among these
pub record IsNearestChain (rules : Rules) (ends : Ends) (c : ℕ) (us : List ℕ) : Type 0 where
  pub same : IsPermutation (chain_at rules.read c) us
  pub nearest : (k : ℕ) → k < length us → All (λ v. ¬ IsTrue (unit_at rules v).pinned → IsNearer ends (chain_at rules.read c) (point_at ends c us k) (slice_index_or us k 0) v) (drop (k + 1) us)
  pub pinned : IsPinnedLast rules us

-- each chain of the plan is so
pub record IsNearestPlan (rules : Rules) (ends : Ends) (p : Plan) : Type 0 where
  pub count : length p.chains ≡ length rules.read.chains
  pub chains : (c : ℕ) → c < length p.chains → IsNearestChain rules ends c (chain_at p c)
