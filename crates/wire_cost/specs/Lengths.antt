-- Links, the length of a chain and of a plan, and the sums of a chain's first links.
use Rattle.std.specs.Prelude.{ℕ, ◌+◌, ◌^◌, ◌-ℤ◌, ◌<◌, ◌≤◌, List, [], ◌∷◌, length, take, sum, Option, Some, None, slice_get, slice_index_or, unsigned_abs}
use Rattle.std.specs.List.{concat}
use Rattle.chain_rules.specs.Legality.{chain_at}
use Rattle.chain_rules.specs.declared.plan.Plan.{Plan}
use Rattle.base_types.specs.declared.span.Point.{Point}
use Rattle.wire_cost.specs.declared.ends.Ends.{Ends}

-- the way between two points along the axes
abbrev pub gap_of : Point → Point → ℕ
gap_of p q = unsigned_abs (p.x -ℤ q.x) + unsigned_abs (p.y -ℤ q.y)

-- a link, which is 0 where an end stands nowhere
abbrev pub link_of : Option Point → Option Point → ℕ
link_of None b = 0
link_of (Some p) None = 0
link_of (Some p) (Some q) = gap_of p q

-- what the length of one chain hangs on: where units are entered and left, its start and its stop
pub record ChainEnds : Type 0 where
  pub entry : List Point
  pub exit : List Point
  pub start : Option Point
  pub stop : Option Point

-- what the length of the chain with this number hangs on
abbrev pub chain_ends : Ends → ℕ → ChainEnds
chain_ends e c = record {
  entry = e.entry;
  exit = e.exit;
  start = slice_index_or e.start c None;
  stop = slice_index_or e.stop c None;
}

-- the links of a chain in order, from a point over its units to its stop: each unit is reached at its entry and left at its exit
abbrev pub links_from : ChainEnds → Option Point → List ℕ → List ℕ
links_from w p [] = link_of p w.stop ∷ []
links_from w p (u ∷ us) = link_of p (slice_get w.entry u) ∷ links_from w (slice_get w.exit u) us

-- the links of a chain, from its start on
abbrev pub links_of : ChainEnds → List ℕ → List ℕ
links_of w us = links_from w w.start us

-- the length of a chain is the sum of its links
abbrev pub length_of : ChainEnds → List ℕ → ℕ
length_of w us = sum (links_of w us)

-- the length of the chain with this number over these units
abbrev pub chain_length_of : Ends → ℕ → List ℕ → ℕ
chain_length_of e c us = length_of (chain_ends e c) us

-- the lengths of the chains from the chain with number c on
abbrev pub lengths_from : Ends → ℕ → List (List ℕ) → List ℕ
lengths_from e c [] = []
lengths_from e c (us ∷ rest) = chain_length_of e c us ∷ lengths_from e (c + 1) rest

-- the length of a plan is the sum of the lengths of its chains
abbrev pub plan_length_of : Ends → Plan → ℕ
plan_length_of e p = sum (lengths_from e 0 p.chains)

-- the sum of a chain's first k links
abbrev pub forward_sum : ChainEnds → List ℕ → ℕ → ℕ
forward_sum w us k = sum (take k (links_of w us))

-- the same with the entry and exit of each unit exchanged
abbrev pub exchanged : ChainEnds → ChainEnds
exchanged w = record w { entry = w.exit; exit = w.entry }

-- the sum of the first k links where each unit is run through from its exit to its entry
abbrev pub backward_sum : ChainEnds → List ℕ → ℕ → ℕ
backward_sum w us k = forward_sum (exchanged w) us k

-- where one comes from before the next unit: the exit of the last unit, or else the point x
abbrev pub end_of : List Point → Option Point → List ℕ → Option Point
end_of exit x [] = x
end_of exit x (u ∷ us) = end_of exit (slice_get exit u) us

-- where one goes to: the entry of the first unit, or else the stop
abbrev pub first_of : List Point → Option Point → List ℕ → Option Point
first_of entry stop [] = stop
first_of entry stop (u ∷ us) = slice_get entry u

-- both coordinates are at most 2^41 in size
pub record IsNear (p : Point) : Type 0 where
  pub x : unsigned_abs p.x ≤ 2 ^ 41
  pub y : unsigned_abs p.y ≤ 2 ^ 41

-- the point is near, or there is none
abbrev pub IsNearOrNowhere : Option Point → Type 0
IsNearOrNowhere None = Unit {0}
IsNearOrNowhere (Some p) = IsNear p

-- each of the points is near
abbrev pub AreNear : List Point → Type 0
AreNear ps = (k : ℕ) (d : Point) → k < length ps → IsNear (slice_index_or ps k d)

-- every place is near
pub record ArePlaced (e : Ends) : Type 0 where
  pub entry : AreNear e.entry
  pub exit : AreNear e.exit
  pub start : (c : ℕ) (d : Option Point) → c < length e.start → IsNearOrNowhere (slice_index_or e.start c d)
  pub stop : (c : ℕ) (d : Option Point) → c < length e.stop → IsNearOrNowhere (slice_index_or e.stop c d)

-- each of the units is below n
abbrev pub AreWithin : List ℕ → ℕ → Type 0
AreWithin us n = (k : ℕ) → k < length us → slice_index_or us k 0 < n

-- the number of a chain and its units are in range, and its units are few
pub record IsChainAt (e : Ends) (c : ℕ) (us : List ℕ) : Type 0 where
  pub start : c < length e.start
  pub stop : c < length e.stop
  pub entry : AreWithin us (length e.entry)
  pub exit : AreWithin us (length e.exit)
  pub few : length us ≤ 65536

-- the numbers of a plan's chains and units are in range, and both are few
pub record IsPlanAt (e : Ends) (p : Plan) : Type 0 where
  pub start : length p.chains ≤ length e.start
  pub stop : length p.chains ≤ length e.stop
  pub entry : (c : ℕ) → c < length p.chains → AreWithin (chain_at p c) (length e.entry)
  pub exit : (c : ℕ) → c < length p.chains → AreWithin (chain_at p c) (length e.exit)
  pub few_units : length (concat p.chains) ≤ 65536
  pub few_chains : length p.chains ≤ 65536
