-- Which points a rectangle holds.
use Rattle.std.specs.Prelude.{◌≡◌, ℕ, ◌≤◌, ◌≤ℤ◌, IsTrue, Option, Some, None}
use Rattle.base_types.specs.declared.span.Point.{Point}
use Rattle.partition_moves.specs.declared.blocks.area.Area.{Area}
use Rattle.wire_cost.specs.Lengths.{IsNear, link_of}

-- the point stands in the rectangle or on its edge
pub record IsBetween (a : Area) (p : Point) : Type 0 where
  pub low_x : a.low.x ≤ℤ p.x
  pub high_x : p.x ≤ℤ a.high.x
  pub low_y : a.low.y ≤ℤ p.y
  pub high_y : p.y ≤ℤ a.high.y

-- the point does, or stands nowhere and the rectangle is open
abbrev pub IsInside : Area → Option Point → Type 0
IsInside a None = IsTrue a.is_open
IsInside a (Some p) = IsBetween a p

-- both corners are near
pub record IsNearArea (a : Area) : Type 0 where
  pub low : IsNear a.low
  pub high : IsNear a.high

-- n is the least link from a point to what the rectangle holds, if it holds anything
pub record IsLeastLink (a : Area) (p : Point) (n : ℕ) : Type 0 where
  pub least : (q : Option Point) → IsInside a q → n ≤ link_of (Some p) q
  pub one : (q : Option Point) → IsInside a q → (r : Option Point) × IsInside a r × (n ≡ link_of (Some p) r)
