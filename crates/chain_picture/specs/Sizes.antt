-- The sizes of a picture, by the extent of what is drawn, and its scale.
use Rattle.std.specs.Prelude.{ℕ, zero, suc, ◌+◌, ◌*◌, ◌/◌, max, nat_le, if◌then◌else◌, pos, ◌-ℤ◌, int_lt, unsigned_abs, List, [], ◌∷◌, length, Option, Some, None, unwrap_or}
use Rattle.base_types.specs.declared.span.Point.{Point}
use Rattle.chain_picture.specs.declared.chain.Segment.{Segment}
use Rattle.chain_picture.specs.declared.chain.DrawnChain.{DrawnChain}
use Rattle.chain_picture.specs.declared.bounds.Bounds.{Bounds}
use Rattle.chain_picture.specs.declared.sheet.Sheet.{Sheet}

-- of two points the one further to the left
abbrev pub lefter : Point → Point → Point
lefter p q = if int_lt p.x q.x then p else q

-- the one further to the right
abbrev pub righter : Point → Point → Point
righter p q = if int_lt p.x q.x then q else p

-- the lower one
abbrev pub lower : Point → Point → Point
lower p q = if int_lt p.y q.y then p else q

-- the upper one
abbrev pub upper : Point → Point → Point
upper p q = if int_lt p.y q.y then q else p

-- the bounds of a point besides what they held
abbrev pub with_point : Option Bounds → Point → Option Bounds
with_point None p = Some (record { left = p; right = p; bottom = p; top = p })
with_point (Some b) p = Some (record { left = lefter b.left p; right = righter b.right p; bottom = lower b.bottom p; top = upper b.top p })

-- the same with a point, where there is one
abbrev pub with_any : Option Bounds → Option Point → Option Bounds
with_any b None = b
with_any b (Some p) = with_point b p

-- the same with the points of segments
abbrev pub with_segments : Option Bounds → List Segment → Option Bounds
with_segments b [] = b
with_segments b (s ∷ ss) = with_segments (with_point (with_point b s.from) s.to) ss

-- the same with all that is drawn of a chain
abbrev pub with_chain : Option Bounds → DrawnChain → Option Bounds
with_chain b c = with_any (with_any (with_segments (with_segments (with_segments b c.cells) c.spans) c.links) c.start) c.stop

-- the same of chains
abbrev pub with_chains : Option Bounds → List DrawnChain → Option Bounds
with_chains b [] = b
with_chains b (c ∷ cs) = with_chains (with_chain b c) cs

-- the point 0 0
abbrev pub origin : Point
origin = record { x = pos 0; y = pos 0 }

-- the bounds of all that is drawn; where nothing is, the origin
abbrev pub bounds_of : List DrawnChain → Bounds
bounds_of cs = unwrap_or (with_chains None cs) (record { left = origin; right = origin; bottom = origin; top = origin })

-- how wide bounds are
abbrev pub width_of : Bounds → ℕ
width_of b = unsigned_abs (b.right.x -ℤ b.left.x)

-- how high they are
abbrev pub height_of : Bounds → ℕ
height_of b = unsigned_abs (b.top.y -ℤ b.bottom.y)

-- the greatest power of ten with at most so many zeros that isn't above n; 1 where n is 0
abbrev pub power_below : ℕ → ℕ → ℕ
power_below n zero = 1
power_below n (suc k) = if nat_le (10 * power_below n k) n then 10 * power_below n k else power_below n k

-- the greatest of 1, 2 and 5 times this power of ten that isn't above n
abbrev pub rounded_by : ℕ → ℕ → ℕ
rounded_by n power = if nat_le (5 * power) n then 5 * power else if nat_le (2 * power) n then 2 * power else power

-- the greatest of 1, 2 and 5 times a power of ten that isn't above n
abbrev pub rounded : ℕ → ℕ
rounded n = rounded_by n (power_below n 20)

-- how many rows the legend has: those of the chains, and nine others
abbrev pub row_count : ℕ → ℕ
row_count chains = chains + 9

-- how high the legend is in its own units, of which a row takes 15; at least that of 32 rows
abbrev pub least_height : ℕ → ℕ
least_height chains = 15 * max (row_count chains) 32

-- the extent by which sizes are chosen, in half database units: that of what is drawn, yet at least four microns, and such that the legend
-- is no higher
abbrev pub extent_of : Bounds → ℕ → ℕ → ℕ
extent_of b units chains = max (max (width_of b) (height_of b)) (max (8 * units) (least_height chains))

-- how thick links are
abbrev pub stroke_of : ℕ → ℕ
stroke_of extent = max (extent / 800) 1

-- half the size of a mark
abbrev pub mark_of : ℕ → ℕ
mark_of extent = max (extent / 110) 2

-- the microns of the scale, which is at most a quarter of the extent
abbrev pub microns_of : ℕ → ℕ → ℕ
microns_of extent units = rounded (extent / (8 * units))

-- the sizes by an extent, for so many database units a micron and so many chains
abbrev pub sheet_by : Bounds → ℕ → ℕ → ℕ → Sheet
sheet_by b units chains extent = record {
  bounds = b;
  width = width_of b;
  height = height_of b;
  margin = extent / 24;
  stroke = stroke_of extent;
  mark = mark_of extent;
  -- as many half database units as one of the legend's own takes
  letter = extent / least_height chains;
  microns = microns_of extent units;
}

-- the sizes of the picture of chains
abbrev pub sheet_of : ℕ → List DrawnChain → Sheet
sheet_of units cs = sheet_by (bounds_of cs) units (length cs) (extent_of (bounds_of cs) units (length cs))
