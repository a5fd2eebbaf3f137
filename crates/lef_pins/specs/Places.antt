-- Where the pins of placed macros stand (LEF/DEF 5.8), over whole numbers of any size. Lengths of a LEF are in millionths of
-- a micron, and places in half database units.
use Rattle.std.specs.Prelude.{ℕ, ◌*◌, ◌^◌, ◌≤◌, ◌<◌, if◌then◌else◌, List, [], ◌∷◌, length, Option, None, Some, ℤ, pos, ◌+ℤ◌, ◌-ℤ◌, ◌*ℤ◌, ◌≤ℤ◌, ◌<ℤ◌, unsigned_abs, slice_index_or}
use Rattle.std.specs.Int.{int_div_euclid}
use Rattle.std.specs.Str.{bytes_eq}
use Rattle.base_types.specs.declared.span.Point.{Point}
use Rattle.lef_pins.specs.declared.macros.Macro.{Macro}
use Rattle.lef_pins.specs.declared.macros.MacroPin.{MacroPin}
use Rattle.def_tokens.specs.declared.orient.Orient.{Orient}
use Rattle.def_tokens.specs.declared.orient.Orient.TheVariants.{N, W, S, E, FN, FW, FS, FE}

-- the floor of v * units / 10^6: a length in database units
abbrev pub scaled : ℤ → ℤ → ℤ
scaled v units = int_div_euclid (v *ℤ units) (pos (10 ^ 6))

-- it is that floor
abbrev pub FloorLaw : Type 0
FloorLaw = (v units : ℤ) → ((scaled v units *ℤ pos (10 ^ 6)) ≤ℤ (v *ℤ units)) × ((v *ℤ units) <ℤ ((scaled v units +ℤ pos 1) *ℤ pos (10 ^ 6)))

-- twice a length, in half database units
abbrev pub twice : ℤ → ℤ → ℤ
twice v units = scaled (v +ℤ v) units

-- the point of a macro of this width and height once it is turned
abbrev pub turn : Orient → ℤ → ℤ → Point → Point
turn N w h p = p
turn W w h p = record { x = h -ℤ p.y; y = p.x }
turn S w h p = record { x = w -ℤ p.x; y = h -ℤ p.y }
turn E w h p = record { x = p.y; y = w -ℤ p.x }
turn FN w h p = record { x = w -ℤ p.x; y = p.y }
turn FW w h p = record { x = p.y; y = p.x }
turn FS w h p = record { x = p.x; y = h -ℤ p.y }
turn FE w h p = record { x = h -ℤ p.y; y = w -ℤ p.x }

-- the first RECT of the first pin with this name, if there is one
abbrev pub rect_of : List MacroPin → List ℕ → Option (List ℤ)
rect_of [] name = None
rect_of (p ∷ ps) name = if bytes_eq p.name name then p.rect else rect_of ps name

-- one of the four numbers x1 y1 x2 y2 of a RECT
abbrev pub corner : List ℤ → ℕ → ℤ
corner rect k = slice_index_or rect k (pos 0)

-- the point of a pin before it is turned: the centre of its RECT plus twice ORIGIN, or the macro's centre where it has none
abbrev pub point_of : Macro → Option (List ℤ) → ℤ → Point
point_of m None units = record { x = scaled m.w units; y = scaled m.h units }
point_of m (Some r) units =
    record { x = scaled (corner r 0 +ℤ corner r 2) units +ℤ twice m.ox units; y = scaled (corner r 1 +ℤ corner r 3) units +ℤ twice m.oy units }

-- a point by twice another one further
abbrev pub moved : Point → Point → Point
moved p at = record { x = p.x +ℤ (at.x +ℤ at.x); y = p.y +ℤ (at.y +ℤ at.y) }

-- where the pin stands
abbrev pub pin_place : Macro → List ℕ → Point → Orient → ℤ → Point
pin_place m name at orient units = moved (turn orient (twice m.w units) (twice m.h units) (point_of m (rect_of m.pins name) units)) at

-- at most so much in size
abbrev pub IsWithin : ℕ → ℤ → Type 0
IsWithin most z = unsigned_abs z ≤ most

-- within 2^40
abbrev pub IsShort : ℤ → Type 0
IsShort z = unsigned_abs z ≤ 2 ^ 40

-- both coordinates are
pub record IsShortPoint (p : Point) : Type 0 where
  pub x : IsShort p.x
  pub y : IsShort p.y

-- both coordinates are within 2^41
pub record IsNear (p : Point) : Type 0 where
  pub x : IsWithin (2 ^ 41) p.x
  pub y : IsWithin (2 ^ 41) p.y

-- both coordinates have 32 bits
pub record IsPlaced (p : Point) : Type 0 where
  pub x : IsWithin (2 ^ 31) p.x
  pub y : IsWithin (2 ^ 31) p.y

-- a length of two millions of microns at most in size
abbrev pub IsLength : ℤ → Type 0
IsLength z = unsigned_abs z ≤ 2 * 10 ^ 12

-- a RECT of such numbers
pub record IsMeasuredRect (r : List ℤ) : Type 0 where
  pub x1 : IsLength (corner r 0)
  pub y1 : IsLength (corner r 1)
  pub x2 : IsLength (corner r 2)
  pub y2 : IsLength (corner r 3)

-- or none
abbrev pub IsMeasuredOrNone : Option (List ℤ) → Type 0
IsMeasuredOrNone None = Unit {0}
IsMeasuredOrNone (Some r) = IsMeasuredRect r

-- all numbers of the macro are such
pub record IsMeasured (m : Macro) : Type 0 where
  pub w : IsLength m.w
  pub h : IsLength m.h
  pub ox : IsLength m.ox
  pub oy : IsLength m.oy
  pub pins : (k : ℕ) (d : MacroPin) → k < length m.pins → IsMeasuredOrNone (slice_index_or m.pins k d).rect
