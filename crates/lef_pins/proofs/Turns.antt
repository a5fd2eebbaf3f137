-- How far a turned point stands, and the numbers of a pin's RECT.
use Rattle.std.proofs.Common.{ℕ, suc, ◌+◌, ◌<◌, ◌≤◌, List, [], ◌∷◌, length, get_or, arith}
use Rattle.std.specs.Prelude.{ℤ, ◌-ℤ◌, unsigned_abs}
use Rattle.std.specs.Str.{bytes_eq}
use Rattle.std.proofs.lemmas.Int.{ints}
use Rattle.std.proofs.lemmas.Bool.{cond_both}
use Rattle.base_types.specs.declared.span.Point.{Point}
use Rattle.lef_pins.specs.declared.macros.MacroPin.{MacroPin}
use Rattle.def_tokens.specs.declared.orient.Orient.{Orient}
use Rattle.def_tokens.specs.declared.orient.Orient.TheVariants.{N, W, S, E, FN, FW, FS, FE}
use Rattle.lef_pins.specs.Places.{turn, rect_of, IsMeasuredOrNone}

-- both coordinates are at most so much in size
pub record IsInside (p : Point) (n : ℕ) : Type 0 where
  pub x : unsigned_abs p.x ≤ n
  pub y : unsigned_abs p.y ≤ n

less : (a b : ℤ) (m n : ℕ) → unsigned_abs a ≤ m → unsigned_abs b ≤ n → unsigned_abs (a -ℤ b) ≤ m + n
less a b m n small small' = omega (arith, ints)

pub turn-inside : (o : Orient) (w h : ℤ) (p : Point) (m n : ℕ) → unsigned_abs w ≤ m → unsigned_abs h ≤ m → unsigned_abs p.x ≤ n → unsigned_abs p.y ≤ n → IsInside (turn o w h p) (m + n)
turn-inside N w h p m n fw fh fx fy = record { x = omega arith; y = omega arith }
turn-inside W w h p m n fw fh fx fy = record { x = less h p.y m n fh fy; y = omega arith }
turn-inside S w h p m n fw fh fx fy = record { x = less w p.x m n fw fx; y = less h p.y m n fh fy }
turn-inside E w h p m n fw fh fx fy = record { x = omega arith; y = less w p.x m n fw fx }
turn-inside FN w h p m n fw fh fx fy = record { x = less w p.x m n fw fx; y = omega arith }
turn-inside FW w h p m n fw fh fx fy = record { x = omega arith; y = omega arith }
turn-inside FS w h p m n fw fh fx fy = record { x = omega arith; y = less h p.y m n fh fy }
turn-inside FE w h p m n fw fh fx fy = record { x = less h p.y m n fh fy; y = less w p.x m n fw fx }

pub rect-measured : (ps : List MacroPin) (name : List ℕ) → ((k : ℕ) (d : MacroPin) → k < length ps → IsMeasuredOrNone (get_or ps k d).rect) → IsMeasuredOrNone (rect_of ps name)
rect-measured [] name each = tt
rect-measured (p ∷ ps) name each =
    cond_both (bytes_eq p.name name) p.rect (rect_of ps name) IsMeasuredOrNone (λ is. each 0 p (omega arith)) (λ other. rect-measured ps name (λ k d lt. each (suc k) d (omega arith)))
