-- The least links between a point and what a rectangle holds.
use Rattle.std.proofs.Common.{◌≡◌, ℕ, ℤ, ◌+◌, ◌≤◌, false, Option, Some, None, sym, refl, arith, ◌∙◌}
use Rattle.std.specs.Prelude.{◌-ℤ◌, ◌≤ℤ◌, unsigned_abs, IsTrue}
use Rattle.std.proofs.lemmas.Bool.{false≢true}
use Rattle.std.proofs.lemmas.Int.{ints}
use Rattle.base_types.specs.declared.span.Point.{Point}
use Rattle.wire_cost.specs.Lengths.{link_of}
use Rattle.partition_moves.specs.Areas.{IsBetween, IsInside, IsLeastLink}
use Rattle.partition_moves.specs.declared.blocks.area.Area.{Area}

across : (a b c : ℤ) → a ≤ℤ b → b ≤ℤ c → a ≤ℤ c
across a b c p q = omega (arith, ints)

-- m is how far z is from a number from low to high, if there is one
abbrev pub IsMet : ℤ → ℤ → ℤ → ℕ → Type 0
IsMet low high z m = low ≤ℤ high → (x : ℤ) × (low ≤ℤ x) × (x ≤ℤ high) × (m ≡ unsigned_abs (z -ℤ x))

no_longer : (a : Area) (p : Point) (m n : ℕ) → a.is_open ≡ false → ((q : Point) → IsBetween a q → m ≤ unsigned_abs (p.x -ℤ q.x)) → ((q : Point) → IsBetween a q → n ≤ unsigned_abs (p.y -ℤ q.y))
    → (q : Option Point) → IsInside a q → m + n ≤ link_of (Some p) q
no_longer a p m n e x y None h = absurd (false≢true (sym e ∙ h))
no_longer a p m n e x y (Some q) h = omega (arith, x q h, y q h)

met : (a : Area) (p : Point) (m n : ℕ) → a.is_open ≡ false → IsMet a.low.x a.high.x p.x m → IsMet a.low.y a.high.y p.y n
    → (q : Option Point) → IsInside a q → (r : Option Point) × IsInside a r × (m + n ≡ link_of (Some p) r)
met a p m n e x y None h = absurd (false≢true (sym e ∙ h))
met a p m n e x y (Some q) h =
    let i : IsBetween a q = h in
    let f = x (across a.low.x q.x a.high.x i.low_x i.high_x) in
    let g = y (across a.low.y q.y a.high.y i.low_y i.high_y) in
    let r : Point = record { x = f.0; y = g.0 } in
    let b : IsBetween a r = record { low_x = f.1; high_x = f.2; low_y = g.1; high_y = g.2 } in
    (Some r, b, (λ t. f.3 t + g.3 t))

pub least_link : (a : Area) (p : Point) (m n : ℕ) → a.is_open ≡ false → ((q : Point) → IsBetween a q → m ≤ unsigned_abs (p.x -ℤ q.x)) → ((q : Point) → IsBetween a q → n ≤ unsigned_abs (p.y -ℤ q.y))
    → IsMet a.low.x a.high.x p.x m → IsMet a.low.y a.high.y p.y n → IsLeastLink a p (m + n)
least_link a p m n e x y v w = record { least = no_longer a p m n e x y; one = met a p m n e v w }

-- nothing is nearer than what stands nowhere
pub least_open : (a : Area) (p : Point) → IsTrue a.is_open → IsLeastLink a p 0
least_open a p h = record { least = λ q i. omega arith; one = λ q i. (None, h, refl) }
