-- A rectangle that is grown by a point.
use Rattle.std.proofs.Common.{◌≡◌, ℤ, ◌≤◌, ◌^◌, Bool, true, false, Option, Some, None, sym, subst, arith, cond, to_z, of_z, w64, IsTrue}
use Rattle.std.specs.Prelude.{◌≤ℤ◌, unsigned_abs}
use Rattle.std.specs.Int.{int_max, int_min}
use Rattle.std.proofs.lemmas.Int.{ints}
use Rattle.base_types.specs.declared.span.Point.{Point}
use Rattle.wire_cost.proofs.Places.{kept}
use Rattle.partition_moves.specs.Areas.{IsBetween, IsInside, IsNearArea}
use Rattle.partition_moves.specs.declared.blocks.area.Area.{Area}

-- z is no greater than a and b, and near
pub record IsLesser (a b z : ℤ) : Type 0 where
  pub one : z ≤ℤ a
  pub other : z ≤ℤ b
  pub near : unsigned_abs z ≤ 2 ^ 41

-- z is no less than a and b, and near
pub record IsGreater (a b z : ℤ) : Type 0 where
  pub one : a ≤ℤ z
  pub other : b ≤ℤ z
  pub near : unsigned_abs z ≤ 2 ^ 41

either : (t : Bool) (x y r : ℤ) → r ≡ cond t x y → unsigned_abs x ≤ 2 ^ 41 → unsigned_abs y ≤ 2 ^ 41 → unsigned_abs r ≤ 2 ^ 41
either true x y r e p q = subst (λ (z : ℤ). unsigned_abs z ≤ 2 ^ 41) (sym e) p
either false x y r e p q = subst (λ (z : ℤ). unsigned_abs z ≤ 2 ^ 41) (sym e) q

-- a near number as the code hands it over
handed : (a : ℤ) → unsigned_abs a ≤ 2 ^ 41 → unsigned_abs (to_z w64 (of_z w64 a)) ≤ 2 ^ 41
handed a p = subst (λ (z : ℤ). unsigned_abs z ≤ 2 ^ 41) (sym (kept a (omega arith))) p

pub lesser : (a b r : ℤ) → unsigned_abs a ≤ 2 ^ 41 → unsigned_abs b ≤ 2 ^ 41 → r ≡ int_min (to_z w64 (of_z w64 a)) (to_z w64 (of_z w64 b)) → r ≤ℤ to_z w64 (of_z w64 a) → r ≤ℤ to_z w64 (of_z w64 b) → IsLesser a b (to_z w64 (of_z w64 r))
lesser a b r p q e x y =
    let n : unsigned_abs r ≤ 2 ^ 41 = either _ (to_z w64 (of_z w64 b)) (to_z w64 (of_z w64 a)) r e (handed b q) (handed a p) in
    let k : r ≡ to_z w64 (of_z w64 r) = sym (kept r (omega arith)) in
    record {
      one = subst (λ (z : ℤ). z ≤ℤ a) k (subst (λ (z : ℤ). r ≤ℤ z) (kept a (omega arith)) x);
      other = subst (λ (z : ℤ). z ≤ℤ b) k (subst (λ (z : ℤ). r ≤ℤ z) (kept b (omega arith)) y);
      near = handed r n;
    }

pub greater : (a b r : ℤ) → unsigned_abs a ≤ 2 ^ 41 → unsigned_abs b ≤ 2 ^ 41 → r ≡ int_max (to_z w64 (of_z w64 a)) (to_z w64 (of_z w64 b)) → to_z w64 (of_z w64 a) ≤ℤ r → to_z w64 (of_z w64 b) ≤ℤ r → IsGreater a b (to_z w64 (of_z w64 r))
greater a b r p q e x y =
    let n : unsigned_abs r ≤ 2 ^ 41 = either _ (to_z w64 (of_z w64 a)) (to_z w64 (of_z w64 b)) r e (handed a p) (handed b q) in
    let k : r ≡ to_z w64 (of_z w64 r) = sym (kept r (omega arith)) in
    record {
      one = subst (λ (z : ℤ). a ≤ℤ z) k (subst (λ (z : ℤ). z ≤ℤ r) (kept a (omega arith)) x);
      other = subst (λ (z : ℤ). b ≤ℤ z) k (subst (λ (z : ℤ). z ≤ℤ r) (kept b (omega arith)) y);
      near = handed r n;
    }

-- the rectangle b is a grown by the point p
pub record IsGrown (a : Area) (p : Point) (b : Area) : Type 0 where
  pub low_x : IsLesser a.low.x p.x b.low.x
  pub low_y : IsLesser a.low.y p.y b.low.y
  pub high_x : IsGreater a.high.x p.x b.high.x
  pub high_y : IsGreater a.high.y p.y b.high.y
  pub same : b.is_open ≡ a.is_open

pub grown_near : (a : Area) (p : Point) (b : Area) → IsGrown a p b → IsNearArea b
grown_near a p b g = record { low = record { x = g.low_x.near; y = g.low_y.near }; high = record { x = g.high_x.near; y = g.high_y.near } }

pub grown_inside : (a : Area) (p : Point) (b : Area) (o : Option Point) → o ≡ Some p → IsGrown a p b → IsInside b o
grown_inside a p b o e g =
    let h : IsBetween b p = record { low_x = g.low_x.other; high_x = g.high_x.other; low_y = g.low_y.other; high_y = g.high_y.other } in
    subst (IsInside b) (sym e) h

less_trans : (a b c : ℤ) → a ≤ℤ b → b ≤ℤ c → a ≤ℤ c
less_trans a b c p q = omega (arith, ints)

pub grown_kept : (a : Area) (p : Point) (b : Area) → IsGrown a p b → (q : Option Point) → IsInside a q → IsInside b q
grown_kept a p b g None h = subst IsTrue (sym g.same) h
grown_kept a p b g (Some q) h =
    let i : IsBetween a q = h in
    record {
      low_x = less_trans b.low.x a.low.x q.x g.low_x.one i.low_x;
      high_x = less_trans q.x a.high.x b.high.x i.high_x g.high_x.one;
      low_y = less_trans b.low.y a.low.y q.y g.low_y.one i.low_y;
      high_y = less_trans q.y a.high.y b.high.y i.high_y g.high_y.one;
    }
