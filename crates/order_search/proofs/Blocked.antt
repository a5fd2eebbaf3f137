-- What the bound of a block says of its units.
use Rattle.std.proofs.Common.{◌≡◌, ℕ, ℤ, pos, ◌+◌, ◌-◌, ◌<◌, ◌≤◌, ◌^◌, List, length, get_or, Some, refl, sym, ap, ◌∙◌, arith, subst}
use Rattle.std.specs.Prelude.{◌+ℤ◌, ◌-ℤ◌, ◌≤ℤ◌, unsigned_abs}
use Rattle.std.proofs.lemmas.Int.{ints}
use Rattle.base_types.specs.declared.span.Point.{Point}
use Rattle.lane_kernels.specs.Kernels.{AreRows, distance, sum_at}
use Rattle.wire_cost.specs.Filled.{RowLists}
use Rattle.wire_cost.specs.Lengths.{AreWithin, ChainEnds, backward_sum, exchanged, forward_sum, link_of}
use Rattle.wire_cost.specs.Rows.{AreBlocksOf, IsLeastSlack, IsRow, block_count, middle_of, next_at, slack_of, way_of, x_of, y_of}
use Rattle.order_search.specs.Aims.{IsPassed}
use Rattle.order_search.specs.declared.blocks.Aim.{Aim}
use Rattle.order_search.proofs.Lanes.{link_by, next_is_somewhere, part, part_long}
use Rattle.order_search.proofs.Small.{HasNearEnds, forward_small, near_exchanged, next_x_small, next_y_small, part_at, part_within}

-- the rows of the blocks, as they are lent
pub record AreBlocksLent (w : ChainEnds) (us : List ℕ) (xs ys ss : List ℤ) : Type 0 where
  pub x : IsRow (block_count (length us)) (λ (b : ℕ). x_of (next_at w us (middle_of (length us) b))) xs
  pub y : IsRow (block_count (length us)) (λ (b : ℕ). y_of (next_at w us (middle_of (length us) b))) ys
  pub count : length ss ≡ block_count (length us)
  pub slack : (b : ℕ) → b < block_count (length us) → IsLeastSlack w us b (get_or ss b (pos 0))

pub blocks_lent : (w : ChainEnds) (us : List ℕ) (rows : RowLists) (xs ys ss : List ℤ) → AreBlocksOf w us rows → xs ≡ rows.middle_x → ys ≡ rows.middle_y → ss ≡ rows.slack → AreBlocksLent w us xs ys ss
blocks_lent w us rows xs ys ss r p q s = record {
  x = subst (IsRow (block_count (length us)) (λ (b : ℕ). x_of (next_at w us (middle_of (length us) b)))) (sym p) r.middle_x;
  y = subst (IsRow (block_count (length us)) (λ (b : ℕ). y_of (next_at w us (middle_of (length us) b)))) (sym q) r.middle_y;
  count = ap length s ∙ r.slack_count;
  slack = λ b l. subst (λ (zs : List ℤ). IsLeastSlack w us b (get_or zs b (pos 0))) (sym s) (r.slack b l);
}

apart_small : (a b : ℤ) → unsigned_abs a ≤ 2 ^ 41 → unsigned_abs b ≤ 2 ^ 41 → unsigned_abs (a -ℤ b) ≤ 2 ^ 42
apart_small a b p q = omega (arith, ints)

way_small : (w : ChainEnds) (us : List ℕ) (m j : ℕ) → HasNearEnds w → way_of (next_at w us m) (next_at w us j) ≤ 2 ^ 43
way_small w us m j n =
    let x = apart_small (x_of (next_at w us m)) (x_of (next_at w us j)) (next_x_small w us m n) (next_x_small w us j n) in
    let y = apart_small (y_of (next_at w us m)) (y_of (next_at w us j)) (next_y_small w us m n) (next_y_small w us j n) in
    omega (arith, x, y)

rest_small : (b f w : ℕ) → b ≤ 2 ^ 59 + 2 ^ 44 → f ≤ 2 ^ 59 + 2 ^ 44 → w ≤ 2 ^ 44 → unsigned_abs ((pos b -ℤ pos f) -ℤ pos w) ≤ 2 ^ 60
rest_small b f w p q r = omega (arith, ints)

slack_small : (w : ChainEnds) (us : List ℕ) (m j : ℕ) → HasNearEnds w → length us ≤ 65536 → j < length us → unsigned_abs (slack_of w us m j) ≤ 2 ^ 60
slack_small w us m j n few l =
    let b : backward_sum w us (j + 1) ≤ 2 ^ 59 + 2 ^ 44 = omega (arith, forward_small (exchanged w) us (j + 1) (near_exchanged w n) (omega arith)) in
    let f : forward_sum w us (j + 2) ≤ 2 ^ 59 + 2 ^ 44 = omega (arith, forward_small w us (j + 2) n (omega arith)) in
    let ways : way_of (next_at w us m) (next_at w us j) + way_of (next_at w us m) (next_at w us (j + 1)) ≤ 2 ^ 44 = omega (arith, way_small w us m j n, way_small w us m (j + 1) n) in
    rest_small (backward_sum w us (j + 1)) (forward_sum w us (j + 2)) (way_of (next_at w us m) (next_at w us j) + way_of (next_at w us m) (next_at w us (j + 1))) b f ways

least_small : (w : ChainEnds) (us : List ℕ) (b : ℕ) (z : ℤ) → HasNearEnds w → length us ≤ 65536 → IsLeastSlack w us b z → unsigned_abs z ≤ 2 ^ 60
least_small w us b z n few h = omega (arith, ap unsigned_abs h.one.4, slack_small w us (middle_of (length us) b) h.one.0 n few h.one.3)

-- the parts of the rows that lanes read for some blocks
pub blocks_ready : (w : ChainEnds) (us : List ℕ) (xs ys ss : List ℤ) (from until : ℕ) → AreBlocksLent w us xs ys ss → HasNearEnds w → length us ≤ 65536 → from ≤ until → until ≤ block_count (length us)
    → AreRows (part from until xs) (part from until ys) (part from until xs) (part from until ys) (part from until ss)
blocks_ready w us xs ys ss from until r n few p q =
    let all : ℕ = block_count (length us) in
    let f : ℕ → ℤ = λ (b : ℕ). x_of (next_at w us (middle_of (length us) b)) in
    let g : ℕ → ℤ = λ (b : ℕ). y_of (next_at w us (middle_of (length us) b)) in
    let h : ℕ → ℤ = λ (b : ℕ). get_or ss b (pos 0) in
    let row : IsRow all h ss = record { count = r.count; each = λ k l. refl } in
    let long : length (part from until xs) ≡ until - from = part_long all f xs from (until - from) r.x (omega arith) in
    let far_x : (k : ℕ) → k < all → unsigned_abs (f k) ≤ 2 ^ 41 = (λ k l. next_x_small w us (middle_of (length us) k) n) in
    let far_y : (k : ℕ) → k < all → unsigned_abs (g k) ≤ 2 ^ 41 = (λ k l. next_y_small w us (middle_of (length us) k) n) in
    let far_s : (k : ℕ) → k < all → unsigned_abs (h k) ≤ 2 ^ 60 = (λ k l. least_small w us k (h k) n few (r.slack k l)) in
    record {
      ex_near = part_within all (2 ^ 41) f xs r.x far_x from (until - from);
      ey_near = part_within all (2 ^ 41) g ys r.y far_y from (until - from);
      nx_near = part_within all (2 ^ 41) f xs r.x far_x from (until - from);
      ny_near = part_within all (2 ^ 41) g ys r.y far_y from (until - from);
      c_small = part_within all (2 ^ 60) h ss row far_s from (until - from);
      ey_length = omega (arith, long, part_long all g ys from (until - from) r.y (omega arith));
      nx_length = refl;
      ny_length = omega (arith, long, part_long all g ys from (until - from) r.y (omega arith));
      c_length = omega (arith, long, part_long all h ss from (until - from) row (omega arith));
    }

-- the way to a place is no longer over another one
over_middle : (p m e : ℤ) → unsigned_abs (p -ℤ m) ≤ unsigned_abs (p -ℤ e) + unsigned_abs (m -ℤ e)
over_middle p m e = omega (arith, ints)

bound_holds : (limit s : ℤ) (d l w b f : ℕ) → limit ≤ℤ (pos d +ℤ s) → s ≤ℤ ((pos b -ℤ pos f) -ℤ pos w) → d ≤ l + w → limit ≤ℤ (pos l +ℤ (pos b -ℤ pos f))
bound_holds limit s d l w b f p q r = omega (arith, ints)

-- a block whose bound is no less than the limit
pub passed : (w : ChainEnds) (us : List ℕ) (xs ys ss : List ℤ) (aim : Aim) (from until k : ℕ) → AreBlocksLent w us xs ys ss → AreWithin us (length w.entry) → until ≤ block_count (length us) → from + k < until
    → aim.limit ≤ℤ sum_at aim.before.x aim.before.y aim.exit.x aim.exit.y (part from until xs) (part from until ys) (part from until xs) (part from until ys) (part from until ss) k
    → IsPassed w us aim (from + k)
passed w us xs ys ss aim from until k r g few l h = λ j low high here some.
    let p : Point = aim.before in
    let q : Point = aim.exit in
    let o = next_at w us (middle_of (length us) (from + k)) in
    let a = next_at w us j in
    let b = next_at w us (j + 1) in
    let s : ℤ = get_or ss (from + k) (pos 0) in
    let x : get_or (part from until xs) k (pos 0) ≡ x_of o = part_at xs from (until - from) k (omega arith) ∙ r.x.each (from + k) (omega arith) in
    let y : get_or (part from until ys) k (pos 0) ≡ y_of o = part_at ys from (until - from) k (omega arith) ∙ r.y.each (from + k) (omega arith) in
    let z : get_or (part from until ss) k (pos 0) ≡ s = part_at ss from (until - from) k (omega arith) in
    let d : ℕ = distance p.x (x_of o) + distance p.y (y_of o) + distance q.x (x_of o) + distance q.y (y_of o) in
    let sum : sum_at p.x p.y q.x q.y (part from until xs) (part from until ys) (part from until xs) (part from until ys) (part from until ss) k ≡ pos d +ℤ s
    = (λ t. pos (distance p.x (x t) + distance p.y (y t) + distance q.x (x t) + distance q.y (y t)) +ℤ z t)
    in
    let bound : aim.limit ≤ℤ (pos d +ℤ s) = subst (λ (v : ℤ). aim.limit ≤ℤ v) sum h in
    let to : link_of (Some p) a ≡ distance p.x (x_of a) + distance p.y (y_of a) = link_by p a (next_is_somewhere w us j g here) in
    let back : link_of (Some q) b ≡ distance q.x (x_of b) + distance q.y (y_of b) = link_by q b some in
    let over : d ≤ link_of (Some p) a + link_of (Some q) b + (way_of o a + way_of o b)
    = omega (arith, to, back, over_middle p.x (x_of o) (x_of a), over_middle p.y (y_of o) (y_of a), over_middle q.x (x_of o) (x_of b), over_middle q.y (y_of o) (y_of b))
    in
    bound_holds aim.limit s d (link_of (Some p) a + link_of (Some q) b) (way_of o a + way_of o b) (backward_sum w us (j + 1)) (forward_sum w us (j + 2)) bound ((r.slack (from + k) (omega arith)).least j low high here) over
