-- Vectors of signed lanes: what each lane holds, and how large it can be.
use Rattle.std.proofs.Common.{◌≡◌, ℕ, ℤ, pos, ◌+◌, ◌-◌, ◌%◌, ◌^◌, ◌<◌, ◌≤◌, ◌+ℤ◌, ◌-ℤ◌, ◌≤ℤ◌, ◌<ℤ◌, List, [], ◌∷◌, Bool, true, false, not, cond, eqb, map, length, take, drop, get_or, replicate, refl, sym, ap, subst, ◌∙◌, arith, w64, to_z, of_z, unsigned_abs}
use Rattle.std.specs.List.{prefix_len, range_with_len}
use Rattle.std.specs.Simd.Lanes.{zip2, sel_l, Each2, top, mask_l}
use Rattle.std.proofs.lemmas.Int.{ints, to_z-of_z}
use Rattle.std.proofs.lemmas.List.FromFn.{get_or-map-range_with_len, length-map-range_with_len}
use Rattle.std.proofs.lemmas.List.Sums.{prefix_len-le-length, prefix_len_passes, prefix_len_stops}
use Rattle.std.proofs.lemmas.Simd.{zip2_of_maps, tops_compared, map-map, pick_l-range_with_len, bitmask_splat, first_set_mask_l}
use Rattle.lane_kernels.specs.Kernels.{AllWithin, distance}
use mir.Val.{SFits}
use lib.Signed.{lt_z}
use lib.Count.{count_trailing_zeros}

-- the bits of an operator's answer, from the bits of what it takes
abbrev pub bits_of : (ℤ → ℤ → ℤ) → ℕ → ℕ → ℕ
bits_of op x y = of_z w64 (op (to_z w64 x) (to_z w64 y))

abbrev pub minus : ℤ → ℤ → ℤ
minus a b = a -ℤ b

abbrev pub plus : ℤ → ℤ → ℤ
plus a b = a +ℤ b

abbrev pub is_below : ℕ → ℕ → Bool
is_below x y = lt_z (to_z w64 x) (to_z w64 y)

-- what `select` and `to_bitmask` read of a comparison
abbrev pub marks : List ℕ → List ℕ → List Bool
marks v w = map (top 63) (zip2 (λ x y. cond (is_below x y) (2 ^ 64 - 1) 0) v w)

-- the lanes of a vector without their signs
abbrev pub sizes : List ℕ → List ℕ
sizes v = let n : List ℕ = zip2 (bits_of minus) (0 ∷ 0 ∷ 0 ∷ 0 ∷ []) v in sel_l (marks v n) n v

-- the vector v has a lane for each place k of ks: the bits of f k, which is at most m in size
pub record Holds (ks v : List ℕ) (f : ℕ → ℤ) (m : ℕ) : Type 0 where
  pub lanes : v ≡ map (λ k. of_z w64 (f k)) ks
  pub small : (k : ℕ) → unsigned_abs (f k) ≤ m

back_is : (a : ℤ) → unsigned_abs a ≤ 2 ^ 62 → to_z w64 (of_z w64 a) ≡ a
back_is a p = omega (arith, ints)

-- ---- loads and splats
pub load : (at : ℕ) (xs : List ℤ) (m : ℕ) → at + 4 ≤ length xs → AllWithin m xs → Holds (range_with_len at 4) (map (of_z w64) (take 4 (drop at xs))) (λ k. get_or xs k (pos 0)) m
load at xs m room within = record {
  lanes = ap (map (of_z w64)) (sym (pick_l-range_with_len (pos 0) xs at 4 room)) ∙ map-map (of_z w64) (λ k. get_or xs k (pos 0)) (range_with_len at 4);
  small = within;
}

pub splat : (at : ℕ) (x : ℤ) (m : ℕ) → unsigned_abs x ≤ m → Holds (range_with_len at 4) (replicate 4 (of_z w64 x)) (λ k. x) m
splat at x m within = record { lanes = refl; small = λ k. within }

-- ---- sums and differences
same_bits : (op : ℤ → ℤ → ℤ) (a b : ℤ) → unsigned_abs a ≤ 2 ^ 62 → unsigned_abs b ≤ 2 ^ 62 → bits_of op (of_z w64 a) (of_z w64 b) ≡ of_z w64 (op a b)
same_bits op a b p q = λ t. of_z w64 (op (back_is a p t) (back_is b q t))

pub both : (op : ℤ → ℤ → ℤ) (ks v w : List ℕ) (f g : ℕ → ℤ) (m n r : ℕ) → m ≤ 2 ^ 62 → n ≤ 2 ^ 62 → Holds ks v f m → Holds ks w g n → ((k : ℕ) → unsigned_abs (op (f k) (g k)) ≤ r)
    → Holds ks (zip2 (bits_of op) v w) (λ k. op (f k) (g k)) r
both op ks v w f g m n r a b p q small = record {
  lanes = zip2_of_maps (bits_of op) (λ k. of_z w64 (f k)) (λ k. of_z w64 (g k)) ks p.lanes q.lanes ∙ (λ t. map (λ k. same_bits op (f k) (g k) (omega (arith, p.small k)) (omega (arith, q.small k)) t) ks);
  small = small;
}

Each2-maps : (R : ℕ → ℕ → Type 0) (g h : ℕ → ℕ) (ks : List ℕ) → ((k : ℕ) → R (g k) (h k)) → Each2 R (map g ks) (map h ks)
Each2-maps R g h [] r = tt
Each2-maps R g h (k ∷ ks) r = (r k, Each2-maps R g h ks r)

small_fits : (z : ℤ) → unsigned_abs z ≤ 2 ^ 62 → SFits w64 z
small_fits z p = omega (arith, ints)

-- no lane overflows
pub both_fit : (op : ℤ → ℤ → ℤ) (ks v w : List ℕ) (f g : ℕ → ℤ) (m n : ℕ) → m ≤ 2 ^ 62 → n ≤ 2 ^ 62 → Holds ks v f m → Holds ks w g n → ((k : ℕ) → unsigned_abs (op (f k) (g k)) ≤ 2 ^ 62)
    → Each2 (λ x y. SFits w64 (op (to_z w64 x) (to_z w64 y))) v w
both_fit op ks v w f g m n a b p q small =
    let R : ℕ → ℕ → Type 0 = λ x y. SFits w64 (op (to_z w64 x) (to_z w64 y)) in
    let each = Each2-maps R (λ k. of_z w64 (f k)) (λ k. of_z w64 (g k)) ks (λ k.
    subst (SFits w64) (λ t. op (sym (back_is (f k) (omega (arith, p.small k))) t) (sym (back_is (g k) (omega (arith, q.small k))) t)) (small_fits (op (f k) (g k)) (small k))) in
    subst (λ (x : List ℕ). Each2 R x w) (sym p.lanes) (subst (λ (y : List ℕ). Each2 R (map (λ k. of_z w64 (f k)) ks) y) (sym q.lanes) each)

minus_small : (a b : ℤ) (m n : ℕ) → unsigned_abs a ≤ m → unsigned_abs b ≤ n → unsigned_abs (a -ℤ b) ≤ m + n
minus_small a b m n p q = omega (arith, ints)

plus_small : (a b : ℤ) (m n : ℕ) → unsigned_abs a ≤ m → unsigned_abs b ≤ n → unsigned_abs (a +ℤ b) ≤ m + n
plus_small a b m n p q = omega (arith, ints)

-- ---- sizes
sel_l-maps : (b : ℕ → Bool) (g h : ℕ → ℕ) (ks : List ℕ) → sel_l (map b ks) (map g ks) (map h ks) ≡ map (λ k. cond (b k) (g k) (h k)) ks
sel_l-maps b g h [] = refl
sel_l-maps b g h (k ∷ ks) = ap (λ r. cond (b k) (g k) (h k) ∷ r) (sel_l-maps b g h ks)

-- a number without its sign, as the code chooses it
size_by : (a : ℤ) → unsigned_abs a ≤ 2 ^ 62 → (t : Bool) → is_below (of_z w64 a) (of_z w64 (pos 0 -ℤ a)) ≡ t → cond t (of_z w64 (pos 0 -ℤ a)) (of_z w64 a) ≡ of_z w64 (pos (unsigned_abs a))
size_by a p true e = omega (arith, ints)
size_by a p false e = omega (arith, ints)

pub sizes_held : (at : ℕ) (v : List ℕ) (f : ℕ → ℤ) (m : ℕ) → m ≤ 2 ^ 62 → Holds (range_with_len at 4) v f m → Holds (range_with_len at 4) (sizes v) (λ k. pos (unsigned_abs (f k))) m
sizes_held at v f m a p =
    let ks : List ℕ = range_with_len at 4 in
    let zs : List ℕ = 0 ∷ 0 ∷ 0 ∷ 0 ∷ [] in
    let ns : List ℕ = zip2 (bits_of minus) zs v in
    let n : Holds ks ns (λ k. pos 0 -ℤ f k) m = both minus ks zs v (λ k. pos 0) f 0 m m (omega arith) a (splat at (pos 0) 0 (omega arith)) p (λ k. let h : unsigned_abs (pos 0 -ℤ f k) ≤ 0 + m = minus_small (pos 0) (f k) 0 m (omega arith) (p.small k) in omega arith) in
    let ms : marks v ns ≡ map (λ k. is_below (of_z w64 (f k)) (of_z w64 (pos 0 -ℤ f k))) ks =
    tops_compared w64 is_below v ns ∙ zip2_of_maps is_below (λ k. of_z w64 (f k)) (λ k. of_z w64 (pos 0 -ℤ f k)) ks p.lanes n.lanes in
    record {
      lanes = (λ t. sel_l (ms t) (n.lanes t) (p.lanes t))
          ∙ sel_l-maps (λ k. is_below (of_z w64 (f k)) (of_z w64 (pos 0 -ℤ f k))) (λ k. of_z w64 (pos 0 -ℤ f k)) (λ k. of_z w64 (f k)) ks
          ∙ (λ t. map (λ k. size_by (f k) (omega (arith, p.small k)) _ refl t) ks);
      small = λ k. p.small k;
    }

pub sizes_fit : (at : ℕ) (v : List ℕ) (f : ℕ → ℤ) (m : ℕ) → m ≤ 2 ^ 62 → Holds (range_with_len at 4) v f m → Each2 (λ x y. SFits w64 (to_z w64 x -ℤ to_z w64 y)) (0 ∷ 0 ∷ 0 ∷ 0 ∷ []) v
sizes_fit at v f m a p =
    both_fit minus (range_with_len at 4) _ v (λ k. pos 0) f 0 m (omega arith) a (splat at (pos 0) 0 (omega arith)) p (λ k.
    let h : unsigned_abs (pos 0 -ℤ f k) ≤ 0 + m = minus_small (pos 0) (f k) 0 m (omega arith) (p.small k) in omega arith)

-- ---- distances from x
pub away_fit : (at : ℕ) (x : ℤ) (xs : List ℤ) → unsigned_abs x ≤ 2 ^ 41 → AllWithin (2 ^ 41) xs → at + 4 ≤ length xs
    → Each2 (λ a b. SFits w64 (to_z w64 a -ℤ to_z w64 b)) (replicate 4 (of_z w64 x)) (map (of_z w64) (take 4 (drop at xs)))
away_fit at x xs p q room =
    both_fit minus (range_with_len at 4) _ _ (λ k. x) (λ k. get_or xs k (pos 0)) (2 ^ 41) (2 ^ 41) (omega arith) (omega arith) (splat at x (2 ^ 41) p) (load at xs (2 ^ 41) room q) (λ k.
    let h : unsigned_abs (x -ℤ get_or xs k (pos 0)) ≤ 2 ^ 41 + 2 ^ 41 = minus_small x (get_or xs k (pos 0)) (2 ^ 41) (2 ^ 41) p (q k) in omega arith)

pub away_held : (at : ℕ) (x : ℤ) (xs : List ℤ) → unsigned_abs x ≤ 2 ^ 41 → AllWithin (2 ^ 41) xs → at + 4 ≤ length xs
    → Holds (range_with_len at 4) (zip2 (bits_of minus) (replicate 4 (of_z w64 x)) (map (of_z w64) (take 4 (drop at xs)))) (λ k. x -ℤ get_or xs k (pos 0)) (2 ^ 42)
away_held at x xs p q room =
    both minus (range_with_len at 4) _ _ (λ k. x) (λ k. get_or xs k (pos 0)) (2 ^ 41) (2 ^ 41) (2 ^ 42) (omega arith) (omega arith) (splat at x (2 ^ 41) p) (load at xs (2 ^ 41) room q)
    (λ k. minus_small x (get_or xs k (pos 0)) (2 ^ 41) (2 ^ 41) p (q k))

pub distances_held : (at : ℕ) (x : ℤ) (xs : List ℤ) → unsigned_abs x ≤ 2 ^ 41 → AllWithin (2 ^ 41) xs → at + 4 ≤ length xs
    → Holds (range_with_len at 4) (sizes (zip2 (bits_of minus) (replicate 4 (of_z w64 x)) (map (of_z w64) (take 4 (drop at xs))))) (λ k. pos (distance x (get_or xs k (pos 0)))) (2 ^ 42)
distances_held at x xs p q room = sizes_held at _ (λ k. x -ℤ get_or xs k (pos 0)) (2 ^ 42) (omega arith) (away_held at x xs p q room)

-- ---- sums
pub sum_fit : (at : ℕ) (v w : List ℕ) (f g : ℕ → ℤ) (m n : ℕ) → m + n ≤ 2 ^ 62 → Holds (range_with_len at 4) v f m → Holds (range_with_len at 4) w g n → Each2 (λ x y. SFits w64 (to_z w64 x +ℤ to_z w64 y)) v w
sum_fit at v w f g m n a p q =
    both_fit plus (range_with_len at 4) v w f g m n (omega arith) (omega arith) p q (λ k. let h : unsigned_abs (f k +ℤ g k) ≤ m + n = plus_small (f k) (g k) m n (p.small k) (q.small k) in omega arith)

pub sum_held : (at : ℕ) (v w : List ℕ) (f g : ℕ → ℤ) (m n : ℕ) → m + n ≤ 2 ^ 62 → Holds (range_with_len at 4) v f m → Holds (range_with_len at 4) w g n
    → Holds (range_with_len at 4) (zip2 (bits_of plus) v w) (λ k. f k +ℤ g k) (m + n)
sum_held at v w f g m n a p q = both plus (range_with_len at 4) v w f g m n (m + n) (omega arith) (omega arith) p q (λ k. plus_small (f k) (g k) m n (p.small k) (q.small k))

-- ---- how many lanes come before the first that is below
not_below : (a z : ℤ) → not (lt_z a z) ≡ true → z ≤ℤ a
not_below a z e = grind (arith, ints)

below : (a z : ℤ) → not (lt_z a z) ≡ false → a <ℤ z
below a z e = grind (arith, ints)

-- at the r-th place from `at` on f is below z, or r is 4, and at none of those before
pub record Stops (at r : ℕ) (f : ℕ → ℤ) (z : ℤ) : Type 0 where
  pub high : r ≤ 4
  pub before : (j : ℕ) → at ≤ j → j < at + r → z ≤ℤ f j
  pub stops : r < 4 → f (at + r) <ℤ z

pub stops_at : (at : ℕ) (v : List ℕ) (f : ℕ → ℤ) (m : ℕ) (z : ℤ) (r : ℕ) → m ≤ 2 ^ 62 → Holds (range_with_len at 4) v f m → SFits w64 z
    → r ≡ cond (eqb (mask_l (marks v (replicate 4 (of_z w64 z))) % 2 ^ 64) 0) 4 (count_trailing_zeros 64 (mask_l (marks v (replicate 4 (of_z w64 z))) % 2 ^ 64))
    → Stops at r f z
stops_at at v f m z r a h fits e =
    let p : ℕ → Bool = λ x. not (is_below x (of_z w64 z)) in
    let long : length v ≡ 4 = ap length h.lanes ∙ length-map-range_with_len (λ k. of_z w64 (f k)) at 4 in
    let counted : r ≡ prefix_len p v =
    e ∙ ap (λ q. cond (eqb q 0) 4 (count_trailing_zeros 64 q)) (bitmask_splat w64 is_below v 4 (of_z w64 z) long (omega arith)) ∙ first_set_mask_l (λ x. is_below x (of_z w64 z)) v 4 long (omega arith) in
    let high : r ≤ 4 = omega (arith, prefix_len-le-length p v) in
    let lane : (k : ℕ) → k < 4 → p (get_or v k 0) ≡ not (lt_z (f (at + k)) z) = (λ k l.
    ap (λ w. p (get_or w k 0)) h.lanes ∙ ap p (get_or-map-range_with_len (λ n. of_z w64 (f n)) at 4 k (at + k) 0 l refl)
    ∙ (λ t. not (lt_z (back_is (f (at + k)) (omega (arith, h.small (at + k))) t) (to_z-of_z w64 z fits t)))) in
    record {
      high = high;
      before = λ j from to.
          let k : at + (j - at) ≡ j = omega arith in
          subst (λ (n : ℕ). z ≤ℤ f n) k (not_below (f (at + (j - at))) z (sym (lane (j - at) (omega arith)) ∙ prefix_len_passes p v (j - at) 0 (omega arith)));
      stops = λ l. below (f (at + r)) z (sym (lane r l) ∙ ap (λ n. p (get_or v n 0)) counted ∙ prefix_len_stops p v 0 (omega arith));
    }
