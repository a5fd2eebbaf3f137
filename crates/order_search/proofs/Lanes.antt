-- What the sums of a chain's links say of its reversed runs, and the rows of four places at a time.
use Rattle.std.proofs.Common.{◌≡◌, ◌≢◌, ℕ, zero, suc, ℤ, pos, ◌+◌, ◌-◌, ◌<◌, ◌≤◌, ◌^◌, List, [], ◌∷◌, length, take, drop, get_or, Option, Some, None, IfNone, slice_get, refl, sym, ap, ◌∙◌, arith, subst, inl, inr, to_z, of_z, w64}
use Rattle.std.specs.Prelude.{◌+ℤ◌, ◌-ℤ◌, ◌<ℤ◌, ◌≤ℤ◌, unsigned_abs}
use Rattle.std.proofs.lemmas.Bool.{cases_lt}
use Rattle.std.proofs.lemmas.Int.{ints}
use Rattle.std.proofs.lemmas.List.{drop_more, length-take-le, length-drop}
use Rattle.std.proofs.lemmas.Option.{none-some}
use Rattle.base_types.specs.declared.span.Point.{Point}
use Rattle.lane_kernels.specs.Kernels.{AreRows, distance, sum_at}
use Rattle.wire_cost.specs.declared.ends.Ends.{Ends}
use Rattle.wire_cost.specs.Filled.{RowLists}
use Rattle.wire_cost.specs.Lengths.{AreWithin, ChainEnds, IsNear, backward_sum, chain_length_of, end_of, exchanged, first_of, forward_sum, length_of, link_of}
use Rattle.wire_cost.specs.Rows.{AreRowsOf, IsRow, before_at, next_at, x_of, y_of}
use Rattle.wire_cost.proofs.FirstLinks.{forward_more}
use Rattle.wire_cost.proofs.Places.{kept}
use Rattle.wire_cost.proofs.Walks.{end_of-take, entry_at, exit_at}
use Rattle.order_search.specs.Runs.{IsSettledAt, IsSettledBetween}
use Rattle.order_search.specs.Steps.{reversed_run}
use Rattle.order_search.proofs.Small.{HasNearEnds, difference_small, near_exchanged, next_x_small, next_y_small, part_at, part_within, sum_small}
use Rattle.order_search.proofs.Turns.{IsRun, run_changes, run_first, run_grown, still}

-- a link is as long the other way
way_back : (a b : ℤ) → unsigned_abs (a -ℤ b) ≡ unsigned_abs (b -ℤ a)
way_back a b = omega (arith, ints)

link_back : (a b : Option Point) → link_of a b ≡ link_of b a
link_back None None = refl
link_back None (Some q) = refl
link_back (Some p) None = refl
link_back (Some p) (Some q) = λ n. way_back p.x q.x n + way_back p.y q.y n

-- the link between two units that follow each other
inner_link : (w : ChainEnds) (us : List ℕ) (e : ℕ) → 0 < e → e < length us → forward_sum w us (e + 1) ≡ forward_sum w us e + link_of (exit_at w (get_or us (e - 1) 0)) (entry_at w (get_or us e 0))
inner_link w us e p q =
    let b : end_of w.exit w.start (take e us) ≡ exit_at w (get_or us (e - 1) 0) = end_of-take w.exit w.start us e p (omega arith) in
    let a : first_of w.entry w.stop (drop e us) ≡ entry_at w (get_or us e 0) = ap (first_of w.entry w.stop) (drop_more us e 0 q) in
    forward_more w us e (omega arith) ∙ (λ t. forward_sum w us e + link_of (b t) (a t))

-- the run from place i up to before place e, with the differences of the sums as its inner links
pub record HasSums (w : ChainEnds) (us : List ℕ) (i e : ℕ) : Type 0 where
  pub fw : ℕ
  pub bw : ℕ
  pub run : IsRun w (take (e - i) (drop i us)) (get_or us i 0) (get_or us (e - 1) 0) fw bw
  pub forward : forward_sum w us e ≡ forward_sum w us (i + 1) + fw
  pub backward : backward_sum w us e ≡ backward_sum w us (i + 1) + bw

sums_grown : (w : ChainEnds) (us : List ℕ) (i e : ℕ) → i < e → e < length us → HasSums w us i e → HasSums w us i (e + 1)
sums_grown w us i e l h s =
    let x : ℕ = link_of (exit_at w (get_or us (e - 1) 0)) (entry_at w (get_or us e 0)) in
    let y : ℕ = link_of (exit_at w (get_or us e 0)) (entry_at w (get_or us (e - 1) 0)) in
    record {
      fw = s.fw + x;
      bw = s.bw + y;
      run = run_grown w us i e (get_or us i 0) s.fw s.bw x y l h s.run refl refl;
      forward = omega (arith, inner_link w us e (omega arith) h, s.forward);
      backward = omega (arith, inner_link (exchanged w) us e (omega arith) h, s.backward, link_back (entry_at w (get_or us (e - 1) 0)) (exit_at w (get_or us e 0)));
    }

sums_of_run : (w : ChainEnds) (us : List ℕ) (i n : ℕ) → i + 1 + n ≤ length us → HasSums w us i (i + 1 + n)
sums_of_run w us i zero h =
    let e : i + 1 ≡ i + 1 + zero = omega arith in
    subst (HasSums w us i) e (record { fw = 0; bw = 0; run = run_first w us i (omega arith); forward = omega arith; backward = omega arith })
sums_of_run w us i (suc n) h =
    let e : i + 1 + n + 1 ≡ i + 1 + suc n = omega arith in
    subst (HasSums w us i) e (sums_grown w us i (i + 1 + n) (omega arith) (omega arith) (sums_of_run w us i n (omega arith)))

-- how the length changes where the run from place i to place j is reversed
pub turned_length : (w : ChainEnds) (us : List ℕ) (i j : ℕ) → i < j → j < length us
    → length_of w us + (link_of (before_at w us i) (entry_at w (get_or us j 0)) + link_of (exit_at w (get_or us i 0)) (next_at w us (j + 1)) + backward_sum w us (j + 1) + forward_sum w us (i + 1))
    ≡ length_of w (reversed_run us i (j + 1 - i)) + (link_of (before_at w us i) (entry_at w (get_or us i 0)) + forward_sum w us (j + 2) + backward_sum w us (i + 1))
turned_length w us i j l h =
    let e : i + 1 + (j - i) ≡ j + 1 = omega arith in
    let s : HasSums w us i (j + 1) = subst (HasSums w us i) e (sums_of_run w us i (j - i) (omega arith)) in
    let m : i + (j + 1 - i) ≡ j + 1 = omega arith in
    let here : j + 1 - 1 ≡ j = omega arith in
    let more : j + 1 + 1 ≡ j + 2 = omega arith in
    let b : before_at w us (j + 1) ≡ exit_at w (get_or us (j + 1 - 1) 0) = end_of-take w.exit w.start us (j + 1) (omega arith) (omega arith) in
    let last : link_of (before_at w us (j + 1)) (next_at w us (j + 1)) ≡ link_of (exit_at w (get_or us (j + 1 - 1) 0)) (next_at w us (i + (j + 1 - i))) = (λ t. link_of (b t) (sym (ap (next_at w us) m) t)) in
    let behind : link_of (exit_at w (get_or us i 0)) (next_at w us (i + (j + 1 - i))) ≡ link_of (exit_at w (get_or us i 0)) (next_at w us (j + 1)) = ap (λ (k : ℕ). link_of (exit_at w (get_or us i 0)) (next_at w us k)) m in
    let ahead : link_of (before_at w us i) (entry_at w (get_or us (j + 1 - 1) 0)) ≡ link_of (before_at w us i) (entry_at w (get_or us j 0)) = ap (λ (k : ℕ). link_of (before_at w us i) (entry_at w (get_or us k 0))) here in
    let two : forward_sum w us (j + 1 + 1) ≡ forward_sum w us (j + 2) = ap (forward_sum w us) more in
    omega (arith, run_changes w us i (j + 1 - i) (get_or us i 0) (get_or us (j + 1 - 1) 0) s.fw s.bw s.run, last, behind, ahead, two, forward_more w us (j + 1) (omega arith), s.forward, s.backward)

-- the two sides that the code compares
pub record IsTested (w : ChainEnds) (us : List ℕ) (i j now then : ℕ) : Type 0 where
  pub before : now ≡ link_of (before_at w us i) (entry_at w (get_or us i 0)) + forward_sum w us (j + 2) + backward_sum w us (i + 1)
  pub after : then ≡ link_of (before_at w us i) (entry_at w (get_or us j 0)) + link_of (exit_at w (get_or us i 0)) (next_at w us (j + 1)) + backward_sum w us (j + 1) + forward_sum w us (i + 1)

pub turned_shorter : (w : ChainEnds) (us : List ℕ) (i j now then : ℕ) → i < j → j < length us → IsTested w us i j now then → then < now → length_of w (reversed_run us i (j + 1 - i)) < length_of w us
turned_shorter w us i j now then l h t g = omega (arith, turned_length w us i j l h, t.before, t.after)

pub turned_no_shorter : (w : ChainEnds) (us : List ℕ) (i j now then : ℕ) → i < j → j < length us → IsTested w us i j now then → now ≤ then → length_of w us ≤ length_of w (reversed_run us i (j + 1 - i))
turned_no_shorter w us i j now then l h t g = omega (arith, turned_length w us i j l h, t.before, t.after)

-- the rows that lanes read, as they are lent
pub record AreLent (w : ChainEnds) (us : List ℕ) (xs ys ts : List ℤ) : Type 0 where
  pub x : IsRow (length us + 1) (λ (k : ℕ). x_of (next_at w us k)) xs
  pub y : IsRow (length us + 1) (λ (k : ℕ). y_of (next_at w us k)) ys
  pub turned : IsRow (length us) (λ (k : ℕ). pos (backward_sum w us (k + 1)) -ℤ pos (forward_sum w us (k + 2))) ts

pub lent : (w : ChainEnds) (us : List ℕ) (rows : RowLists) (xs ys ts : List ℤ) → AreRowsOf w us rows → xs ≡ rows.entry_x → ys ≡ rows.entry_y → ts ≡ rows.turned → AreLent w us xs ys ts
lent w us rows xs ys ts r p q s = record {
  x = subst (IsRow (length us + 1) (λ (k : ℕ). x_of (next_at w us k))) (sym p) r.entry_x;
  y = subst (IsRow (length us + 1) (λ (k : ℕ). y_of (next_at w us k))) (sym q) r.entry_y;
  turned = subst (IsRow (length us) (λ (k : ℕ). pos (backward_sum w us (k + 1)) -ℤ pos (forward_sum w us (k + 2)))) (sym s) r.turned;
}

-- the part of a row that stands at these places
abbrev pub part : ℕ → ℕ → List ℤ → List ℤ
part from until xs = take (until - from) (drop from xs)

-- a part of a row, as long as asked
pub part_long : (n : ℕ) (f : ℕ → ℤ) (xs : List ℤ) (from count : ℕ) → IsRow n f xs → from + count ≤ n → length (take count (drop from xs)) ≡ count
part_long n f xs from count r h = length-take-le count (drop from xs) (omega (arith, length-drop from xs, r.count))

-- the parts of them that lanes read for the runs from place i to a place before `until`
pub ready : (w : ChainEnds) (us : List ℕ) (xs ys ts : List ℤ) (from until : ℕ) → AreLent w us xs ys ts → HasNearEnds w → length us ≤ 65536 → from ≤ until → until ≤ length us
    → AreRows (part from until xs) (part from until ys) (part (from + 1) (until + 1) xs) (part (from + 1) (until + 1) ys) (part from until ts)
ready w us xs ys ts from until r n few p q =
    let long : length (part from until xs) ≡ until - from = part_long (length us + 1) (λ (k : ℕ). x_of (next_at w us k)) xs from (until - from) r.x (omega arith) in
    let far_x : (k : ℕ) → k < length us + 1 → unsigned_abs (x_of (next_at w us k)) ≤ 2 ^ 41 = (λ k l. next_x_small w us k n) in
    let far_y : (k : ℕ) → k < length us + 1 → unsigned_abs (y_of (next_at w us k)) ≤ 2 ^ 41 = (λ k l. next_y_small w us k n) in
    let far_t : (k : ℕ) → k < length us → unsigned_abs (pos (backward_sum w us (k + 1)) -ℤ pos (forward_sum w us (k + 2))) ≤ 2 ^ 60
    = (λ k l. difference_small (backward_sum w us (k + 1)) (forward_sum w us (k + 2)) (sum_small (exchanged w) us (k + 1) (near_exchanged w n) few (omega arith)) (sum_small w us (k + 2) n few (omega arith)))
    in
    record {
      ex_near = part_within (length us + 1) (2 ^ 41) (λ (k : ℕ). x_of (next_at w us k)) xs r.x far_x from (until - from);
      ey_near = part_within (length us + 1) (2 ^ 41) (λ (k : ℕ). y_of (next_at w us k)) ys r.y far_y from (until - from);
      nx_near = part_within (length us + 1) (2 ^ 41) (λ (k : ℕ). x_of (next_at w us k)) xs r.x far_x (from + 1) (until + 1 - (from + 1));
      ny_near = part_within (length us + 1) (2 ^ 41) (λ (k : ℕ). y_of (next_at w us k)) ys r.y far_y (from + 1) (until + 1 - (from + 1));
      c_small = part_within (length us) (2 ^ 60) (λ (k : ℕ). pos (backward_sum w us (k + 1)) -ℤ pos (forward_sum w us (k + 2))) ts r.turned far_t from (until - from);
      ey_length = omega (arith, long, part_long (length us + 1) (λ (k : ℕ). y_of (next_at w us k)) ys from (until - from) r.y (omega arith));
      nx_length = omega (arith, long, part_long (length us + 1) (λ (k : ℕ). x_of (next_at w us k)) xs (from + 1) (until + 1 - (from + 1)) r.x (omega arith));
      ny_length = omega (arith, long, part_long (length us + 1) (λ (k : ℕ). y_of (next_at w us k)) ys (from + 1) (until + 1 - (from + 1)) r.y (omega arith));
      c_length = omega (arith, long, part_long (length us) (λ (k : ℕ). pos (backward_sum w us (k + 1)) -ℤ pos (forward_sum w us (k + 2))) ts from (until - from) r.turned (omega arith));
    }

-- a link by the coordinates of its ends
pub link_by : (p : Point) (o : Option Point) → o ≢ None → link_of (Some p) o ≡ distance p.x (x_of o) + distance p.y (y_of o)
link_by p None h = absurd (h refl)
link_by p (Some q) h = refl

-- the sum that lanes make for the run from place i to place from + k
pub lane_sum : (w : ChainEnds) (us : List ℕ) (xs ys ts : List ℤ) (p q : Point) (from until k j : ℕ) → AreLent w us xs ys ts → until ≤ length us → from + k < until → from + k ≡ j
    → next_at w us j ≢ None → next_at w us (j + 1) ≢ None
    → sum_at p.x p.y q.x q.y (part from until xs) (part from until ys) (part (from + 1) (until + 1) xs) (part (from + 1) (until + 1) ys) (part from until ts) k
    ≡ pos (link_of (Some p) (next_at w us j) + link_of (Some q) (next_at w us (j + 1))) +ℤ (pos (backward_sum w us (j + 1)) -ℤ pos (forward_sum w us (j + 2)))
lane_sum w us xs ys ts p q from until k j r h l e here there =
    let next : from + 1 + k ≡ j + 1 = omega arith in
    let x : get_or (part from until xs) k (pos 0) ≡ x_of (next_at w us j) = part_at xs from (until - from) k (omega arith) ∙ ap (λ (n : ℕ). get_or xs n (pos 0)) e ∙ r.x.each j (omega arith) in
    let y : get_or (part from until ys) k (pos 0) ≡ y_of (next_at w us j) = part_at ys from (until - from) k (omega arith) ∙ ap (λ (n : ℕ). get_or ys n (pos 0)) e ∙ r.y.each j (omega arith) in
    let x_next : get_or (part (from + 1) (until + 1) xs) k (pos 0) ≡ x_of (next_at w us (j + 1)) = part_at xs (from + 1) (until + 1 - (from + 1)) k (omega arith) ∙ ap (λ (n : ℕ). get_or xs n (pos 0)) next ∙ r.x.each (j + 1) (omega arith) in
    let y_next : get_or (part (from + 1) (until + 1) ys) k (pos 0) ≡ y_of (next_at w us (j + 1)) = part_at ys (from + 1) (until + 1 - (from + 1)) k (omega arith) ∙ ap (λ (n : ℕ). get_or ys n (pos 0)) next ∙ r.y.each (j + 1) (omega arith) in
    let t : get_or (part from until ts) k (pos 0) ≡ pos (backward_sum w us (j + 1)) -ℤ pos (forward_sum w us (j + 2)) = part_at ts from (until - from) k (omega arith) ∙ ap (λ (n : ℕ). get_or ts n (pos 0)) e ∙ r.turned.each j (omega arith) in
    let ways : distance p.x (x_of (next_at w us j)) + distance p.y (y_of (next_at w us j)) + distance q.x (x_of (next_at w us (j + 1))) + distance q.y (y_of (next_at w us (j + 1))) ≡ link_of (Some p) (next_at w us j) + link_of (Some q) (next_at w us (j + 1))
    = omega (arith, link_by p (next_at w us j) here, link_by q (next_at w us (j + 1)) there)
    in
    (λ n. pos (distance p.x (x n) + distance p.y (y n) + distance q.x (x_next n) + distance q.y (y_next n)) +ℤ t n) ∙ (λ n. pos (ways n) +ℤ (pos (backward_sum w us (j + 1)) -ℤ pos (forward_sum w us (j + 2))))

less_is : (a b f u g : ℕ) → (pos a +ℤ (pos b -ℤ pos f)) <ℤ (pos u -ℤ pos g) → a + b + g < u + f
less_is a b f u g h = omega (arith, ints)

least_is : (a b f u g : ℕ) → (pos u -ℤ pos g) ≤ℤ (pos a +ℤ (pos b -ℤ pos f)) → u + f ≤ a + b + g
least_is a b f u g h = omega (arith, ints)

-- where the runs from place i are tested from: the points that the chain comes from before and after its unit, and the limit
pub record IsAim (w : ChainEnds) (us : List ℕ) (i : ℕ) (p q : Point) (limit : ℤ) : Type 0 where
  pub before : before_at w us i ≡ Some p
  pub exit : exit_at w (get_or us i 0) ≡ Some q
  pub limit_is : limit ≡ pos (link_of (Some p) (entry_at w (get_or us i 0)) + backward_sum w us (i + 1)) -ℤ pos (forward_sum w us (i + 1))

-- both sides of a test over rows, without the sums that are taken away
abbrev aimed_then : ChainEnds → List ℕ → ℕ → ℕ → Point → Point → ℕ
aimed_then w us i j p q = link_of (Some p) (next_at w us j) + link_of (Some q) (next_at w us (j + 1)) + backward_sum w us (j + 1) + forward_sum w us (i + 1)

abbrev aimed_now : ChainEnds → List ℕ → ℕ → ℕ → Point → ℕ
aimed_now w us i j p = link_of (Some p) (entry_at w (get_or us i 0)) + backward_sum w us (i + 1) + forward_sum w us (j + 2)

aimed : (w : ChainEnds) (us : List ℕ) (i j : ℕ) (p q : Point) (limit : ℤ) → IsAim w us i p q limit → j < length us → IsTested w us i j (aimed_now w us i j p) (aimed_then w us i j p q)
aimed w us i j p q limit a h =
    let unit : next_at w us j ≡ entry_at w (get_or us j 0) = ap (first_of w.entry w.stop) (drop_more us j 0 h) in
    let one : link_of (Some p) (entry_at w (get_or us i 0)) ≡ link_of (before_at w us i) (entry_at w (get_or us i 0)) = (λ n. link_of (sym a.before n) (entry_at w (get_or us i 0))) in
    let two : link_of (Some p) (next_at w us j) ≡ link_of (before_at w us i) (entry_at w (get_or us j 0)) = (λ n. link_of (sym a.before n) (unit n)) in
    let three : link_of (Some q) (next_at w us (j + 1)) ≡ link_of (exit_at w (get_or us i 0)) (next_at w us (j + 1)) = (λ n. link_of (sym a.exit n) (next_at w us (j + 1))) in
    record { before = omega (arith, one); after = omega (arith, two, three) }

pub lane_gain : (w : ChainEnds) (us : List ℕ) (i j : ℕ) (p q : Point) (limit sum : ℤ) → IsAim w us i p q limit → i < j → j < length us
    → sum ≡ pos (link_of (Some p) (next_at w us j) + link_of (Some q) (next_at w us (j + 1))) +ℤ (pos (backward_sum w us (j + 1)) -ℤ pos (forward_sum w us (j + 2)))
    → sum <ℤ limit → length_of w (reversed_run us i (j + 1 - i)) < length_of w us
lane_gain w us i j p q limit sum a l h e less =
    let under = less_is (link_of (Some p) (next_at w us j) + link_of (Some q) (next_at w us (j + 1))) (backward_sum w us (j + 1)) (forward_sum w us (j + 2)) (link_of (Some p) (entry_at w (get_or us i 0)) + backward_sum w us (i + 1)) (forward_sum w us (i + 1)) (subst (λ (z : ℤ). z <ℤ (pos (link_of (Some p) (entry_at w (get_or us i 0)) + backward_sum w us (i + 1)) -ℤ pos (forward_sum w us (i + 1)))) e (subst (λ (z : ℤ). sum <ℤ z) a.limit_is less)) in
    turned_shorter w us i j (aimed_now w us i j p) (aimed_then w us i j p q) l h (aimed w us i j p q limit a h) under

pub lane_least : (w : ChainEnds) (us : List ℕ) (i j : ℕ) (p q : Point) (limit sum : ℤ) → IsAim w us i p q limit → i < j → j < length us
    → sum ≡ pos (link_of (Some p) (next_at w us j) + link_of (Some q) (next_at w us (j + 1))) +ℤ (pos (backward_sum w us (j + 1)) -ℤ pos (forward_sum w us (j + 2)))
    → limit ≤ℤ sum → length_of w us ≤ length_of w (reversed_run us i (j + 1 - i))
lane_least w us i j p q limit sum a l h e least =
    let above = least_is (link_of (Some p) (next_at w us j) + link_of (Some q) (next_at w us (j + 1))) (backward_sum w us (j + 1)) (forward_sum w us (j + 2)) (link_of (Some p) (entry_at w (get_or us i 0)) + backward_sum w us (i + 1)) (forward_sum w us (i + 1)) (subst (λ (z : ℤ). (pos (link_of (Some p) (entry_at w (get_or us i 0)) + backward_sum w us (i + 1)) -ℤ pos (forward_sum w us (i + 1))) ≤ℤ z) e (subst (λ (z : ℤ). z ≤ℤ sum) a.limit_is least)) in
    turned_no_shorter w us i j (aimed_now w us i j p) (aimed_then w us i j p q) l h (aimed w us i j p q limit a h) above

-- there is a point at each place before a unit in range
at_unit : (ps : List Point) (u : ℕ) → u < length ps → slice_get ps u ≢ None
at_unit [] u l = absurd (omega arith)
at_unit (p ∷ ps) zero l = λ e. none-some p (sym e)
at_unit (p ∷ ps) (suc u) l = at_unit ps u (omega arith)

pub next_is_somewhere : (w : ChainEnds) (us : List ℕ) (j : ℕ) → AreWithin us (length w.entry) → j < length us → next_at w us j ≢ None
next_is_somewhere w us j g l = λ e. at_unit w.entry (get_or us j 0) (g j l) (sym (ap (first_of w.entry w.stop) (drop_more us j 0 l)) ∙ e)

-- what holds in any case
pub in_any_case : (o : Option ℕ) (P : Type 0) → P → IfNone o P
in_any_case None P h = h
in_any_case (Some m) P h = tt

-- a signed number as the code hands it over
abbrev pub over : ℤ → ℤ
over z = to_z w64 (of_z w64 z)

sum_over : (p q : Point) (a b c d e : List ℤ) (k : ℕ) → IsNear p → IsNear q → sum_at (over p.x) (over p.y) (over q.x) (over q.y) a b c d e k ≡ sum_at p.x p.y q.x q.y a b c d e k
sum_over p q a b c d e k m n =
    let px : over p.x ≡ p.x = kept p.x (omega (arith, m.x)) in
    let py : over p.y ≡ p.y = kept p.y (omega (arith, m.y)) in
    let qx : over q.x ≡ q.x = kept q.x (omega (arith, n.x)) in
    let qy : over q.y ≡ q.y = kept q.y (omega (arith, n.y)) in
    λ t. sum_at (px t) (py t) (qx t) (qy t) a b c d e k

pub less_over : (p q : Point) (limit : ℤ) (a b c d e : List ℤ) (k : ℕ) → IsNear p → IsNear q → unsigned_abs limit ≤ 2 ^ 61
    → sum_at (over p.x) (over p.y) (over q.x) (over q.y) a b c d e k <ℤ over limit → sum_at p.x p.y q.x q.y a b c d e k <ℤ limit
less_over p q limit a b c d e k m n s h =
    let l : over limit ≡ limit = kept limit (omega arith) in
    subst (λ (z : ℤ). sum_at p.x p.y q.x q.y a b c d e k <ℤ z) l (subst (λ (z : ℤ). z <ℤ over limit) (sum_over p q a b c d e k m n) h)

pub least_over : (p q : Point) (limit : ℤ) (a b c d e : List ℤ) (k : ℕ) → IsNear p → IsNear q → unsigned_abs limit ≤ 2 ^ 61
    → over limit ≤ℤ sum_at (over p.x) (over p.y) (over q.x) (over q.y) a b c d e k → limit ≤ℤ sum_at p.x p.y q.x q.y a b c d e k
least_over p q limit a b c d e k m n s h =
    let l : over limit ≡ limit = kept limit (omega arith) in
    subst (λ (z : ℤ). z ≤ℤ sum_at p.x p.y q.x q.y a b c d e k) l (subst (λ (z : ℤ). over limit ≤ℤ z) (sum_over p q a b c d e k m n) h)

-- and behind each unit before the first n, where there is one behind the last of all
pub somewhere_behind : (w : ChainEnds) (us : List ℕ) (limit n : ℕ) → AreWithin us (length w.entry) → limit ≤ length us → n ≤ limit → (n ≡ limit → next_at w us limit ≢ None) → (j : ℕ) → j < n → next_at w us (j + 1) ≢ None
somewhere_behind w us limit n g h p last j l = elim (cases_lt (j + 1) limit) [
  | inl a ↦ next_is_somewhere w us (j + 1) g (omega arith)
  | inr b ↦ (let e : limit ≡ j + 1 = omega arith in subst (λ (k : ℕ). next_at w us k ≢ None) e (last (omega arith)))
]

-- no run from place i makes the chain shorter where none does to a place behind
pub settled_at : (e : Ends) (c : ℕ) (us : List ℕ) (limit i : ℕ) → IsSettledBetween e c us i (i + 1) limit → IsSettledAt e c us limit i
settled_at e c us limit i h = λ m l. elim (cases_lt 1 m) [
  | inl a ↦ (let n : i + m - 1 + 1 - i ≡ m = omega arith in subst (λ (k : ℕ). chain_length_of e c us ≤ chain_length_of e c (reversed_run us i k)) n (h (i + m - 1) (omega arith) (omega arith)))
  | inr b ↦ (let same = ap (chain_length_of e c) (still us i m (omega arith)) in omega (arith, same))
]

pub settled_joined : (e : Ends) (c : ℕ) (us : List ℕ) (i a b d : ℕ) → IsSettledBetween e c us i a b → IsSettledBetween e c us i b d → IsSettledBetween e c us i a d
settled_joined e c us i a b d f g = λ j l h. elim (cases_lt j b) [ inl p ↦ f j l p | inr q ↦ g j q h ]

-- one place more
pub settled_more : (e : Ends) (c : ℕ) (us : List ℕ) (i a j : ℕ) → IsSettledBetween e c us i a j → chain_length_of e c us ≤ chain_length_of e c (reversed_run us i (j + 1 - i)) → IsSettledBetween e c us i a (j + 1)
settled_more e c us i a j f g = λ k l h. elim (cases_lt k j) [
  | inl p ↦ f k l p
  | inr q ↦ (let n : j ≡ k = omega arith in subst (λ (m : ℕ). chain_length_of e c us ≤ chain_length_of e c (reversed_run us i (m + 1 - i))) n g)
]
