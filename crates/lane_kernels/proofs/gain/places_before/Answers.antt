use Rattle.std.proofs.Common.{◌≡◌, ℕ, ℤ, pos, ◌+◌, ◌%◌, ◌^◌, ◌≤◌, ◌+ℤ◌, List, length, get_or, arith, ap, unsigned_abs, cond, eqb, rules, map, take, drop, replicate, w64, of_z, subst}
use Rattle.std.specs.List.{range_with_len}
use Rattle.std.specs.Simd.Lanes.{zip2, mask_l}
use Rattle.lane_kernels.specs.Kernels.{AllWithin, AreNear, AreRows, distance, sum_at}
use Rattle.lane_kernels.proofs.Choices.{none_marked, some_marked}
use Rattle.lane_kernels.proofs.SignedLanes.{Holds, Stops, load, away_fit, away_held, sizes, sizes_fit, distances_held, sum_fit, sum_held, stops_at, bits_of, minus, plus, marks}
use Rattle.lane_kernels.proofs.gain.places_before.Goals as goal
use mir.Val.{SFits}
use lib.Count.{count_trailing_zeros}

-- the distances from x at the four places from i on
abbrev far : ℕ → ℤ → List ℤ → List ℕ
far i x xs = sizes (zip2 (bits_of minus) (replicate 4 (of_z w64 x)) (map (of_z w64) (take 4 (drop i xs))))

-- the sum of two vectors
abbrev sum : List ℕ → List ℕ → List ℕ
sum v w = zip2 (bits_of plus) v w

-- the distances from a point
point_held : (i : ℕ) (x y : ℤ) (xs ys : List ℤ) → unsigned_abs x ≤ 2 ^ 41 → unsigned_abs y ≤ 2 ^ 41 → AllWithin (2 ^ 41) xs → AllWithin (2 ^ 41) ys → i + 4 ≤ length xs → i + 4 ≤ length ys
    → Holds (range_with_len i 4) (sum (far i x xs) (far i y ys)) (λ k. pos (distance x (get_or xs k (pos 0))) +ℤ pos (distance y (get_or ys k (pos 0)))) (2 ^ 43)
point_held i x y xs ys p q r s a b = sum_held i (far i x xs) (far i y ys) _ _ (2 ^ 42) (2 ^ 42) (omega arith) (distances_held i x xs p r a) (distances_held i y ys q s b)

pub overflow_sub-px : goal.overflow_sub-px
overflow_sub-px c = away_fit c.args.at c.args.aim.now.px c.args.ex.now c.requires.near.px_near c.requires.rows.ex_near (omega arith)

pub overflow_sub-px-2 : goal.overflow_sub-px-2
overflow_sub-px-2 c = sizes_fit c.args.at _ _ _ (omega arith) (away_held c.args.at c.args.aim.now.px c.args.ex.now c.requires.near.px_near c.requires.rows.ex_near (omega arith))

pub overflow_sub-py : goal.overflow_sub-py
overflow_sub-py c = away_fit c.args.at c.args.aim.now.py c.args.ey.now c.requires.near.py_near c.requires.rows.ey_near (omega (arith, c.requires.rows.ey_length))

pub overflow_sub-py-2 : goal.overflow_sub-py-2
overflow_sub-py-2 c = sizes_fit c.args.at _ _ _ (omega arith) (away_held c.args.at c.args.aim.now.py c.args.ey.now c.requires.near.py_near c.requires.rows.ey_near (omega (arith, c.requires.rows.ey_length)))

pub overflow_sub-qx : goal.overflow_sub-qx
overflow_sub-qx c = away_fit c.args.at c.args.aim.now.qx c.args.nx.now c.requires.near.qx_near c.requires.rows.nx_near (omega (arith, c.requires.rows.nx_length))

pub overflow_sub-qx-2 : goal.overflow_sub-qx-2
overflow_sub-qx-2 c = sizes_fit c.args.at _ _ _ (omega arith) (away_held c.args.at c.args.aim.now.qx c.args.nx.now c.requires.near.qx_near c.requires.rows.nx_near (omega (arith, c.requires.rows.nx_length)))

pub overflow_sub-qy : goal.overflow_sub-qy
overflow_sub-qy c = away_fit c.args.at c.args.aim.now.qy c.args.ny.now c.requires.near.qy_near c.requires.rows.ny_near (omega (arith, c.requires.rows.ny_length))

pub overflow_sub-qy-2 : goal.overflow_sub-qy-2
overflow_sub-qy-2 c = sizes_fit c.args.at _ _ _ (omega arith) (away_held c.args.at c.args.aim.now.qy c.args.ny.now c.requires.near.qy_near c.requires.rows.ny_near (omega (arith, c.requires.rows.ny_length)))

pub overflow_add-links : goal.overflow_add-links
overflow_add-links c =
    let a = c.args in
    let n = c.requires.near in
    let r = c.requires.rows in
    sum_fit a.at _ _ _ _ (2 ^ 42) (2 ^ 42) (omega arith) (distances_held a.at a.aim.now.px a.ex.now n.px_near r.ex_near (omega arith)) (distances_held a.at a.aim.now.py a.ey.now n.py_near r.ey_near (omega (arith, r.ey_length)))

pub overflow_add-links-2 : goal.overflow_add-links-2
overflow_add-links-2 c =
    let a = c.args in
    let n = c.requires.near in
    let r = c.requires.rows in
    sum_fit a.at _ _ _ _ (2 ^ 42) (2 ^ 42) (omega arith) (distances_held a.at a.aim.now.qx a.nx.now n.qx_near r.nx_near (omega (arith, r.nx_length))) (distances_held a.at a.aim.now.qy a.ny.now n.qy_near r.ny_near (omega (arith, r.ny_length)))

-- the distances from both points
links_held : (i : ℕ) (px py qx qy : ℤ) (ex ey nx ny c : List ℤ) → AreNear px py qx qy → AreRows ex ey nx ny c → i + 4 ≤ length ex
    → Holds (range_with_len i 4) (sum (sum (far i px ex) (far i py ey)) (sum (far i qx nx) (far i qy ny)))
    (λ k. pos (distance px (get_or ex k (pos 0)) + distance py (get_or ey k (pos 0)) + (distance qx (get_or nx k (pos 0)) + distance qy (get_or ny k (pos 0))))) (2 ^ 43 + 2 ^ 43)
links_held i px py qx qy ex ey nx ny c n r room =
    sum_held i _ _ _ _ (2 ^ 43) (2 ^ 43) (omega arith)
    (point_held i px py ex ey n.px_near n.py_near r.ex_near r.ey_near room (omega (arith, r.ey_length)))
    (point_held i qx qy nx ny n.qx_near n.qy_near r.nx_near r.ny_near (omega (arith, r.nx_length)) (omega (arith, r.ny_length)))

pub overflow_add-links-3 : goal.overflow_add-links-3
overflow_add-links-3 c =
    let a = c.args in
    let n = c.requires.near in
    let r = c.requires.rows in
    sum_fit a.at _ _ _ _ (2 ^ 43) (2 ^ 43) (omega arith)
    (point_held a.at a.aim.now.px a.aim.now.py a.ex.now a.ey.now n.px_near n.py_near r.ex_near r.ey_near (omega arith) (omega (arith, r.ey_length)))
    (point_held a.at a.aim.now.qx a.aim.now.qy a.nx.now a.ny.now n.qx_near n.qy_near r.nx_near r.ny_near (omega (arith, r.nx_length)) (omega (arith, r.ny_length)))

pub overflow_add-sums : goal.overflow_add-sums
overflow_add-sums c =
    let a = c.args in
    let r = c.requires.rows in
    sum_fit a.at _ _ _ _ (2 ^ 44) (2 ^ 60) (omega arith)
    (links_held a.at a.aim.now.px a.aim.now.py a.aim.now.qx a.aim.now.qy a.ex.now a.ey.now a.nx.now a.ny.now a.c.now c.requires.near r (omega arith))
    (load a.at a.c.now (2 ^ 60) (omega (arith, r.c_length)) r.c_small)

-- from the mask of the lanes below the limit to the first place
found : (i : ℕ) (px py qx qy : ℤ) (ex ey nx ny c : List ℤ) (limit : ℤ) (r : ℕ) → AreNear px py qx qy → AreRows ex ey nx ny c → i + 4 ≤ length ex → SFits w64 limit
    → (let m : ℕ = mask_l (marks (sum (sum (sum (far i px ex) (far i py ey)) (sum (far i qx nx) (far i qy ny))) (map (of_z w64) (take 4 (drop i c)))) (replicate 4 (of_z w64 limit))) % 2 ^ 64 in
    r ≡ cond (eqb m 0) 4 (count_trailing_zeros 64 m))
    → Stops i r (sum_at px py qx qy ex ey nx ny c) limit
found i px py qx qy ex ey nx ny c limit r n h room fits e =
    let all = sum_held i _ _ _ _ (2 ^ 44) (2 ^ 60) (omega arith) (links_held i px py qx qy ex ey nx ny c n h room) (load i c (2 ^ 60) (omega (arith, h.c_length)) h.c_small) in
    let same : (k : ℕ) → pos (distance px (get_or ex k (pos 0)) + distance py (get_or ey k (pos 0)) + (distance qx (get_or nx k (pos 0)) + distance qy (get_or ny k (pos 0)))) +ℤ get_or c k (pos 0) ≡ sum_at px py qx qy ex ey nx ny c k
    = (λ k. ap (λ (s : ℕ). pos s +ℤ get_or c k (pos 0)) (omega arith)) in
    subst (λ (f : ℕ → ℤ). Stops i r f limit) (λ t k. same k t) (stops_at i _ _ (2 ^ 44 + 2 ^ 60) limit r (omega arith) all fits e)

pub returns-then-marks-eq0 : goal.returns-then-marks-eq0
returns-then-marks-eq0 c =
    let a = c.args in
    let fits : SFits w64 a.aim.now.limit = search rules in
    let s = found a.at a.aim.now.px a.aim.now.py a.aim.now.qx a.aim.now.qy a.ex.now a.ey.now a.nx.now a.ny.now a.c.now a.aim.now.limit 4 c.requires.near c.requires.rows (omega arith) fits (none_marked _ _ _ c.if-marks-eq0.true) in
    record { high = s.high; before = s.before; stops = s.stops }

pub returns-else-marks-eq0 : goal.returns-else-marks-eq0
returns-else-marks-eq0 c =
    let a = c.args in
    let fits : SFits w64 a.aim.now.limit = search rules in
    let s = found a.at a.aim.now.px a.aim.now.py a.aim.now.qx a.aim.now.qy a.ex.now a.ey.now a.nx.now a.ny.now a.c.now a.aim.now.limit _ c.requires.near c.requires.rows (omega arith) fits (some_marked _ _ _ c.if-marks-eq0.false) in
    record { high = s.high; before = s.before; stops = s.stops }
