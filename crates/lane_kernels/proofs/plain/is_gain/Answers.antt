use Rattle.std.proofs.Common.{◌≡◌, ℕ, ℤ, pos, ◌+◌, ◌^◌, ◌≤◌, ◌+ℤ◌, ◌-ℤ◌, ◌≤ℤ◌, ◌<ℤ◌, List, true, false, arith, rules, get_or, unsigned_abs, to_z, of_z, w64, ap, ◌∙◌}
use Rattle.std.proofs.lemmas.Int.{ints, to_z-of_z}
use Rattle.lane_kernels.specs.Kernels.{AreNear, AreRows, distance, sum_at}
use Rattle.lane_kernels.proofs.plain.is_gain.Goals as goal
use mir.Val.{SFits}
use lib.Signed.{lt_z}

-- a distance as the code makes it
abbrev made : ℤ → ℤ → ℕ
made x y = unsigned_abs (to_z w64 (of_z w64 x) -ℤ to_z w64 (of_z w64 y))

made_is : (x y : ℤ) → unsigned_abs x ≤ 2 ^ 41 → unsigned_abs y ≤ 2 ^ 41 → made x y ≡ distance x y
made_is x y p q = omega (arith, ints)

made_small : (x y : ℤ) → unsigned_abs x ≤ 2 ^ 41 → unsigned_abs y ≤ 2 ^ 41 → made x y ≤ 2 ^ 42
made_small x y p q = omega (arith, ints)

total_is : (n : ℕ) (c : ℤ) → n ≤ 2 ^ 44 → unsigned_abs c ≤ 2 ^ 60 → to_z w64 (of_z w64 (to_z w64 n +ℤ to_z w64 (of_z w64 c))) ≡ pos n +ℤ c
total_is n c p q = omega (arith, ints)

total_fits : (n : ℕ) (c : ℤ) → n ≤ 2 ^ 44 → unsigned_abs c ≤ 2 ^ 60 → SFits w64 (to_z w64 n +ℤ to_z w64 (of_z w64 c))
total_fits n c p q = omega (arith, ints)

cast_fits : (n : ℕ) → n ≤ 2 ^ 44 → SFits w64 (pos n)
cast_fits n p = omega (arith, ints)

-- what the four distances come to
record Known (sum : ℤ) (n : ℕ) (c : ℤ) : Type 0 where
  within : n ≤ 2 ^ 44
  c_small : unsigned_abs c ≤ 2 ^ 60
  is : pos n +ℤ c ≡ sum

known : {px py qx qy : ℤ} {ex ey nx ny c : List ℤ} {a b d e : ℕ} (near : AreNear px py qx qy) (rows : AreRows ex ey nx ny c) (k : ℕ)
    → a ≡ made px (get_or ex k (pos 0)) → b ≡ made py (get_or ey k (pos 0)) → d ≡ made qx (get_or nx k (pos 0)) → e ≡ made qy (get_or ny k (pos 0))
    → Known (sum_at px py qx qy ex ey nx ny c k) (a + b + (d + e)) (get_or c k (pos 0))
known {px} {py} {qx} {qy} {ex} {ey} {nx} {ny} {c} near rows k p q r s =
    let hp = made_small px (get_or ex k (pos 0)) near.px_near (rows.ex_near k) in
    let hq = made_small py (get_or ey k (pos 0)) near.py_near (rows.ey_near k) in
    let hr = made_small qx (get_or nx k (pos 0)) near.qx_near (rows.nx_near k) in
    let hs = made_small qy (get_or ny k (pos 0)) near.qy_near (rows.ny_near k) in
    let ep = p ∙ made_is px (get_or ex k (pos 0)) near.px_near (rows.ex_near k) in
    let eq = q ∙ made_is py (get_or ey k (pos 0)) near.py_near (rows.ey_near k) in
    let er = r ∙ made_is qx (get_or nx k (pos 0)) near.qx_near (rows.nx_near k) in
    let es = s ∙ made_is qy (get_or ny k (pos 0)) near.qy_near (rows.ny_near k) in
    record { within = omega (arith, p, q, r, s, hp, hq, hr, hs); c_small = rows.c_small k; is = ap (λ (n : ℕ). pos n +ℤ get_or c k (pos 0)) (omega (arith, ep, eq, er, es)) }

below : {sum c z w : ℤ} {n : ℕ} → Known sum n c → w ≡ z → lt_z (to_z w64 (of_z w64 (to_z w64 n +ℤ to_z w64 (of_z w64 c)))) w ≡ true → sum <ℤ z
below {sum} {c} {z} {w} {n} known e h = let x = total_is n c known.within known.c_small ∙ known.is in grind (arith, ints)

not_below : {sum c z w : ℤ} {n : ℕ} → Known sum n c → w ≡ z → lt_z (to_z w64 (of_z w64 (to_z w64 n +ℤ to_z w64 (of_z w64 c)))) w ≡ false → z ≤ℤ sum
not_below {sum} {c} {z} {w} {n} known e h = let x = total_is n c known.within known.c_small ∙ known.is in grind (arith, ints)

pub overflow_add-result : goal.overflow_add-result
overflow_add-result c =
    omega (arith, (known c.requires.near c.requires.rows c.args.k c.abs_diff.ensures c.abs_diff-2.ensures c.abs_diff-3.ensures c.abs_diff-4.ensures).within)

pub overflow_cast-result : goal.overflow_cast-result
overflow_cast-result c =
    cast_fits _ (known c.requires.near c.requires.rows c.args.k c.abs_diff.ensures c.abs_diff-2.ensures c.abs_diff-3.ensures c.abs_diff-4.ensures).within

pub overflow_add-result-2 : goal.overflow_add-result-2
overflow_add-result-2 c =
    let h = known c.requires.near c.requires.rows c.args.k c.abs_diff.ensures c.abs_diff-2.ensures c.abs_diff-3.ensures c.abs_diff-4.ensures in
    total_fits _ (get_or c.args.c.now c.args.k (pos 0)) h.within h.c_small

pub returns-clause-gain : goal.returns-clause-gain
returns-clause-gain c =
    let fits : SFits w64 c.args.aim.now.limit = search rules in
    below (known c.requires.near c.requires.rows c.args.k c.abs_diff.ensures c.abs_diff-2.ensures c.abs_diff-3.ensures c.abs_diff-4.ensures) (to_z-of_z w64 c.args.aim.now.limit fits)

pub returns-clause-no_gain : goal.returns-clause-no_gain
returns-clause-no_gain c =
    let fits : SFits w64 c.args.aim.now.limit = search rules in
    not_below (known c.requires.near c.requires.rows c.args.k c.abs_diff.ensures c.abs_diff-2.ensures c.abs_diff-3.ensures c.abs_diff-4.ensures) (to_z-of_z w64 c.args.aim.now.limit fits)
