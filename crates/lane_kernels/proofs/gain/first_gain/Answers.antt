-- The points and the limit go into a struct: each comes back from it as `to_z w64 (of_z w64 x)`, which is x where it fits.
use Rattle.std.proofs.Common.{ℕ, ◌<◌, ◌≤◌, below_more, inl, inr, arith}
use Rattle.std.proofs.lemmas.Bool.{cases_lt}
use Rattle.std.proofs.lemmas.Int.{to_z-of_z}
use Rattle.lane_kernels.proofs.gain.first_gain.Goals as goal

-- what holds below i, and from i on, holds below n
joined : (P : ℕ → Type 0) (i n : ℕ) → ((j : ℕ) → j < i → P j) → ((j : ℕ) → i ≤ j → j < n → P j) → (j : ℕ) → j < n → P j
joined P i n below above j h = elim (cases_lt j i) [ inl l ↦ below j l | inr l ↦ above j l h ]

pub returns-then-before-lt4-clause-least : goal.returns-then-before-lt4-clause-least
returns-then-before-lt4-clause-least c =
    let px = c.ranges.px in
    let py = c.ranges.py in
    let qx = c.ranges.qx in
    let qy = c.ranges.qy in
    let limit = c.ranges.limit in
    let h = joined _ _ _ c.loop-at.invariant.passed c.places_before-before.ensures.before in
    simp to_z-of_z at h

pub returns-then-is_gain-clause-found : goal.returns-then-is_gain-clause-found
returns-then-is_gain-clause-found c =
    let px = c.ranges.px in
    let py = c.ranges.py in
    let qx = c.ranges.qx in
    let qy = c.ranges.qy in
    let limit = c.ranges.limit in
    let h = c.is_gain.ensures.gain c.if-is_gain.true in
    simp to_z-of_z at h

pub returns-then-is_gain-clause-least : goal.returns-then-is_gain-clause-least
returns-then-is_gain-clause-least c =
    let px = c.ranges.px in
    let py = c.ranges.py in
    let qx = c.ranges.qx in
    let qy = c.ranges.qy in
    let limit = c.ranges.limit in
    simp to_z-of_z at c.loop-at-2.invariant.passed

pub loop-at-2-preserved : goal.loop-at-2-preserved
loop-at-2-preserved c = record {
  within = omega arith;
  passed = below_more _ _ c.loop-at-2.invariant.passed (c.is_gain.ensures.no_gain c.if-is_gain.false);
}
