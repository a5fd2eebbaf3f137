-- The points and the limit go into a struct: each comes back from it as `to_z w64 (of_z w64 x)`, which is x where it fits.
use Rattle.std.proofs.Common.{below_more}
use Rattle.std.proofs.lemmas.Int.{to_z-of_z}
use Rattle.lane_kernels.proofs.plain.first_gain.Goals as goal

pub returns-then-is_gain-clause-found : goal.returns-then-is_gain-clause-found
returns-then-is_gain-clause-found c =
    let px = c.ranges.px in
    let py = c.ranges.py in
    let qx = c.ranges.qx in
    let qy = c.ranges.qy in
    let limit = c.ranges.limit in
    let h = c.is_gain.ensures.gain c.if-is_gain.true in
    simp to_z-of_z at h

pub returns-then-is_gain-clause-least : goal.returns-then-is_gain-clause-least
returns-then-is_gain-clause-least c =
    let px = c.ranges.px in
    let py = c.ranges.py in
    let qx = c.ranges.qx in
    let qy = c.ranges.qy in
    let limit = c.ranges.limit in
    simp to_z-of_z at c.loop-k.invariant

pub loop-k-preserved : goal.loop-k-preserved
loop-k-preserved c = below_more _ _ c.loop-k.invariant (c.is_gain.ensures.no_gain c.if-is_gain.false)
