use Rattle.std.proofs.Common.{ℕ, ◌+◌, Option, Some, None, IfNone, arith}
use Rattle.order_search.specs.Runs.{IsSettledAt, IsSettledBetween}
use Rattle.order_search.proofs.Lanes.{settled_at, settled_joined}
use Rattle.order_search.proofs.gains.shorter_at.Goals as goal

if_none : (o : Option ℕ) (P Q : Type 0) → (P → Q) → IfNone o P → IfNone o Q
if_none None P Q f h = f h
if_none (Some m) P Q f h = tt

pub shorter_in_rows-requires-clause-somewhere : goal.shorter_in_rows-requires-clause-somewhere
shorter_in_rows-requires-clause-somewhere c = λ j p q. c.lane_end.ensures.somewhere j (omega arith)

pub returns-in_default-clause-none : goal.returns-in_default-clause-none
returns-in_default-clause-none c =
    if_none c.shorter_from.result (IsSettledBetween c.args.ends.now c.args.chain c.args.units.now c.args.i (c.args.i + 1) c.args.limit) (IsSettledAt c.args.ends.now c.args.chain c.args.units.now c.args.limit c.args.i)
    (settled_at c.args.ends.now c.args.chain c.args.units.now c.args.limit c.args.i) c.shorter_from.ensures.none

pub returns-clause-none : goal.returns-clause-none
returns-clause-none c =
    if_none c.shorter_from-2.result (IsSettledBetween c.args.ends.now c.args.chain c.args.units.now c.args.i c.max-until.result c.args.limit) (IsSettledAt c.args.ends.now c.args.chain c.args.units.now c.args.limit c.args.i)
    (λ h. settled_at c.args.ends.now c.args.chain c.args.units.now c.args.limit c.args.i (settled_joined c.args.ends.now c.args.chain c.args.units.now c.args.i (c.args.i + 1) c.max-until.result c.args.limit c.in_default-shorter_in_rows.ensures.none h))
    c.shorter_from-2.ensures.none
