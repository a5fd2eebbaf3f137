use Rattle.std.proofs.Common.{◌≡◌, ℕ, ℤ, ◌+◌, ◌-◌, ◌<◌, ◌≤◌, List, length, subst, arith}
use Rattle.wire_cost.specs.Lengths.{ChainEnds, chain_ends}
use Rattle.wire_cost.specs.Rows.{block_count, middle_of, next_at, x_of}
use Rattle.order_search.specs.Aims.{IsPassed}
use Rattle.order_search.proofs.Blocked.{AreBlocksLent, blocks_lent, blocks_ready, passed}
use Rattle.order_search.proofs.Lanes.{in_any_case, least_over, part, part_long}
use Rattle.order_search.proofs.Small.{near_ends}
use Rattle.order_search.proofs.blocks.first_block.Goals as goal

pub first_gain-requires-clause-rows : goal.first_gain-requires-clause-rows
first_gain-requires-clause-rows c =
    let w : ChainEnds = chain_ends c.args.ends.now c.args.chain in
    let us : List ℕ = c.args.units.now in
    let xs : List ℤ = c.rows-rows.result.middle_x.now in
    let ys : List ℤ = c.rows-rows.result.middle_y.now in
    let ss : List ℤ = c.rows-rows.result.slack.now in
    let r : AreBlocksLent w us xs ys ss = blocks_lent w us c.args.sums.now.rows xs ys ss c.requires.filled.block_rows c.rows-rows.ensures.middle_x c.rows-rows.ensures.middle_y c.rows-rows.ensures.slack in
    blocks_ready w us xs ys ss c.args.from c.args.until r (near_ends c.args.ends.now c.args.chain us c.requires.placed c.requires.chain) c.requires.chain.few c.requires.order c.requires.within

pub returns-clause-within : goal.returns-clause-within
returns-clause-within c =
    let w : ChainEnds = chain_ends c.args.ends.now c.args.chain in
    let us : List ℕ = c.args.units.now in
    let xs : List ℤ = c.rows-rows.result.middle_x.now in
    let ys : List ℤ = c.rows-rows.result.middle_y.now in
    let ss : List ℤ = c.rows-rows.result.slack.now in
    let from : ℕ = c.args.from in
    let until : ℕ = c.args.until in
    let r : AreBlocksLent w us xs ys ss = blocks_lent w us c.args.sums.now.rows xs ys ss c.requires.filled.block_rows c.rows-rows.ensures.middle_x c.rows-rows.ensures.middle_y c.rows-rows.ensures.slack in
    let long : length (part from until xs) ≡ until - from = part_long (block_count (length us)) (λ (b : ℕ). x_of (next_at w us (middle_of (length us) b))) xs from (until - from) r.x (omega arith) in
    (omega arith, omega (arith, long, c.in_ok-blocks.ensures.within))

pub returns-clause-before : goal.returns-clause-before
returns-clause-before c =
    let w : ChainEnds = chain_ends c.args.ends.now c.args.chain in
    let us : List ℕ = c.args.units.now in
    let xs : List ℤ = c.rows-rows.result.middle_x.now in
    let ys : List ℤ = c.rows-rows.result.middle_y.now in
    let ss : List ℤ = c.rows-rows.result.slack.now in
    let from : ℕ = c.args.from in
    let until : ℕ = c.args.until in
    let aim = c.args.aim.now in
    let r : AreBlocksLent w us xs ys ss = blocks_lent w us c.args.sums.now.rows xs ys ss c.requires.filled.block_rows c.rows-rows.ensures.middle_x c.rows-rows.ensures.middle_y c.rows-rows.ensures.slack in
    let long : length (part from until xs) ≡ until - from = part_long (block_count (length us)) (λ (b : ℕ). x_of (next_at w us (middle_of (length us) b))) xs from (until - from) r.x (omega arith) in
    λ d l h.
    let e : from + (d - from) ≡ d = omega arith in
    subst (λ (b : ℕ). IsPassed w us aim b) e (passed w us xs ys ss aim from until (d - from) r c.requires.chain.entry c.requires.within (omega (arith, long, c.in_ok-blocks.ensures.within))
    (least_over aim.before aim.exit aim.limit (part from until xs) (part from until ys) (part from until xs) (part from until ys) (part from until ss) (d - from) c.requires.small.before c.requires.small.exit c.requires.small.limit (c.in_ok-blocks.ensures.least (d - from) (omega arith))))

pub returns-in_err-blocks-clause-none : goal.returns-in_err-blocks-clause-none
returns-in_err-blocks-clause-none c =
    let w : ChainEnds = chain_ends c.args.ends.now c.args.chain in
    let us : List ℕ = c.args.units.now in
    let xs : List ℤ = c.rows-rows.result.middle_x.now in
    let ys : List ℤ = c.rows-rows.result.middle_y.now in
    let ss : List ℤ = c.rows-rows.result.slack.now in
    let from : ℕ = c.args.from in
    let until : ℕ = c.args.until in
    let aim = c.args.aim.now in
    let r : AreBlocksLent w us xs ys ss = blocks_lent w us c.args.sums.now.rows xs ys ss c.requires.filled.block_rows c.rows-rows.ensures.middle_x c.rows-rows.ensures.middle_y c.rows-rows.ensures.slack in
    let long : length (part from until xs) ≡ until - from = part_long (block_count (length us)) (λ (b : ℕ). x_of (next_at w us (middle_of (length us) b))) xs from (until - from) r.x (omega arith) in
    in_any_case c.from_residual.result ((d : ℕ) → from ≤ d → d < until → IsPassed w us aim d)
    (λ d l h.
    let e : from + (d - from) ≡ d = omega arith in
    subst (λ (b : ℕ). IsPassed w us aim b) e (passed w us xs ys ss aim from until (d - from) r c.requires.chain.entry c.requires.within (omega arith)
    (least_over aim.before aim.exit aim.limit (part from until xs) (part from until ys) (part from until xs) (part from until ys) (part from until ss) (d - from) c.requires.small.before c.requires.small.exit c.requires.small.limit (c.in_err-blocks.ensures.none (d - from) (omega (arith, long))))))
