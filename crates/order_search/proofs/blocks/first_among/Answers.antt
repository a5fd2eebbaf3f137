use Rattle.std.proofs.Common.{◌≡◌, ℕ, ℤ, ◌+◌, ◌-◌, ◌<◌, ◌≤◌, List, length, refl, subst, arith}
use Rattle.std.specs.Prelude.{◌<ℤ◌, ◌≤ℤ◌}
use Rattle.wire_cost.specs.Lengths.{ChainEnds, chain_ends}
use Rattle.wire_cost.specs.Rows.{x_of, next_at}
use Rattle.order_search.specs.Aims.{IsNoGainTo}
use Rattle.order_search.proofs.Lanes.{AreLent, in_any_case, lane_sum, least_over, lent, less_over, next_is_somewhere, part, part_long, ready}
use Rattle.order_search.proofs.Small.{near_ends}
use Rattle.order_search.proofs.blocks.first_among.Goals as goal

pub first_gain-requires-clause-rows : goal.first_gain-requires-clause-rows
first_gain-requires-clause-rows c =
    let w : ChainEnds = chain_ends c.args.ends.now c.args.chain in
    let us : List ℕ = c.args.units.now in
    let r : AreLent w us c.rows-rows.result.entry_x.now c.rows-rows.result.entry_y.now c.rows-rows.result.turned.now
    = lent w us c.args.sums.now.rows c.rows-rows.result.entry_x.now c.rows-rows.result.entry_y.now c.rows-rows.result.turned.now c.requires.filled.rows c.rows-rows.ensures.entry_x c.rows-rows.ensures.entry_y c.rows-rows.ensures.turned
    in
    ready w us c.rows-rows.result.entry_x.now c.rows-rows.result.entry_y.now c.rows-rows.result.turned.now c.args.from c.args.until r
    (near_ends c.args.ends.now c.args.chain us c.requires.placed c.requires.chain) c.requires.chain.few c.requires.order c.requires.within

pub returns-clause-within : goal.returns-clause-within
returns-clause-within c =
    let w : ChainEnds = chain_ends c.args.ends.now c.args.chain in
    let us : List ℕ = c.args.units.now in
    let xs : List ℤ = c.rows-rows.result.entry_x.now in
    let ys : List ℤ = c.rows-rows.result.entry_y.now in
    let ts : List ℤ = c.rows-rows.result.turned.now in
    let from : ℕ = c.args.from in
    let until : ℕ = c.args.until in
    let r : AreLent w us xs ys ts = lent w us c.args.sums.now.rows xs ys ts c.requires.filled.rows c.rows-rows.ensures.entry_x c.rows-rows.ensures.entry_y c.rows-rows.ensures.turned in
    let long : length (part from until xs) ≡ until - from = part_long (length us + 1) (λ (n : ℕ). x_of (next_at w us n)) xs from (until - from) r.x (omega arith) in
    (omega arith, omega (arith, long, c.in_ok-places.ensures.within))

pub returns-clause-found : goal.returns-clause-found
returns-clause-found c =
    let w : ChainEnds = chain_ends c.args.ends.now c.args.chain in
    let us : List ℕ = c.args.units.now in
    let xs : List ℤ = c.rows-rows.result.entry_x.now in
    let ys : List ℤ = c.rows-rows.result.entry_y.now in
    let ts : List ℤ = c.rows-rows.result.turned.now in
    let from : ℕ = c.args.from in
    let until : ℕ = c.args.until in
    let aim = c.args.aim.now in
    let k : ℕ = c.in_ok-places.places in
    let r : AreLent w us xs ys ts = lent w us c.args.sums.now.rows xs ys ts c.requires.filled.rows c.rows-rows.ensures.entry_x c.rows-rows.ensures.entry_y c.rows-rows.ensures.turned in
    let long : length (part from until xs) ≡ until - from = part_long (length us + 1) (λ (n : ℕ). x_of (next_at w us n)) xs from (until - from) r.x (omega arith) in
    let less = less_over aim.before aim.exit aim.limit (part from until xs) (part from until ys) (part (from + 1) (until + 1) xs) (part (from + 1) (until + 1) ys) (part from until ts) k c.requires.small.before c.requires.small.exit c.requires.small.limit c.in_ok-places.ensures.found in
    let e = lane_sum w us xs ys ts aim.before aim.exit from until k (from + k) r c.requires.within (omega (arith, long, c.in_ok-places.ensures.within)) refl
    (next_is_somewhere w us (from + k) c.requires.chain.entry (omega (arith, long, c.in_ok-places.ensures.within))) (c.requires.somewhere (from + k) (omega arith) (omega (arith, long, c.in_ok-places.ensures.within)))
    in
    subst (λ (z : ℤ). z <ℤ aim.limit) e less

pub returns-in_err-places-clause-none : goal.returns-in_err-places-clause-none
returns-in_err-places-clause-none c =
    let w : ChainEnds = chain_ends c.args.ends.now c.args.chain in
    let us : List ℕ = c.args.units.now in
    let xs : List ℤ = c.rows-rows.result.entry_x.now in
    let ys : List ℤ = c.rows-rows.result.entry_y.now in
    let ts : List ℤ = c.rows-rows.result.turned.now in
    let from : ℕ = c.args.from in
    let until : ℕ = c.args.until in
    let aim = c.args.aim.now in
    let r : AreLent w us xs ys ts = lent w us c.args.sums.now.rows xs ys ts c.requires.filled.rows c.rows-rows.ensures.entry_x c.rows-rows.ensures.entry_y c.rows-rows.ensures.turned in
    let long : length (part from until xs) ≡ until - from = part_long (length us + 1) (λ (n : ℕ). x_of (next_at w us n)) xs from (until - from) r.x (omega arith) in
    in_any_case c.from_residual.result ((j : ℕ) → from ≤ j → j < until → IsNoGainTo w us aim j)
    (λ j b l.
    let e = lane_sum w us xs ys ts aim.before aim.exit from until (j - from) j r c.requires.within (omega arith) (omega arith) (next_is_somewhere w us j c.requires.chain.entry (omega arith)) (c.requires.somewhere j b l) in
    let most = least_over aim.before aim.exit aim.limit (part from until xs) (part from until ys) (part (from + 1) (until + 1) xs) (part (from + 1) (until + 1) ys) (part from until ts) (j - from) c.requires.small.before c.requires.small.exit c.requires.small.limit (c.in_err-places.ensures.none (j - from) (omega (arith, long))) in
    subst (λ (z : ℤ). aim.limit ≤ℤ z) e most)
