use Rattle.std.proofs.Common.{◌≡◌, pos, ◌+◌, Some, get_or, sym, ap, ◌∙◌, arith}
use Rattle.std.specs.Prelude.{◌-ℤ◌, unsigned_abs}
use Rattle.wire_cost.specs.Lengths.{ChainEnds, chain_ends, link_of}
use Rattle.wire_cost.proofs.Walks.{entry_at}
use Rattle.order_search.proofs.Small.{difference_fits, difference_kept, wide_difference_small}
use Rattle.order_search.proofs.gains.turn_limit.Goals as goal

pub overflow_sub-result : goal.overflow_sub-result
overflow_sub-result c = difference_fits (c.wire-first.result + c.backward_of-turned.result) c.forward_of-straight.result (omega arith) (omega arith)

pub returns-clause-value : goal.returns-clause-value
returns-clause-value c =
    let w : ChainEnds = chain_ends c.args.ends.now c.args.chain in
    let first : c.wire-first.result ≡ link_of (Some c.args.before) (entry_at w (get_or c.args.units.now c.args.i 0)) = c.wire-first.ensures.value ∙ (λ n. link_of (Some c.args.before) (sym c.entry_of.ensures.value n)) in
    difference_kept (c.wire-first.result + c.backward_of-turned.result) c.forward_of-straight.result (omega arith) (omega arith)
    ∙ (λ n. pos (first n + c.backward_of-turned.ensures.value n) -ℤ pos (c.forward_of-straight.ensures.value n))

pub returns-clause-small : goal.returns-clause-small
returns-clause-small c =
    let same = ap unsigned_abs (difference_kept (c.wire-first.result + c.backward_of-turned.result) c.forward_of-straight.result (omega arith) (omega arith)) in
    omega (arith, same, wide_difference_small (c.wire-first.result + c.backward_of-turned.result) c.forward_of-straight.result (omega arith) (omega arith))
