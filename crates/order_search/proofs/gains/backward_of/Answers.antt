use Rattle.std.proofs.Common.{◌≡◌, ◌≤◌, ◌^◌, pos, ◌∙◌, arith}
use Rattle.wire_cost.specs.Lengths.{backward_sum, chain_ends, exchanged}
use Rattle.order_search.proofs.Small.{natural_of, near_ends, near_exchanged, sum_small}
use Rattle.order_search.proofs.gains.backward_of.Goals as goal

pub returns-clause-value : goal.returns-clause-value
returns-clause-value c =
    let is : c.backward.result ≡ pos (backward_sum (chain_ends c.args.ends.now c.args.chain) c.args.units.now c.args.k) = c.backward.ensures.value ∙ c.requires.filled.backward c.args.k c.requires.within in
    let small : backward_sum (chain_ends c.args.ends.now c.args.chain) c.args.units.now c.args.k ≤ 2 ^ 60 = sum_small (exchanged (chain_ends c.args.ends.now c.args.chain)) c.args.units.now c.args.k (near_exchanged (chain_ends c.args.ends.now c.args.chain) (near_ends c.args.ends.now c.args.chain c.args.units.now c.requires.placed c.requires.chain)) c.requires.chain.few c.requires.within in
    c.unsigned_abs.ensures.value ∙ natural_of c.backward.result (backward_sum (chain_ends c.args.ends.now c.args.chain) c.args.units.now c.args.k) is small

pub returns-clause-small : goal.returns-clause-small
returns-clause-small c =
    let is : c.backward.result ≡ pos (backward_sum (chain_ends c.args.ends.now c.args.chain) c.args.units.now c.args.k) = c.backward.ensures.value ∙ c.requires.filled.backward c.args.k c.requires.within in
    let small : backward_sum (chain_ends c.args.ends.now c.args.chain) c.args.units.now c.args.k ≤ 2 ^ 60 = sum_small (exchanged (chain_ends c.args.ends.now c.args.chain)) c.args.units.now c.args.k (near_exchanged (chain_ends c.args.ends.now c.args.chain) (near_ends c.args.ends.now c.args.chain c.args.units.now c.requires.placed c.requires.chain)) c.requires.chain.few c.requires.within in
    let same = c.unsigned_abs.ensures.value ∙ natural_of c.backward.result (backward_sum (chain_ends c.args.ends.now c.args.chain) c.args.units.now c.args.k) is small in
    omega (arith, same, small)
