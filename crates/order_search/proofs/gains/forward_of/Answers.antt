use Rattle.std.proofs.Common.{◌≡◌, ◌≤◌, ◌^◌, pos, ◌∙◌, arith}
use Rattle.wire_cost.specs.Lengths.{chain_ends, forward_sum}
use Rattle.order_search.proofs.Small.{natural_of, near_ends, sum_small}
use Rattle.order_search.proofs.gains.forward_of.Goals as goal

pub returns-clause-value : goal.returns-clause-value
returns-clause-value c =
    let is : c.forward.result ≡ pos (forward_sum (chain_ends c.args.ends.now c.args.chain) c.args.units.now c.args.k) = c.forward.ensures.value ∙ c.requires.filled.forward c.args.k c.requires.within in
    let small : forward_sum (chain_ends c.args.ends.now c.args.chain) c.args.units.now c.args.k ≤ 2 ^ 60 = sum_small (chain_ends c.args.ends.now c.args.chain) c.args.units.now c.args.k (near_ends c.args.ends.now c.args.chain c.args.units.now c.requires.placed c.requires.chain) c.requires.chain.few c.requires.within in
    c.unsigned_abs.ensures.value ∙ natural_of c.forward.result (forward_sum (chain_ends c.args.ends.now c.args.chain) c.args.units.now c.args.k) is small

pub returns-clause-small : goal.returns-clause-small
returns-clause-small c =
    let is : c.forward.result ≡ pos (forward_sum (chain_ends c.args.ends.now c.args.chain) c.args.units.now c.args.k) = c.forward.ensures.value ∙ c.requires.filled.forward c.args.k c.requires.within in
    let small : forward_sum (chain_ends c.args.ends.now c.args.chain) c.args.units.now c.args.k ≤ 2 ^ 60 = sum_small (chain_ends c.args.ends.now c.args.chain) c.args.units.now c.args.k (near_ends c.args.ends.now c.args.chain c.args.units.now c.requires.placed c.requires.chain) c.requires.chain.few c.requires.within in
    let same = c.unsigned_abs.ensures.value ∙ natural_of c.forward.result (forward_sum (chain_ends c.args.ends.now c.args.chain) c.args.units.now c.args.k) is small in
    omega (arith, same, small)
