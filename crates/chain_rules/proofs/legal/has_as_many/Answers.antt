use Rattle.std.proofs.Common.{◌≡◌, ◌+◌, arith, length, ap}
use Rattle.chain_rules.specs.Legality.{chain_at}
use Rattle.chain_rules.proofs.Outcomes.{says_no}
use Rattle.chain_rules.proofs.Members.{length-concat_more, length-concat_take}
use Rattle.chain_rules.proofs.legal.has_as_many.Goals as goal

pub returns-then-left-more : goal.returns-then-left-more
returns-then-left-more c =
    let css = c.args.plan.now.chains in
    let i = c.loop-chain.chain in
    let more = length-concat_more css i (omega arith) in
    let within = length-concat_take css (i + 1) in
    let here : length c.chain-more.result.now ≡ length (chain_at c.args.plan.now i) = ap length c.chain-more.ensures.value in
    record { value = says_no (λ e. omega arith) }

pub loop-chain-preserved : goal.loop-chain-preserved
loop-chain-preserved c =
    let css = c.args.plan.now.chains in
    let i = c.loop-chain.chain in
    let more = length-concat_more css i (omega arith) in
    let here : length c.chain-more.result.now ≡ length (chain_at c.args.plan.now i) = ap length c.chain-more.ensures.value in
    omega arith
