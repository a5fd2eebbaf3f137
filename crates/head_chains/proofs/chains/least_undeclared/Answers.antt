use Rattle.head_chains.specs.Chains.{is_undeclared}
use Rattle.head_checks.proofs.Leasts.{fails_more, fails_none, fails_all}
use Rattle.head_chains.proofs.chains.least_undeclared.Goals as goal

pub loop-chain-init : goal.loop-chain-init
loop-chain-init c = fails_none (is_undeclared c.args.chains.now) (λ x. x.line)

pub loop-chain-preserved : goal.loop-chain-preserved
loop-chain-preserved c =
    rw c.lesser-least.ensures.value
    (rw c.line_if.ensures.value
    (rw c.is_undeclared.ensures.value
    (fails_more (is_undeclared c.args.chains.now) (λ x. x.line) c.args.rows.now c.loop-chain.chain-index c.chain-item.result c.loop-chain.least c.loop-chain-test.true c.chain-item.is c.loop-chain.invariant)))

pub returns : goal.returns
returns c = record { value = fails_all (is_undeclared c.args.chains.now) (λ x. x.line) c.args.rows.now c.loop-chain.chain-index c.loop-chain.least c.loop-chain-test.false c.loop-chain.invariant }
