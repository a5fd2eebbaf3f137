use Rattle.std.proofs.Common.{◌∙◌}
use Rattle.chain_rules.proofs.PlanParts.{lists_of_more}
use Rattle.chain_rules.proofs.plan.Plan.copy.Goals as goal

pub loop-chain-preserved : goal.loop-chain-preserved
loop-chain-preserved c =
    rw (c.in_ok-push.ensures).items (lists_of_more c.loop-chain.chains.items c.deref-chain-items.result.now c.loop-chain.chain-index c.chain-item.result c.in_ok-from_slice.field-0 c.loop-chain-test.true c.chain-item.is ((c.in_ok-from_slice.ensures).items ∙ c.as_slice.ensures.value) c.loop-chain.invariant)
