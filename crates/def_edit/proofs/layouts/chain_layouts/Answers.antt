use Rattle.def_edit.proofs.Steps.{next_laid}
use Rattle.def_edit.proofs.layouts.chain_layouts.Goals as goal

pub loop-chain-preserved : goal.loop-chain-preserved
loop-chain-preserved c =
    next_laid c.args.chains.now c.loop-chain.chain-index c.chain-item.result c.loop-chain.layouts.items c.push.new.self.items c.in_ok-chain_layout.field-0 c.loop-chain-test.true c.chain-item.is c.loop-chain.invariant
    c.in_ok-chain_layout.ensures.value c.in_ok-push.ensures.items
