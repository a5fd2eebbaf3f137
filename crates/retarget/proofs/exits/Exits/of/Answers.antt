use Rattle.std.proofs.Common.{◌≡◌, ◌<◌, ℕ, List, length, reverse, arith, get_or}
use Rattle.std.proofs.lemmas.List.{get_or_read}
use Rattle.stil_tester.specs.declared.chains.ChainBits.{ChainBits}
use Rattle.stil_tester.specs.Shifting.{no_bits}
use Rattle.retarget.specs.declared.side.Side.TheVariants.{Load, Compare}
use Rattle.retarget.specs.Exits.{chain_parities}
use Rattle.retarget.proofs.ExitOrder.{flat_more}
use Rattle.retarget.proofs.exits.Exits.of.Goals as goal

pub loop-chain-preserved : goal.loop-chain-preserved
loop-chain-preserved c =
    let chains : List ChainBits = c.args.chains.now in
    let n : ℕ = c.loop-chain.chain-index in
    let chain : ChainBits = c.chain-item.result in
    let within : n < length chains = omega arith in
    let at : chain ≡ get_or chains n no_bits = get_or_read chains n chain within c.chain-item.is no_bits in
    record {
      cells = flat_more (λ (b : ChainBits). reverse b.cells) chains n c.loop-chain.exits.cells c.push_chain.new.self.cells chain within at c.in_ok-push_chain.ensures.cells c.loop-chain.invariant.cells;
      loads = flat_more (chain_parities Load) chains n c.loop-chain.exits.loads c.push_chain.new.self.loads chain within at c.in_ok-push_chain.ensures.loads c.loop-chain.invariant.loads;
      compares = flat_more (chain_parities Compare) chains n c.loop-chain.exits.compares c.push_chain.new.self.compares chain within at c.in_ok-push_chain.ensures.compares c.loop-chain.invariant.compares;
    }
