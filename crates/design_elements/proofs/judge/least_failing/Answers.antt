use Rattle.std.proofs.Common.{List}
use Rattle.def_reader.specs.declared.design.ScanChainText.{ScanChainText}
use Rattle.design_elements.specs.Judging.{chain_fails}
use Rattle.design_elements.proofs.BadChains.{bad_next, bad_none, bad_all}
use Rattle.design_elements.proofs.judge.least_failing.Goals as goal

pub loop-chain-init : goal.loop-chain-init
loop-chain-init c = bad_none (λ (_ : List ScanChainText) chain. chain_fails c.args.judgement c.args.cells.now.0 c.args.macros.now c.args.cells.now.1 chain)

pub loop-chain-preserved : goal.loop-chain-preserved
loop-chain-preserved c =
    rw (c.lesser-least.ensures.value, c.line_if.ensures.value)
    (bad_next (λ (_ : List ScanChainText) chain. chain_fails c.args.judgement c.args.cells.now.0 c.args.macros.now c.args.cells.now.1 chain) c.args.chains.now c.loop-chain.chain-index c.chain-item.result c.loop-chain.least
    c.chain_fails-fails.result c.loop-chain-test.true c.chain-item.is c.chain_fails-fails.ensures.value c.loop-chain.invariant)

pub returns : goal.returns
returns c = record {
  value = bad_all (λ (_ : List ScanChainText) chain. chain_fails c.args.judgement c.args.cells.now.0 c.args.macros.now c.args.cells.now.1 chain) c.args.chains.now c.loop-chain.chain-index c.loop-chain.least c.loop-chain-test.false
      c.loop-chain.invariant;
}
