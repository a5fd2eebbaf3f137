use Rattle.std.proofs.Common.{arith, subst, sym, refl, take}
use Rattle.std.specs.Prelude.{All}
use Rattle.std.proofs.lemmas.List.{take_all}
use Rattle.std.proofs.lemmas.List.Elements.{All-more, All-same}
use Rattle.stil_tester.specs.declared.chains.ChainBits.{ChainBits}
use Rattle.stil_tester.specs.Shifting.{IsChain}
use Rattle.stil_tester.proofs.checks.chains.are_filled.Goals as goal

pub loop-chain-preserved : goal.loop-chain-preserved
loop-chain-preserved c =
    All-more IsChain c.args.chains.now c.loop-chain.chain-index c.chain-item.result (omega arith) c.loop-chain.invariant
    (subst (λ (chain : ChainBits). IsChain chain) c.chain-item.is (c.is_filled.ensures.0 c.if-not-is_filled.false))

pub returns : goal.returns
returns c = (λ _. All-same IsChain c.args.chains.now (take c.loop-chain.chain-index c.args.chains.now) (sym (take_all c.loop-chain.chain-index c.args.chains.now (omega arith))) c.loop-chain.invariant, λ _. refl)
