use Rattle.std.proofs.Common.{arith}
use borrow.Author.Count.{below_more}
use Rattle.chain_rules.specs.Legality.{chain_at, IsLegalChain}
use Rattle.chain_rules.proofs.plain.are_legal_chains.Goals as goal

pub loop-chain-preserved : goal.loop-chain-preserved
loop-chain-preserved c =
    below_more (λ k. IsLegalChain c.args.rules.now k (chain_at c.args.plan.now k)) c.loop-chain.chain c.loop-chain.invariant (c.is_legal_chain.ensures.value.0 c.if-not-is_legal_chain.false)

pub is_legal_chain-requires-clause-own : goal.is_legal_chain-requires-clause-own
is_legal_chain-requires-clause-own c = c.requires.own c.loop-chain.chain (omega (arith, c.len-chain-end.ensures.value))
