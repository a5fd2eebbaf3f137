use Rattle.std.proofs.Common.{ℕ, ◌<◌}
use Rattle.chain_rules.specs.Legality.{chain_at, IsLegalChain}
use Rattle.chain_rules.proofs.plain.are_legal_chains.Given as goal

abbrev pub invariant-loop-chain : goal.invariant-loop-chain
invariant-loop-chain l = (c : ℕ) → c < l.chain → IsLegalChain l.rules c (chain_at l.plan c)
