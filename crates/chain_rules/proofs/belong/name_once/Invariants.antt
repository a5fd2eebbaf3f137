use Rattle.std.proofs.Common.{ℕ, ◌<◌}
use Rattle.chain_rules.specs.Belonging.{IsElement, IsNamedOnceAt}
use Rattle.chain_rules.proofs.belong.name_once.Given as goal

abbrev pub invariant-loop-chain : goal.invariant-loop-chain
invariant-loop-chain l = (c i : ℕ) → c < l.chain → IsElement l.lists c i → IsNamedOnceAt l.index l.lists c i
