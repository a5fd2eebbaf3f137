use Rattle.std.proofs.Common.{take}
use Rattle.list_laws.specs.Leasts.{IsLeast}
use Rattle.design_elements.specs.Judging.{chain_fails, IsBadChain}
use Rattle.design_elements.proofs.judge.least_failing.Given as goal

abbrev pub invariant-loop-chain : goal.invariant-loop-chain
invariant-loop-chain l = IsLeast (IsBadChain (λ _ chain. chain_fails l.judgement l.cells.0 l.macros l.cells.1 chain) (take l.chain-index l.chains)) l.least
