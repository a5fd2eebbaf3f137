use Rattle.std.proofs.Common.{take}
use Rattle.list_laws.specs.Leasts.{IsLeast}
use Rattle.head_chains.specs.Chains.{is_undeclared}
use Rattle.head_checks.specs.Heads.{FailsOn}
use Rattle.head_chains.proofs.chains.least_undeclared.Given as goal

abbrev pub invariant-loop-chain : goal.invariant-loop-chain
invariant-loop-chain l = IsLeast (FailsOn (is_undeclared l.chains) (λ c. c.line) (take l.chain-index l.rows)) l.least
