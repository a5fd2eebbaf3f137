use Rattle.std.proofs.Common.{take}
use Rattle.std.specs.Prelude.{All}
use Rattle.stil_tester.specs.Shifting.{IsChain}
use Rattle.stil_tester.proofs.checks.chains.are_filled.Given as goal

abbrev pub invariant-loop-chain : goal.invariant-loop-chain
invariant-loop-chain l = All IsChain (take l.chain-index l.chains)
