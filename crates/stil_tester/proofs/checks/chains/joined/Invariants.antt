use Rattle.std.proofs.Common.{◌≡◌, take}
use Rattle.stil_tester.specs.Shifting.{numbers_of}
use Rattle.stil_tester.proofs.checks.chains.joined.Given as goal

abbrev pub invariant-loop-chain : goal.invariant-loop-chain
invariant-loop-chain l = l.numbers.items ≡ numbers_of (take l.chain-index l.chains)
