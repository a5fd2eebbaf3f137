use Rattle.std.proofs.Common.{◌≡◌, take, map}
use Rattle.stil_calls.specs.Scans.{given}
use Rattle.stil_calls.specs.Given.{data_of}
use Rattle.stil_calls.proofs.scan.given_on.Given as goal

abbrev pub invariant-loop-chain : goal.invariant-loop-chain
invariant-loop-chain l = data_of l.each.items ≡ map (given l.side l.items) (take l.chain-index l.chains)
