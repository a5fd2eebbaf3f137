use Rattle.std.proofs.Common.{◌≡◌, take}
use Rattle.stil_tester.specs.Symbols.{parity_of}
use Rattle.retarget.proofs.exits.sum_of.Given as goal

abbrev pub invariant-loop-parity : goal.invariant-loop-parity
invariant-loop-parity l = l.sum ≡ parity_of (take l.parity-index l.parities)
