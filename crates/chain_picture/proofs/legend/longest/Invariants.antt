use Rattle.std.proofs.Common.{◌≡◌, drop}
use Rattle.std.specs.Prelude.{max}
use Rattle.chain_picture.specs.Pictures.{longest}
use Rattle.chain_picture.proofs.legend.longest.Given as goal

abbrev pub invariant-loop-chain : goal.invariant-loop-chain
invariant-loop-chain l = max l.most (longest (drop l.chain-index l.chains)) ≡ longest l.chains
