use Rattle.std.proofs.Common.{◌≡◌}
use Rattle.chain_balance.specs.Balance.{most_below}
use Rattle.chain_balance.specs.Gains.{load_of}
use Rattle.chain_balance.proofs.work.greatest.Given as goal

abbrev pub invariant-loop-load : goal.invariant-loop-load
invariant-loop-load l = l.most ≡ most_below l.load-index (load_of l.loads)
