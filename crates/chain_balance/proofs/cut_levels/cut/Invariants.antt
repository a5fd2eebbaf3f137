use Rattle.std.proofs.Common.{◌≡◌, ◌≤◌}
use Rattle.chain_balance.specs.Balance.{longest}
use Rattle.chain_balance.specs.Gains.{IsWork}
use Rattle.chain_balance.proofs.cut_levels.cut.Given as goal

abbrev pub invariant-loop-cut : goal.invariant-loop-cut
invariant-loop-cut l = record {
  is : IsWork l.rules l.fixed l.work l.most;
  most : l.most ≡ longest l.rules l.fixed l.work.plan;
  no_longer : longest l.rules l.fixed l.work.plan ≤ longest l.rules l.fixed l.fn.work.plan;
}

abbrev pub decreases-loop-cut : goal.decreases-loop-cut
decreases-loop-cut l = l.most
