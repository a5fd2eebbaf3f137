use Rattle.std.proofs.Common.{◌≡◌, ◌≤◌}
use Rattle.chain_balance.specs.Balance.{longest}
use Rattle.chain_balance.specs.Gains.{IsWork}
use Rattle.chain_balance.proofs.even.lower.Given as goal

abbrev pub invariant-loop-most : goal.invariant-loop-most
invariant-loop-most l = record {
  is : IsWork l.rules l.fixed l.work l.most;
  most : l.most ≡ longest l.rules l.fixed l.work.plan;
  no_longer : longest l.rules l.fixed l.work.plan ≤ longest l.rules l.fixed l.fn.work.plan;
}

abbrev pub decreases-loop-most : goal.decreases-loop-most
decreases-loop-most l = l.most
