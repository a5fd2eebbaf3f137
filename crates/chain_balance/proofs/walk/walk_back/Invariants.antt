use Rattle.std.proofs.Common.{◌≡◌, ◌+◌, ◌≤◌, get_or}
use Rattle.std.specs.Prelude.{count_by, nat_eq}
use Rattle.chain_balance.specs.Gains.{IsWork}
use Rattle.chain_balance.specs.Steps.{entry_at, AreReached}
use Rattle.chain_balance.proofs.walk.walk_back.Given as goal

abbrev pub invariant-loop-at : goal.invariant-loop-at
invariant-loop-at l = record {
  is : IsWork l.rules l.fixed l.work l.most;
  reached : AreReached l.rules l.work.plan l.entries l.at;
  hole : get_or l.work.paths.items (entry_at l.entries l.at).path 0 + 2 ≤ l.most;
  top : get_or l.work.paths.items (entry_at l.entries 0).path 0 ≡ l.most;
  no_more : count_by (nat_eq l.most) l.work.paths.items ≤ count_by (nat_eq l.most) l.fn.work.paths.items;
}

abbrev pub decreases-loop-at : goal.decreases-loop-at
decreases-loop-at l = l.at
