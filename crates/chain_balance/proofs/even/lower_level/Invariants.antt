use Rattle.std.specs.Prelude.{count_by, nat_eq}
use Rattle.chain_balance.specs.Gains.{IsWork}
use Rattle.chain_balance.proofs.even.lower_level.Given as goal

abbrev pub invariant-loop-work : goal.invariant-loop-work
invariant-loop-work l = IsWork l.rules l.fixed l.work l.most

abbrev pub decreases-loop-work : goal.decreases-loop-work
decreases-loop-work l = count_by (nat_eq l.most) l.work.paths.items
