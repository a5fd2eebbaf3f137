use Rattle.std.specs.Prelude.{count_by, nat_eq}
use Rattle.chain_balance.specs.Gains.{IsWork}
use Rattle.chain_balance.proofs.cut_levels.cut_level.Given as goal

abbrev pub invariant-loop-alloc : goal.invariant-loop-alloc
invariant-loop-alloc l = IsWork l.rules l.fixed l.work l.most

abbrev pub decreases-loop-alloc : goal.decreases-loop-alloc
decreases-loop-alloc l = count_by (nat_eq l.most) l.work.paths.items
