use Rattle.std.proofs.Common.{ap, arith}
use Rattle.chain_balance.specs.Balance.{longest}
use Rattle.chain_balance.proofs.Levels.{work_begins}
use Rattle.chain_balance.proofs.Answered.{some_weaker}
use Rattle.chain_balance.proofs.balance_plan.balance.Goals as goal

pub balance_work-requires-clause-is : goal.balance_work-requires-clause-is
balance_work-requires-clause-is c = work_begins c.args.rules.now c.args.fixed.now c.args.plan.now c.in_ok-work.work c.in_ok-work.ensures.plan c.requires.legal c.in_ok-work.ensures.loads c.in_ok-work.ensures.held

pub returns-clause-no_longer : goal.returns-clause-no_longer
returns-clause-no_longer c = omega (arith, c.in_ok-cut.ensures.no_longer, ap (longest c.args.rules.now c.args.fixed.now) c.in_ok-work.ensures.plan)

pub returns-clause-cut : goal.returns-clause-cut
returns-clause-cut c = some_weaker c.in_ok-cut.cut _ _ (λ set h. h.cut) c.in_ok-cut.ensures.cut

pub returns-clause-reached : goal.returns-clause-reached
returns-clause-reached c = some_weaker c.in_ok-cut.cut _ _ (λ set h. h.reached) c.in_ok-cut.ensures.cut
