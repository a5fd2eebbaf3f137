use Rattle.chain_rules.proofs.PlanParts.{planned-set}
use Rattle.std.proofs.Common.{ap}
use Rattle.chain_rules.proofs.plan.Plan.exchange.Goals as goal

pub returns-clause-plan : goal.returns-clause-plan
returns-clause-plan c = planned-set c.self.inside.chains.items c.args.chain c.swap.new.x c.args.self.now c.args.units.now.items c.self.view_is (ap (λ v. v.items) c.swap.ensures.x_after)
