use Rattle.order_search.proofs.Legal.{legal_plan_at}
use Rattle.order_search.proofs.plain.length_of.Goals as goal

pub plan_length-requires-clause-plan : goal.plan_length-requires-clause-plan
plan_length-requires-clause-plan c = legal_plan_at c.args.rules.now c.args.ends.now c.args.plan.now c.requires.searchable c.requires.legal
