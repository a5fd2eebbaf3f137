use Rattle.std.proofs.Common.{ℕ, List, ap, remove, ◌∙◌}
use Rattle.chain_rules.proofs.PlanParts.{planned-set, chain_read}
use Rattle.chain_rules.proofs.plan.Plan.remove.Goals as goal

pub returns-clause-plan : goal.returns-clause-plan
returns-clause-plan c =
    let there = chain_read c.self.inside.chains.items c.args.chain c.index_mut.result.now c.args.self.now c.self.view_is c.requires.within c.index_mut.ensures.value in
    planned-set c.self.inside.chains.items c.args.chain c.remove.new.self c.args.self.now _ c.self.view_is (c.remove.ensures.items ∙ ap (λ (us : List ℕ). remove us c.args.place) there)
