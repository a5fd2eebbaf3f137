use Rattle.std.proofs.Common.{ℕ, List, ap, insert, ◌∙◌, refl}
use Rattle.std.proofs.lemmas.Result.{err_from_is_err_and}
use Rattle.chain_rules.proofs.PlanParts.{planned-set, chain_read, with_chain-same}
use Rattle.chain_rules.proofs.plan.Plan.insert.Goals as goal

pub returns-in_err-insert-clause-unchanged : goal.returns-in_err-insert-clause-unchanged
returns-in_err-insert-clause-unchanged c =
    let there = chain_read c.self.inside.chains.items c.args.chain c.index_mut.result.now c.args.self.now c.self.view_is c.requires.within c.index_mut.ensures.value in
    let same = (c.in_err-insert.ensures).items ∙ there in
    let p = err_from_is_err_and c.from_residual.result c.from_residual.ensures.1 in
    rw p.1 (planned-set c.self.inside.chains.items c.args.chain c.insert.new.self c.args.self.now _ c.self.view_is same ∙ with_chain-same _ _ _ refl)

pub returns-clause-ok : goal.returns-clause-ok
returns-clause-ok c =
    let there = chain_read c.self.inside.chains.items c.args.chain c.index_mut.result.now c.args.self.now c.self.view_is c.requires.within c.index_mut.ensures.value in
    planned-set c.self.inside.chains.items c.args.chain c.insert.new.self c.args.self.now _ c.self.view_is ((c.in_ok-insert.ensures).items ∙ ap (λ (us : List ℕ). insert us c.args.place c.args.unit) there)
