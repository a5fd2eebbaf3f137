use Rattle.std.proofs.Common.{arith}
use Rattle.std.proofs.lemmas.List.Sorted.{IsPermutation-trans}
use Rattle.plan_search.proofs.best.search_plan.Goals as goal

pub returns-clause-members : goal.returns-clause-members
returns-clause-members g c = λ o k h.
    let read = c.requires.searchable.read.chains in
    let a = c.in_ok-plan.ensures.members k h in
    let b = c.in_ok-shorten.ensures.members o k (omega (arith, h, read, c.in_ok-plan.ensures.legal.chains)) in
    let d = c.in_ok-settle.ensures.members o k (omega (arith, h, read, c.in_ok-shorten.ensures.legal.chains)) in
    IsPermutation-trans _ _ _ a (IsPermutation-trans _ _ _ b d)
