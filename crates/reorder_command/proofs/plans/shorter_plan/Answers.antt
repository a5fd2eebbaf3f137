use Rattle.std.proofs.Common.{sym, subst}
use Rattle.reorder_command.specs.Goals.{IsGoodPlan}
use Rattle.reorder_command.proofs.Searchable.{are_searchable}
use Rattle.reorder_command.proofs.plans.shorter_plan.Goals as goal

pub search_plan-requires : goal.search_plan-requires
search_plan-requires g c = record { searchable = are_searchable c.requires.checked.0 c.args.files.now c.requires.checked.1 }

pub returns-clause-good : goal.returns-clause-good
returns-clause-good g c =
    let e = c.in_ok-found.ensures in
    subst (IsGoodPlan c.args.effort c.args.files.now.rules c.args.files.now.ends) (sym c.replace.ensures.value)
    (record { legal = e.legal; settled = e.settled; members = e.members; no_longer = e.no_longer; no_longer_than_nearest = e.no_longer_than_nearest })
