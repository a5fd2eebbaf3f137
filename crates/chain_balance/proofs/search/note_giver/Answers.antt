use Rattle.chain_balance.proofs.Reaching.{givers_put}
use Rattle.chain_balance.proofs.search.note_giver.Goals as goal

pub returns-clause-are : goal.returns-clause-are
returns-clause-are c =
    givers_put c.args.rules.now c.args.plan.now c.args.groups.now c.args.numbers.now c.args.givers.now c.args.chain c.in-Some.giver c.requires.are c.requires.groups c.requires.chain c.in-Some.ensures.value.0 c.in-Some.ensures.value.1
