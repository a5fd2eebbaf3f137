use Rattle.std.proofs.Common.{List, subst, sym, take, arith}
use Rattle.std.proofs.lemmas.List.{take_more, length-take-le}
use Rattle.chain_rules.specs.Legality.{no_rule}
use Rattle.chain_rules.specs.declared.unit.ChainRule.{ChainRule}
use Rattle.plan_paths.specs.Owners.{AreOwners}
use Rattle.plan_paths.proofs.owners.owners_of.Goals as goal

pub loop-chain-preserved : goal.loop-chain-preserved
loop-chain-preserved c =
    let i = c.loop-chain.chain in
    let lt = c.loop-chain-test.true in
    subst (λ (rules : List ChainRule). AreOwners c.args.paths.now rules c.mark_chain.new.rows.items) (sym (take_more c.args.chains.now i no_rule lt))
    (c.mark_chain.ensures.value c.args.paths.now (take i c.args.chains.now) (length-take-le i c.args.chains.now (omega (arith, lt))) c.loop-chain.invariant)
