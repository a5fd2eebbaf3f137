use Rattle.std.proofs.Common.{arith, length, ap}
use Rattle.std.proofs.lemmas.Bool.{iff_false}
use Rattle.chain_rules.proofs.Outcomes.{says_no, says_yes}
use Rattle.chain_rules.proofs.Owned.{units_below}
use Rattle.chain_rules.proofs.owners.are_own.Goals as goal

pub returns-then-not-are_own_from : goal.returns-then-not-are_own_from
returns-then-not-are_own_from c = record { value = says_no (λ all. iff_false c.are_own_from.ensures.value c.if-not-are_own_from.true (λ d h k z l a b. all d h k z l)) }

pub returns : goal.returns
returns c =
    let units = ap length c.as_slice.ensures.value in
    record { value = says_yes (λ d h k z l. c.loop-window.invariant d h k z l (omega (arith, units, units_below (length c.args.rules.now.units) c.args.plan.now.chains c.requires.once d h k z l))) }
