use Rattle.std.proofs.Common.{◌-◌, arith, sym, subst}
use Rattle.stil_tester.specs.declared.chains.Chains.{Chains}
use Rattle.stil_tester.specs.Shifting.{AreChains}
use Rattle.retarget.specs.Judging.{IsAccepted}
use Rattle.fail_map.proofs.Carrying.{chain_small, index_small, compared_within}
use Rattle.fail_map.proofs.fail.map_line.Goals as goal

pub overflow_cast-line : goal.overflow_cast-line
overflow_cast-line c =
    let chains : Chains = c.new_chains-chains.result.now in
    let compared = c.is_compared.ensures.value.0 c.if-not-is_compared.false in
    let good : AreChains chains = subst AreChains (sym c.new_chains-chains.ensures.value) c.new_chains-chains.ensures.same.new_chains in
    omega (arith, chain_small chains (c.args.line.chain - 1) good compared.is_chain)

pub overflow_cast-line-2 : goal.overflow_cast-line-2
overflow_cast-line-2 c =
    let chains : Chains = c.new_chains-chains.result.now in
    let compared = c.is_compared.ensures.value.0 c.if-not-is_compared.false in
    let good : AreChains chains = subst AreChains (sym c.new_chains-chains.ensures.value) c.new_chains-chains.ensures.same.new_chains in
    let accepted : IsAccepted chains c.args.new.now = subst (λ (q : Chains). IsAccepted q c.args.new.now) (sym c.new_chains-chains.ensures.value) c.requires.new_accepted in
    omega (arith, index_small chains (c.args.line.chain - 1) c.args.line.index good compared.is_chain (compared_within chains c.args.new.now accepted (c.args.line.chain - 1) c.args.line.index compared))
