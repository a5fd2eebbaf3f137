use Rattle.std.proofs.Common.{◌≡◌, ◌+◌, List, ◌∷◌, [], ◌++◌, ap₂, sym, ◌∙◌, arith, ℕ}
use Rattle.std.proofs.lemmas.List.{get_or_default}
use Rattle.std.proofs.lemmas.List.FromFn.{map-range_with_len_more}
use Rattle.chain_rules.specs.declared.spec.ChainSpec.{ChainSpec}
use Rattle.chain_rules.specs.Legality.{chain_at}
use Rattle.chain_rules.specs.Stretches.{spec_at, no_chain}
use Rattle.chain_trace.specs.declared.path.Path.{Path}
use Rattle.def_edit.specs.declared.chains.NewChain.{NewChain}
use Rattle.def_writer.specs.PlanChains.{plan_chain}
use Rattle.def_writer.proofs.chains.plan_chains.Goals as goal

pub loop-number-preserved : goal.loop-number-preserved
loop-number-preserved c =
    let n = c.args.netlist.now in
    let cells = c.args.table.now in
    let chains = c.args.chains.now in
    let paths = c.args.paths.now in
    let rules = c.args.rules.now in
    let k = c.loop-number.number in
    let one = λ (number : ℕ). plan_chain n cells chains paths rules (spec_at chains number) (chain_at c.args.plan.now number) in
    let at : 0 + k ≡ k = omega arith in
    let here : c.index-chains-number.result ≡ spec_at chains k = c.index-chains-number.is ∙ get_or_default chains k c.index-chains-number.result no_chain c.loop-number-test.true in
    let new : c.in_ok-plan_chain.field-0 ≡ one k =
    c.in_ok-plan_chain.ensures.value
    ∙ ap₂ (λ (cs : List ChainSpec) (ps : List Path). plan_chain n cells cs ps rules c.index-chains-number.result c.units_of.result.now) c.in_ok-of.ensures.value c.in_ok-of-2.ensures.value
    ∙ ap₂ (λ (x : ChainSpec) (us : List ℕ). plan_chain n cells chains paths rules x us) here c.units_of.ensures.value in
    c.in_ok-push.ensures.items ∙ ap₂ (λ (xs : List NewChain) (x : NewChain). xs ++ x ∷ []) c.loop-number.invariant new ∙ sym (map-range_with_len_more one 0 k k at)
