use Rattle.std.proofs.Common.{List, ◌∷◌, [], ◌++◌, take, sym, ap, ◌∙◌}
use Rattle.std.proofs.lemmas.List.{take_all}
use Rattle.chain_rules.specs.declared.spec.ChainSpec.{ChainSpec}
use Rattle.design_elements.specs.Elements.{specs_from}
use Rattle.design_elements.proofs.ChainSpecs.{specs_next}
use Rattle.design_elements.proofs.specs.chain_specs.Goals as goal

pub loop-c-preserved : goal.loop-c-preserved
loop-c-preserved c = λ d components chains.
    c.in_ok-push.ensures.items ∙ ap (λ (l : List ChainSpec). l ++ c.in_ok-chain_spec.field-0 ∷ []) (c.loop-c.invariant d components chains)
    ∙ ap (λ (s : ChainSpec). specs_from c.args.numbers.now c.args.cells.now.0 d 0 (take c.loop-c.c c.args.chains.now) ++ s ∷ []) (c.in_ok-chain_spec.ensures.value d components (chains ∙ sym c.in_ok-partitions.ensures.value))
    ∙ sym (specs_next c.args.numbers.now c.args.cells.now.0 d c.args.chains.now c.loop-c.c c.index-chains-c.result c.loop-c-test.true c.index-chains-c.is)

pub returns : goal.returns
returns c = record {
  value = λ d components chains.
      c.loop-c.invariant d components chains ∙ ap (specs_from c.args.numbers.now c.args.cells.now.0 d 0) (take_all c.loop-c.c c.args.chains.now c.loop-c-test.false ∙ sym chains);
}
