use Rattle.std.proofs.Common.{List, All, sym, ◌∙◌, take, subst}
use Rattle.std.proofs.lemmas.List.{take_all}
use Rattle.std.proofs.lemmas.List.Elements.{All-get_or, All-more, All-same}
use Rattle.std.proofs.lemmas.Bool.{iff_false}
use Rattle.chain_rules.specs.declared.spec.ElementSpec.{ElementSpec}
use Rattle.chain_rules.specs.Stretches.{path_at, StandsIn, elements_in, no_element}
use Rattle.chain_rules.specs.Runs.{stretch}
use Rattle.chain_rules.proofs.Outcomes.{says_no, says_yes}
use Rattle.chain_rules.proofs.stretch.list_stands_in.Goals as goal

pub returns-then-not-stands_in : goal.returns-then-not-stands_in
returns-then-not-stands_in c =
    record {
      value = says_no (λ all. iff_false c.stands_in.ensures.value c.if-not-stands_in.true
          (All-get_or (StandsIn (path_at c.args.index.now c.args.run.path) (stretch c.args.run)) c.elements_of_list-element-items.result.now c.loop-element.element-index no_element c.loop-element-test.true
          (subst (λ (es : List ElementSpec). All (StandsIn (path_at c.args.index.now c.args.run.path) (stretch c.args.run)) es) (sym c.elements_of_list-element-items.ensures.value) all)));
    }

pub loop-element-preserved : goal.loop-element-preserved
loop-element-preserved c =
    All-more (StandsIn (path_at c.args.index.now c.args.run.path) (stretch c.args.run)) c.elements_of_list-element-items.result.now c.loop-element.element-index no_element c.loop-element-test.true c.loop-element.invariant
    (c.stands_in.ensures.value.0 c.if-not-stands_in.false)

pub returns : goal.returns
returns c =
    record {
      value = says_yes (All-same (StandsIn (path_at c.args.index.now c.args.run.path) (stretch c.args.run)) (elements_in c.args.list.now) (take c.loop-element.element-index c.elements_of_list-element-items.result.now)
          (sym c.elements_of_list-element-items.ensures.value ∙ sym (take_all c.loop-element.element-index c.elements_of_list-element-items.result.now c.loop-element-test.false)) c.loop-element.invariant);
    }
