use Rattle.std.proofs.Common.{List, All, Contains, sym, ◌∙◌, take, subst}
use Rattle.std.proofs.lemmas.List.{take_all}
use Rattle.std.proofs.lemmas.List.Elements.{All-more, All-same}
use Rattle.std.proofs.lemmas.Bool.{iff_false}
use Rattle.chain_rules.specs.declared.spec.ListSpec.{ListSpec}
use Rattle.chain_rules.specs.Stretches.{path_at, StandsIn, elements_in}
use Rattle.chain_rules.specs.Runs.{stretch}
use Rattle.chain_rules.proofs.Outcomes.{says_no, says_yes}
use Rattle.chain_rules.proofs.Stretched.{All-flat_map, All-each}
use Rattle.chain_rules.proofs.stretch.all_stand_in.Goals as goal

pub returns-then-not-list_stands_in : goal.returns-then-not-list_stands_in
returns-then-not-list_stands_in c =
    let m : Contains c.args.chain.now.lists c.list-item.result =
    subst (λ (ls : List ListSpec). Contains ls c.list-item.result) c.as_slice-list-items.ensures.value (c.loop-list.list-index, c.loop-list-test.true, sym c.list-item.is) in
    record {
      value = says_no (λ all. iff_false c.list_stands_in.ensures.value c.if-not-list_stands_in.true
          (All-each (StandsIn (path_at c.args.index.now c.args.run.path) (stretch c.args.run)) elements_in c.args.chain.now.lists c.list-item.result m all));
    }

pub loop-list-preserved : goal.loop-list-preserved
loop-list-preserved c =
    All-more (λ list. All (StandsIn (path_at c.args.index.now c.args.run.path) (stretch c.args.run)) (elements_in list)) c.as_slice-list-items.result.now c.loop-list.list-index c.list-item.result c.loop-list-test.true c.loop-list.invariant
    (subst (λ (list : ListSpec). All (StandsIn (path_at c.args.index.now c.args.run.path) (stretch c.args.run)) (elements_in list)) c.list-item.is (c.list_stands_in.ensures.value.0 c.if-not-list_stands_in.false))

pub returns : goal.returns
returns c =
    record {
      value = says_yes (All-flat_map (StandsIn (path_at c.args.index.now c.args.run.path) (stretch c.args.run)) elements_in c.args.chain.now.lists
          (All-same (λ list. All (StandsIn (path_at c.args.index.now c.args.run.path) (stretch c.args.run)) (elements_in list)) c.args.chain.now.lists (take c.loop-list.list-index c.as_slice-list-items.result.now)
          (sym c.as_slice-list-items.ensures.value ∙ sym (take_all c.loop-list.list-index c.as_slice-list-items.result.now c.loop-list-test.false)) c.loop-list.invariant));
    }
