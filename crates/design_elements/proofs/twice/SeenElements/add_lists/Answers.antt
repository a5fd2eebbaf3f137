use Rattle.std.proofs.Common.{List, ℕ, ◌++◌, take, sym, ap, ◌∙◌, subst}
use Rattle.std.specs.List.{filter_map, flat_map}
use Rattle.std.proofs.lemmas.List.{append-nil, take_all}
use Rattle.def_reader.specs.declared.design.Element.{Element}
use Rattle.def_reader.specs.declared.design.ElementList.{ElementList}
use Rattle.def_reader.specs.Sound.{elements_in}
use Rattle.design_elements.specs.Seen.{IsSeenElements, row_of}
use Rattle.design_elements.proofs.ElementRows.{lists_next}
use Rattle.design_elements.proofs.twice.SeenElements.add_lists.Goals as goal

pub loop-list-init : goal.loop-list-init
loop-list-init c = λ rows h. subst (λ (l : List ((List ℕ × ℕ) × ℕ)). IsSeenElements c.args.self.now l) (sym (append-nil rows)) h

pub loop-list-preserved : goal.loop-list-preserved
loop-list-preserved c = λ rows h.
    let f = row_of c.args.cells.now.0 c.args.cells.now.1 c.args.line in
    let before = rows ++ filter_map f (flat_map elements_in (take c.loop-list.list-index c.args.lists.now)) in
    subst (λ (l : List ((List ℕ × ℕ) × ℕ)). IsSeenElements c.add_list.new.self l)
    (ap (λ (l : List Element). before ++ filter_map f l) c.elements_in.ensures.value
    ∙ lists_next rows f c.args.lists.now c.loop-list.list-index c.list-item.result c.loop-list-test.true c.list-item.is)
    (c.in_ok-add_list.ensures.value _ (c.loop-list.invariant rows h))

pub returns : goal.returns
returns c = record {
  value = λ rows h.
      subst (λ (l : List ElementList). IsSeenElements c.loop-list.self (rows ++ filter_map (row_of c.args.cells.now.0 c.args.cells.now.1 c.args.line) (flat_map elements_in l))) (take_all c.loop-list.list-index c.args.lists.now c.loop-list-test.false)
      (c.loop-list.invariant rows h);
}
