use Rattle.std.proofs.Common.{List, ℕ, ◌++◌, sym, subst}
use Rattle.std.specs.List.{filter_map}
use Rattle.std.proofs.lemmas.List.{append-nil, take_all}
use Rattle.def_reader.specs.declared.design.Element.{Element}
use Rattle.design_elements.specs.Seen.{IsSeenElements, row_of}
use Rattle.design_elements.proofs.ElementRows.{rows_next}
use Rattle.design_elements.proofs.twice.SeenElements.add_list.Goals as goal

pub loop-element-init : goal.loop-element-init
loop-element-init c = λ rows h. subst (λ (l : List ((List ℕ × ℕ) × ℕ)). IsSeenElements c.args.self.now l) (sym (append-nil rows)) h

pub loop-element-preserved : goal.loop-element-preserved
loop-element-preserved c = λ rows h.
    subst (λ (l : List ((List ℕ × ℕ) × ℕ)). IsSeenElements c.add_element.new.self l)
    (rows_next rows (row_of c.args.cells.now.0 c.args.cells.now.1 c.args.line) c.args.elements.now c.loop-element.element-index c.element-item.result c.loop-element-test.true c.element-item.is)
    (c.in_ok-add_element.ensures.value _ (c.loop-element.invariant rows h))

pub returns : goal.returns
returns c = record {
  value = λ rows h.
      subst (λ (l : List Element). IsSeenElements c.loop-element.self (rows ++ filter_map (row_of c.args.cells.now.0 c.args.cells.now.1 c.args.line) l)) (take_all c.loop-element.element-index c.args.elements.now c.loop-element-test.false)
      (c.loop-element.invariant rows h);
}
