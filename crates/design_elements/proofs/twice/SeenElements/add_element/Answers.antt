use Rattle.std.proofs.Common.{List, ℕ, [], ◌++◌, Option, sym, subst}
use Rattle.std.specs.Prelude.{OnOk}
use Rattle.std.specs.List.{cons_option}
use Rattle.design_elements.specs.Judging.{pins_at}
use Rattle.design_elements.specs.Seen.{IsSeenElements}
use Rattle.design_elements.proofs.ElementRows.{element_row}
use Rattle.design_elements.proofs.twice.SeenElements.add_element.Goals as goal

pub returns-in-Some : goal.returns-in-Some
returns-in-Some c =
    let row =
    element_row c.args.cells.now.0 c.args.cells.now.1 (pins_at c.pins_of.result) c.args.line c.args.element.now c.bytes.result.now c.in-Some.path c.pins_of.ensures.value c.bytes.ensures.value
    c.in-Some.ensures.value in
    record {
      value = subst (λ (o : Option ((List ℕ × ℕ) × ℕ)). OnOk c.add.result ((rows : List ((List ℕ × ℕ) × ℕ)) → IsSeenElements c.args.self.now rows → IsSeenElements c.add.new.self (rows ++ cons_option o []))) (sym row)
          c.add.ensures.value;
    }
