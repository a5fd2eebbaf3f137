use Rattle.std.proofs.Common.{rules, of_calls, ap, sym, ◌∙◌, Some}
use Rattle.std.proofs.lemmas.Fn.{always_returns_same}
use Rattle.cell_table.specs.declared.table.Cell.{Cell}
use Rattle.cell_table.proofs.Found.{against, found, not_found}
use Rattle.cell_table.proofs.table.found_in.Goals as goal

pub returns-in-Ok : goal.returns-in-Ok
returns-in-Ok c =
    let same = c.in-Ok.ensures.position (against c.args.name.now) (always_returns_same _ _ _ (λ a r f k. search (rules, of_calls))) c.index-cells-at.result in
    record { value = ap (λ (cell : Cell). Some cell.paths) c.index-cells-at.is ∙ sym (found c.args.name.now c.args.cells.now c.in-Ok.at c.index-cells-at.result c.requires.in_order c.in-Ok.ensures.bound same) }

pub returns-in-Err : goal.returns-in-Err
returns-in-Err c = record { value = sym (not_found c.args.name.now c.args.cells.now c.in-Err.field-0 c.requires.in_order (c.in-Err.ensures.position (against c.args.name.now) (always_returns_same _ _ _ (λ a r f k. search (rules, of_calls))))) }
