use Rattle.std.proofs.Common.{List, Option, refl, sym, ap, ◌∙◌, subst}
use Rattle.base_types.specs.declared.fault.Fault.{Fault}
use Rattle.cell_table.specs.Cells.{Cells}
use Rattle.netlist_core.specs.declared.netlist.Netlist.{Netlist}
use Rattle.def_reader.specs.declared.design.Component.{Component}
use Rattle.design_elements.specs.Elements.{chain_specs}
use Rattle.design_elements.specs.Faults.{HoldsInElements}
use Rattle.design_elements.specs.FirstOf.{IsFirstIn}
use Rattle.design_elements.proofs.ElementFaults.{first_beside}
use Rattle.design_elements.proofs.elements.elements_of.Goals as goal

pub returns-in-Some-clause-fault : goal.returns-in-Some-clause-fault
returns-in-Some-clause-fault c =
    subst (λ (o : Option Fault). IsFirstIn (HoldsInElements c.args.table.now c.args.macros.now c.args.design.now) o) c.in-Some.is
    (first_beside c.of-cells.result c.args.table.now c.args.macros.now c.args.design.now c.args.design.now.components c.as_slice-chains.result.now c.in_ok-fault.field-0 c.of-cells.ensures.value refl
    c.as_slice-chains.ensures.value c.in_ok-fault.ensures.value)

pub returns-clause-no_fault : goal.returns-clause-no_fault
returns-clause-no_fault c =
    subst (λ (o : Option Fault). IsFirstIn (HoldsInElements c.args.table.now c.args.macros.now c.args.design.now) o) c.in_default.is
    (first_beside c.of-cells.result c.args.table.now c.args.macros.now c.args.design.now c.args.design.now.components c.as_slice-chains.result.now c.in_ok-fault.field-0 c.of-cells.ensures.value refl
    c.as_slice-chains.ensures.value c.in_ok-fault.ensures.value)

pub returns-clause-value : goal.returns-clause-value
returns-clause-value c =
    let d = c.args.design.now in
    let cells = c.of-cells.ensures.value in
    c.in_ok-chain_specs.ensures.value d (sym (ap (λ (p : Cells × List Component). p.1) cells)) (sym c.as_slice-chains.ensures.value)
    ∙ ap (λ (n : Netlist). chain_specs n c.of-cells.result.0 d) c.in_ok-numbers.ensures.value ∙ ap (λ (p : Cells × List Component). chain_specs c.args.netlist.now p.0 d) cells
