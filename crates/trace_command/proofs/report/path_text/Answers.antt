use Rattle.std.proofs.Common.{Err, sym, subst}
use Rattle.std.proofs.lemmas.Result.{err_from_is_err_and}
use Rattle.base_types.specs.declared.fault.Fault.{Fault}
use Rattle.base_types.specs.declared.name.Text.{Text}
use Rattle.base_types.specs.FirstFault.{IsFirstFault}
use Rattle.netlist_core.specs.declared.netlist.Netlist.{Netlist}
use Rattle.trace_command.specs.Reports.{HoldsInTrace}
use Rattle.trace_command.proofs.Faults.{first_table, first_verilog, first_port, first_output, excluded}
use Rattle.trace_command.proofs.report.path_text.Goals as goal

pub returns-in_err-table-clause-fault : goal.returns-in_err-table-clause-fault
returns-in_err-table-clause-fault c =
    let p = err_from_is_err_and c.from_residual.result c.from_residual.ensures.1 in
    rw (p.1, p.2) (first_table c.args.table.now c.args.verilog.now c.args.output.now Text c.in_err-table.field-0.0 c.in_err-table.ensures.fault)

pub returns-in_err-netlist-clause-fault : goal.returns-in_err-netlist-clause-fault
returns-in_err-netlist-clause-fault c =
    let p = err_from_is_err_and c.from_residual-in_err-netlist.result c.from_residual-in_err-netlist.ensures.1 in
    rw (p.1, p.2)
    (first_verilog c.args.table.now c.args.verilog.now c.args.output.now c.in_ok-table.table c.in_ok-table.ensures.value Text Netlist c.in_err-netlist.field-0.0 c.in_err-netlist.ensures.fault)

pub returns-in_default-clause-fault : goal.returns-in_default-clause-fault
returns-in_default-clause-fault c =
    subst (λ (f : Fault). IsFirstFault (HoldsInTrace c.args.table.now c.args.verilog.now c.args.output.now) f) (sym c.of_words.ensures.value)
    (first_port c.args.table.now c.args.verilog.now c.args.output.now c.in_ok-table.table c.in_ok-table.ensures.value c.in_ok-netlist.netlist c.in_ok-netlist.ensures.value c.in_default.ensures.value)

pub returns-in_err-path-clause-fault : goal.returns-in_err-path-clause-fault
returns-in_err-path-clause-fault c =
    let p = err_from_is_err_and c.from_residual-in_err-path.result c.from_residual-in_err-path.ensures.1 in
    rw (p.1, p.2)
    (first_output c.args.table.now c.args.verilog.now c.args.output.now c.in_ok-table.table c.in_ok-table.ensures.value c.in_ok-netlist.netlist c.in_ok-netlist.ensures.value c.in-Some.net c.in-Some.ensures.value
    {X = Text} (Err c.in_err-path.field-0.0) c.in_err-path.ensures.fault)

pub returns-clause-no_fault : goal.returns-clause-no_fault
returns-clause-no_fault c =
    excluded c.args.table.now c.args.verilog.now c.args.output.now c.in_ok-table.table c.in_ok-table.ensures.value c.in_ok-netlist.netlist c.in_ok-netlist.ensures.value c.in-Some.net c.in-Some.ensures.value
    c.in_ok-path.path c.in_ok-path.ensures.path
