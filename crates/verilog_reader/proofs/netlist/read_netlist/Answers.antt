use Rattle.std.proofs.Common.{rules, ℕ, List, Err, subst}
use Rattle.std.proofs.lemmas.Result.{err_from_is_err_and}
use Rattle.base_types.specs.FirstFault.{Answers}
use Rattle.verilog_syntax.specs.declared.reading.Placed.{Placed}
use Rattle.netlist_core.specs.declared.netlist.Netlist.{Netlist}
use Rattle.verilog_names.specs.declared.declared.First.{First}
use Rattle.verilog_checks.specs.Checks.{IsRefused, check_number, check_twice, check_select}
use Rattle.verilog_checks.proofs.Faultless.{faultless}
use Rattle.verilog_checks.proofs.VerilogFaults.{form_stage, number_stage, twice_stage, select_stage, no_fault}
use Rattle.verilog_reader.proofs.netlist.read_netlist.Goals as goal

pub returns-clause-value : goal.returns-clause-value
returns-clause-value c = record {
  statements = c.in_ok-statements.statements;
  reads = faultless c.args.bytes.now c.in_ok-statements.statements c.in_ok-statements.ensures.value (search rules) (search rules) (search rules);
  is = c.in_ok-netlist_of.ensures.value;
  sound = c.in_ok-netlist_of.ensures.netlist;
}

pub returns-clause-no_fault : goal.returns-clause-no_fault
returns-clause-no_fault c =
    let ps = c.in_ok-statements.statements in
    no_fault c.args.bytes.now ps (faultless c.args.bytes.now ps c.in_ok-statements.ensures.value (search rules) (search rules) (search rules))

pub returns-in_err-statements-clause-fault : goal.returns-in_err-statements-clause-fault
returns-in_err-statements-clause-fault c =
    let p = err_from_is_err_and c.from_residual.result c.from_residual.ensures.1 in
    rw (p.1, p.2) (form_stage Netlist c.args.bytes.now c.in_err-statements.field-0.0 c.in_err-statements.ensures.value)

pub returns-in_err-check_number-clause-fault : goal.returns-in_err-check_number-clause-fault
returns-in_err-check_number-clause-fault c =
    let p = err_from_is_err_and c.from_residual-in_err-check_number.result c.from_residual-in_err-check_number.ensures.1 in
    rw (p.1, p.2) (number_stage Netlist c.args.bytes.now c.in_ok-statements.statements c.in_ok-statements.ensures.value c.in_err-check_number.field-0.0
    (subst (λ (ps : List Placed). Answers {X = Unit {0}} (Err c.in_err-check_number.field-0.0) (check_number ps)) c.as_slice.ensures.value c.in_err-check_number.ensures.value))

pub returns-in_err-names-clause-fault : goal.returns-in_err-names-clause-fault
returns-in_err-names-clause-fault c =
    let p = err_from_is_err_and c.from_residual-in_err-names.result c.from_residual-in_err-names.ensures.1 in
    rw (p.1, p.2)
    (twice_stage Netlist (List (List ℕ × First)) c.args.bytes.now c.in_ok-statements.statements c.in_ok-statements.ensures.value (search rules) c.in_err-names.field-0.0
    (subst (λ (ps : List Placed). IsRefused {X = List (List ℕ × First)} (Err c.in_err-names.field-0.0) (check_twice ps)) c.as_slice-2.ensures.value c.in_err-names.ensures.refused))

pub returns-in_err-check_select-clause-fault : goal.returns-in_err-check_select-clause-fault
returns-in_err-check_select-clause-fault c =
    let p = err_from_is_err_and c.from_residual-in_err-check_select.result c.from_residual-in_err-check_select.ensures.1 in
    rw (p.1, p.2)
    (select_stage Netlist c.args.bytes.now c.in_ok-statements.statements c.in_ok-statements.ensures.value (search rules) (search rules) c.in_err-check_select.field-0.0
    (subst (λ (ps : List Placed). Answers {X = Unit {0}} (Err c.in_err-check_select.field-0.0) (check_select ps)) c.as_slice-3.ensures.value c.in_err-check_select.ensures.value))
