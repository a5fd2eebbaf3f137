use Rattle.std.proofs.Common.{ℕ, List}
use Rattle.std.proofs.lemmas.Result.{err_from_is_err_and}
use Rattle.base_types.specs.FirstFault.{IsFirstFault}
use Rattle.declared_chains.specs.Faults.{HoldsInPlay}
use Rattle.declared_chains.proofs.Faults.{carried}
use Rattle.same_files.specs.Sets.{ReadSet}
use Rattle.verify_command.specs.Faults.{HoldsInVerify, IsNewFault}
use Rattle.verify_command.proofs.NewFaults.{first_of_first, first_of_second, none_in_both}
use Rattle.verify_command.proofs.Worth.{text_is, text_worth}
use Rattle.verify_command.proofs.verify.verify_text.Goals as goal

pub returns-in_err-old-clause-fault : goal.returns-in_err-old-clause-fault
returns-in_err-old-clause-fault c =
    let p = err_from_is_err_and c.from_residual.result c.from_residual.ensures.1 in
    let t = c.args.table.now in
    let v = c.args.verilog.now in
    let s = c.args.stil.now in
    let w = c.args.new_verilog.now in
    let n = c.args.new_stil.now in
    rw (p.1, p.2) (carried ReadSet (List ℕ) c.in_err-old.field-0.0 (IsFirstFault (HoldsInPlay t v s)) (IsFirstFault (HoldsInVerify t v s w n)) (first_of_first t v s w n) c.in_err-old.ensures.fault)

pub returns-in_err-new-clause-fault : goal.returns-in_err-new-clause-fault
returns-in_err-new-clause-fault c =
    let p = err_from_is_err_and c.from_residual-in_err-new.result c.from_residual-in_err-new.ensures.1 in
    let t = c.args.table.now in
    let v = c.args.verilog.now in
    let s = c.args.stil.now in
    let w = c.args.new_verilog.now in
    let n = c.args.new_stil.now in
    rw (p.1, p.2)
    (carried ReadSet (List ℕ) c.in_err-new.field-0.0 (IsNewFault (HoldsInPlay t w n)) (IsFirstFault (HoldsInVerify t v s w n)) (first_of_second t v s w n c.in_ok-old.ensures.no_fault) c.in_err-new.ensures.fault)

pub returns-clause-text : goal.returns-clause-text
returns-clause-text c =
    text_is c.args.table.now c.args.verilog.now c.args.stil.now c.in_ok-old.old c.in_ok-old.ensures.set c.args.new_verilog.now c.args.new_stil.now c.in_ok-new.new c.in_ok-new.ensures.set
    c.in_ok-compared.field-0 c.in_ok-compared.ensures.value

pub returns-clause-same : goal.returns-clause-same
returns-clause-same c =
    text_worth c.args.table.now c.args.verilog.now c.args.stil.now c.in_ok-old.old c.in_ok-old.ensures.set c.args.new_verilog.now c.args.new_stil.now c.in_ok-new.new c.in_ok-new.ensures.set
    c.in_ok-compared.field-0 c.in_ok-compared.ensures.value

pub returns-clause-no_fault : goal.returns-clause-no_fault
returns-clause-no_fault c =
    none_in_both c.args.table.now c.args.verilog.now c.args.stil.now c.args.new_verilog.now c.args.new_stil.now c.in_ok-old.ensures.no_fault c.in_ok-new.ensures.no_fault
