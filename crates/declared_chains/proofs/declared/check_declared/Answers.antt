use Rattle.std.proofs.lemmas.Result.{err_from_is_err_and}
use Rattle.base_types.specs.FirstFault.{IsFirstFault}
use Rattle.head_checks.specs.Heads.{HoldsInHeads}
use Rattle.declared_chains.specs.Stages.{HoldsInDeclared}
use Rattle.declared_chains.proofs.Faults.{carried, first_heads, first_count, none_declared}
use Rattle.declared_chains.proofs.declared.check_declared.Goals as goal

pub returns-in_err-check_heads-clause-fault : goal.returns-in_err-check_heads-clause-fault
returns-in_err-check_heads-clause-fault c =
    let p = err_from_is_err_and c.from_residual.result c.from_residual.ensures.1 in
    let n = c.args.netlist.now in
    let cells = c.args.table.now in
    let paths = c.args.paths.now in
    let head = c.args.head.now in
    rw (p.1, p.2)
    (carried (Unit {0}) (Unit {0}) c.in_err-check_heads.field-0.0 (IsFirstFault (HoldsInHeads n cells paths head)) (IsFirstFault (HoldsInDeclared n cells paths head))
    (first_heads n cells paths head) c.in_err-check_heads.ensures.fault)

pub returns-in-Err-clause-fault : goal.returns-in-Err-clause-fault
returns-in-Err-clause-fault c =
    first_count c.args.netlist.now c.args.table.now c.args.paths.now c.args.head.now c.in_ok-check_heads.ensures.no_fault c.in-Err.fault c.in-Err.ensures.fault

pub returns-clause-no_fault : goal.returns-clause-no_fault
returns-clause-no_fault c = none_declared c.args.netlist.now c.args.table.now c.args.paths.now c.args.head.now c.in_ok-check_heads.ensures.no_fault c.in_default.ensures.few
