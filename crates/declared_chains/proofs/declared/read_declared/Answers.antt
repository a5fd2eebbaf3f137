use Rattle.std.proofs.Common.{List, map, sym, ap, subst, ◌∙◌}
use Rattle.std.specs.Prelude.{Some, None}
use Rattle.std.proofs.lemmas.Result.{err_from_is_err_and}
use Rattle.base_types.specs.declared.fault.Fault.{Fault}
use Rattle.base_types.specs.declared.fault.FileKind.TheVariants.{Stil}
use Rattle.base_types.specs.FirstFault.{IsFirstFault}
use Rattle.netlist_core.specs.declared.netlist.Netlist.{Netlist}
use Rattle.cell_table.specs.Cells.{Cells}
use Rattle.cell_table.specs.Entries.{HoldsInTable}
use Rattle.verilog_checks.specs.Faults.{HoldsInVerilog}
use Rattle.chain_trace.specs.declared.path.Path.{Path}
use Rattle.stil_types.specs.declared.head.StilHead.{StilHead}
use Rattle.stil_head.specs.Faults.{HoldsInHead}
use Rattle.path_chains.specs.Numbered.{bits_along}
use Rattle.path_chains.specs.Ranked.{ranked_chains}
use Rattle.head_checks.specs.Asked.{asked_by_head}
use Rattle.traced_paths.specs.Traced.{HoldsInPaths}
use Rattle.declared_chains.specs.declared.declared.Declared.{Declared}
use Rattle.declared_chains.specs.Files.{AreTraced}
use Rattle.declared_chains.specs.Faults.{HoldsBeforePatterns}
use Rattle.declared_chains.specs.Stages.{HoldsInDeclared, OfHeads}
use Rattle.declared_chains.proofs.Faults.{carried, first_table, first_verilog, first_head, first_paths, first_declared, none_before}
use Rattle.declared_chains.proofs.Chains.{declared}
use Rattle.declared_chains.proofs.declared.read_declared.Goals as goal

pub returns-in_err-table-clause-fault : goal.returns-in_err-table-clause-fault
returns-in_err-table-clause-fault c =
    let p = err_from_is_err_and c.from_residual.result c.from_residual.ensures.1 in
    let t = c.args.table.now in
    let v = c.args.verilog.now in
    let h = c.args.head.now in
    rw (p.1, p.2) (carried Cells Declared c.in_err-table.field-0.0 (IsFirstFault (HoldsInTable t)) (IsFirstFault (HoldsBeforePatterns t v h)) (first_table t v h) c.in_err-table.ensures.fault)

pub returns-in_err-netlist-clause-fault : goal.returns-in_err-netlist-clause-fault
returns-in_err-netlist-clause-fault c =
    let p = err_from_is_err_and c.from_residual-in_err-netlist.result c.from_residual-in_err-netlist.ensures.1 in
    let t = c.args.table.now in
    let v = c.args.verilog.now in
    let h = c.args.head.now in
    rw (p.1, p.2)
    (carried Netlist Declared c.in_err-netlist.field-0.0 (IsFirstFault (HoldsInVerilog v)) (IsFirstFault (HoldsBeforePatterns t v h))
    (first_verilog t v h c.in_ok-table.table c.in_ok-table.ensures.value)
    c.in_err-netlist.ensures.fault)

pub returns-in_err-head-clause-fault : goal.returns-in_err-head-clause-fault
returns-in_err-head-clause-fault c =
    let p = err_from_is_err_and c.from_residual-in_err-head.result c.from_residual-in_err-head.ensures.1 in
    let t = c.args.table.now in
    let v = c.args.verilog.now in
    let h = c.args.head.now in
    rw (p.1, p.2)
    (carried StilHead Declared c.in_err-head.field-0.0 (IsFirstFault (HoldsInHead h)) (IsFirstFault (HoldsBeforePatterns t v h))
    (first_head t v h c.in_ok-table.table c.in_ok-table.ensures.value c.in_ok-netlist.netlist c.in_ok-netlist.ensures.value) c.in_err-head.ensures.first)

pub returns-in_err-paths-clause-fault : goal.returns-in_err-paths-clause-fault
returns-in_err-paths-clause-fault c =
    let p = err_from_is_err_and c.from_residual-in_err-paths.result c.from_residual-in_err-paths.ensures.1 in
    let t = c.args.table.now in
    let v = c.args.verilog.now in
    let h = c.args.head.now in
    let n = c.in_ok-netlist.netlist in
    let cells = c.in_ok-table.table in
    let head = c.in_ok-head.head in
    rw (p.1, p.2)
    (carried (List Path) Declared c.in_err-paths.field-0.0 (IsFirstFault (HoldsInPaths n cells Stil (asked_by_head head))) (IsFirstFault (HoldsBeforePatterns t v h))
    (first_paths t v h cells c.in_ok-table.ensures.value n c.in_ok-netlist.ensures.value head c.in_ok-head.ensures.value c.in_ok-head.ensures.only c.in_ok-head.ensures.no_fault)
    c.in_err-paths.ensures.fault)

pub returns-in_err-check_declared-clause-fault : goal.returns-in_err-check_declared-clause-fault
returns-in_err-check_declared-clause-fault c =
    let p = err_from_is_err_and c.from_residual-in_err-check_declared.result c.from_residual-in_err-check_declared.ensures.1 in
    let t = c.args.table.now in
    let v = c.args.verilog.now in
    let h = c.args.head.now in
    let n = c.in_ok-netlist.netlist in
    let cells = c.in_ok-table.table in
    let head = c.in_ok-head.head in
    rw (p.1, p.2)
    (carried (Unit {0}) Declared c.in_err-check_declared.field-0.0 (IsFirstFault (HoldsInDeclared n cells c.as_slice-listed.result.now head)) (IsFirstFault (HoldsBeforePatterns t v h))
    (subst (λ (ps : List Path). (f : Fault) → IsFirstFault (HoldsInDeclared n cells ps head) f → IsFirstFault (HoldsBeforePatterns t v h) f) (sym c.as_slice-listed.ensures.value)
    (first_declared t v h cells c.in_ok-table.ensures.value n c.in_ok-netlist.ensures.value head
    c.in_ok-head.ensures.value c.in_ok-head.ensures.only c.in_ok-head.ensures.no_fault c.in_ok-paths.paths.items
    c.in_ok-paths.ensures.paths c.in_ok-paths.ensures.only c.in_ok-paths.ensures.no_fault)) c.in_err-check_declared.ensures.fault)

pub returns-clause-value : goal.returns-clause-value
returns-clause-value c =
    let t = c.args.table.now in
    let v = c.args.verilog.now in
    let h = c.args.head.now in
    let n = c.in_ok-netlist.netlist in
    let cells = c.in_ok-table.table in
    let head = c.in_ok-head.head in
    let paths = c.in_ok-paths.paths.items in
    let same = c.as_slice-listed.ensures.value in
    let traced : AreTraced t v h cells n head paths = record {
      read = record { cells_are = c.in_ok-table.ensures.value; netlist_is = c.in_ok-netlist.ensures.value; head_is = c.in_ok-head.ensures.value };
      paths_are = c.in_ok-paths.ensures.paths;
    } in
    let none : (f : Fault) → HoldsInDeclared n cells paths head f → ⊥ = subst (λ (ps : List Path). (f : Fault) → HoldsInDeclared n cells ps head f → ⊥) same c.in_ok-check_declared.ensures.no_fault in
    declared t v h cells paths (record { head = head; netlist = n; bits = c.in_ok-bits.bits; chains = c.in_ok-chains.chains }) traced c.in_ok-paths.ensures.entries (λ f w. none f (OfHeads w))
    (c.in_ok-bits.ensures.value ∙ ap (map (bits_along n cells)) same) (c.in_ok-chains.ensures.value ∙ ap (ranked_chains n) c.as_slice.ensures.value)

pub returns-clause-no_fault : goal.returns-clause-no_fault
returns-clause-no_fault c =
    let n = c.in_ok-netlist.netlist in
    let cells = c.in_ok-table.table in
    let head = c.in_ok-head.head in
    let none : (f : Fault) → HoldsInDeclared n cells c.in_ok-paths.paths.items head f → ⊥ =
    subst (λ (ps : List Path). (f : Fault) → HoldsInDeclared n cells ps head f → ⊥) c.as_slice-listed.ensures.value c.in_ok-check_declared.ensures.no_fault in
    none_before c.args.table.now c.args.verilog.now c.args.head.now cells c.in_ok-table.ensures.value n c.in_ok-netlist.ensures.value head
    c.in_ok-head.ensures.value c.in_ok-head.ensures.only c.in_ok-head.ensures.no_fault c.in_ok-paths.paths.items
    c.in_ok-paths.ensures.paths c.in_ok-paths.ensures.only c.in_ok-paths.ensures.no_fault none
