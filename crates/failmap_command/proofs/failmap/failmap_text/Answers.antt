use Rattle.std.proofs.Common.{ℕ, List, sym, ap, ◌∙◌, subst}
use Rattle.std.proofs.lemmas.Bool.{true≢false}
use Rattle.std.proofs.lemmas.Result.{err_from_is_err_and}
use Rattle.base_types.specs.declared.fault.Fault.{Fault}
use Rattle.base_types.specs.FirstFault.{IsFirstFault}
use Rattle.declared_chains.specs.Faults.{HoldsInPlay}
use Rattle.declared_chains.proofs.Faults.{carried}
use Rattle.same_files.specs.Sets.{ReadSet, meant_by}
use Rattle.same_files.specs.Same.{AreSameFiles}
use Rattle.same_files.proofs.OneSet.{file_set, means, one_set}
use Rattle.verify_command.specs.Faults.{IsNewFault}
use Rattle.verify_command.proofs.NewFaults.{first_of_first, first_of_second, none_in_both}
use Rattle.verify_command.proofs.SameSets.{files_of, sets_of}
use Rattle.fail_map.specs.declared.line.LogLine.{LogLine}
use Rattle.fail_map.specs.Logs.{HoldsInLog, log_text}
use Rattle.fail_map.specs.Mapped.{HoldsInLines, IsMappedLog}
use Rattle.failmap_command.specs.Faults.{HoldsInFailmap}
use Rattle.failmap_command.proofs.FailFaults.{first_sets, first_differ, first_log, first_lines, none_at_all}
use Rattle.failmap_command.proofs.failmap.failmap_text.Goals as goal

pub returns-in_err-old-clause-fault : goal.returns-in_err-old-clause-fault
returns-in_err-old-clause-fault c =
    let p = err_from_is_err_and c.from_residual.result c.from_residual.ensures.1 in
    let t = c.args.table.now in
    let v = c.args.verilog.now in
    let s = c.args.stil.now in
    let w = c.args.new_verilog.now in
    let n = c.args.new_stil.now in
    let l = c.args.log.now in
    rw (p.1, p.2)
    (carried ReadSet (List ℕ) c.in_err-old.field-0.0 (IsFirstFault (HoldsInPlay t v s)) (IsFirstFault (HoldsInFailmap t v s w n l)) (λ f h. first_sets t v s w n l f (first_of_first t v s w n f h)) c.in_err-old.ensures.fault)

pub returns-in_err-new-clause-fault : goal.returns-in_err-new-clause-fault
returns-in_err-new-clause-fault c =
    let p = err_from_is_err_and c.from_residual-in_err-new.result c.from_residual-in_err-new.ensures.1 in
    let t = c.args.table.now in
    let v = c.args.verilog.now in
    let s = c.args.stil.now in
    let w = c.args.new_verilog.now in
    let n = c.args.new_stil.now in
    let l = c.args.log.now in
    rw (p.1, p.2)
    (carried ReadSet (List ℕ) c.in_err-new.field-0.0 (IsNewFault (HoldsInPlay t w n)) (IsFirstFault (HoldsInFailmap t v s w n l))
    (λ f h. first_sets t v s w n l f (first_of_second t v s w n c.in_ok-old.ensures.no_fault f h)) c.in_err-new.ensures.fault)

pub returns-then-not-branch-clause-fault : goal.returns-then-not-branch-clause-fault
returns-then-not-branch-clause-fault c =
    let t = c.args.table.now in
    let v = c.args.verilog.now in
    let s = c.args.stil.now in
    let w = c.args.new_verilog.now in
    let n = c.args.new_stil.now in
    let l = c.args.log.now in
    let none = none_in_both t v s w n c.in_ok-old.ensures.no_fault c.in_ok-new.ensures.no_fault in
    let differ = λ (f : AreSameFiles t v s w n).
    true≢false (sym (c.in_ok-are_same_sets.ensures.value.1 (sets_of t v s c.in_ok-old.old c.in_ok-old.ensures.set w n c.in_ok-new.new c.in_ok-new.ensures.set f)) ∙ c.if-not-branch.true) in
    subst (IsFirstFault (HoldsInFailmap t v s w n l)) (sym c.at_line.ensures.value) (first_differ t v s w n l none differ)

pub returns-in_err-lines-clause-fault : goal.returns-in_err-lines-clause-fault
returns-in_err-lines-clause-fault c =
    let p = err_from_is_err_and c.from_residual-in_err-lines.result c.from_residual-in_err-lines.ensures.1 in
    let t = c.args.table.now in
    let v = c.args.verilog.now in
    let s = c.args.stil.now in
    let w = c.args.new_verilog.now in
    let n = c.args.new_stil.now in
    let l = c.args.log.now in
    let none = none_in_both t v s w n c.in_ok-old.ensures.no_fault c.in_ok-new.ensures.no_fault in
    let same = files_of t v s c.in_ok-old.old c.in_ok-old.ensures.set w n c.in_ok-new.new c.in_ok-new.ensures.set (c.in_ok-are_same_sets.ensures.value.0 c.if-not-branch.false) in
    rw (p.1, p.2)
    (carried (List LogLine) (List ℕ) c.in_err-lines.field-0.0 (IsFirstFault (HoldsInLog l)) (IsFirstFault (HoldsInFailmap t v s w n l)) (first_log t v s w n l none same) c.in_err-lines.ensures.fault)

pub returns-in_err-mapped-clause-fault : goal.returns-in_err-mapped-clause-fault
returns-in_err-mapped-clause-fault c =
    let p = err_from_is_err_and c.from_residual-in_err-mapped.result c.from_residual-in_err-mapped.ensures.1 in
    let t = c.args.table.now in
    let v = c.args.verilog.now in
    let s = c.args.stil.now in
    let w = c.args.new_verilog.now in
    let n = c.args.new_stil.now in
    let l = c.args.log.now in
    let none = none_in_both t v s w n c.in_ok-old.ensures.no_fault c.in_ok-new.ensures.no_fault in
    let same = files_of t v s c.in_ok-old.old c.in_ok-old.ensures.set w n c.in_ok-new.new c.in_ok-new.ensures.set (c.in_ok-are_same_sets.ensures.value.0 c.if-not-branch.false) in
    let new = file_set t w n c.in_ok-new.new c.in_ok-new.ensures.set in
    let again = means t w n c.in_ok-new.new c.in_ok-new.ensures.set in
    let only = one_set t w n c.in_ok-new.new c.in_ok-new.ensures.set in
    let lines = c.in_ok-lines.lines.items in
    let are = c.in_ok-lines.ensures.value in
    let first = λ (f : Fault) (h : IsFirstFault (HoldsInLines (meant_by c.in_ok-new.new n).played c.as_slice.result.now) f).
    first_lines t v s w n l none same c.in_ok-lines.ensures.no_fault new again only lines are f
    (subst (λ (xs : List LogLine). IsFirstFault (HoldsInLines (meant_by c.in_ok-new.new n).played xs) f) c.as_slice.ensures.value h) in
    rw (p.1, p.2)
    (carried (List LogLine) (List ℕ) c.in_err-mapped.field-0.0 (IsFirstFault (HoldsInLines (meant_by c.in_ok-new.new n).played c.as_slice.result.now)) (IsFirstFault (HoldsInFailmap t v s w n l)) first
    c.in_err-mapped.ensures.fault)

pub returns-clause-text : goal.returns-clause-text
returns-clause-text c =
    let t = c.args.table.now in
    let v = c.args.verilog.now in
    let s = c.args.stil.now in
    let w = c.args.new_verilog.now in
    let n = c.args.new_stil.now in
    let l = c.args.log.now in
    let same = files_of t v s c.in_ok-old.old c.in_ok-old.ensures.set w n c.in_ok-new.new c.in_ok-new.ensures.set (c.in_ok-are_same_sets.ensures.value.0 c.if-not-branch.false) in
    let old = c.in_ok-old.old in
    let new = c.in_ok-new.new in
    let text = c.in_ok-log_text.ensures.value ∙ ap log_text c.as_slice-2.ensures.value in
    record {
      alike = same;
      old = file_set t v s old c.in_ok-old.ensures.set;
      new = file_set t w n new c.in_ok-new.ensures.set;
      read = means t v s old c.in_ok-old.ensures.set;
      again = means t w n new c.in_ok-new.ensures.set;
      lines = c.in_ok-lines.lines.items;
      lines_are = c.in_ok-lines.ensures.value;
      mapped = c.in_ok-mapped.mapped.items;
      are = subst (λ (xs : List LogLine). IsMappedLog (meant_by old s).played (meant_by new n).played xs c.in_ok-mapped.mapped.items) c.as_slice.ensures.value c.in_ok-mapped.ensures.value;
      same = text;
    }

pub returns-clause-no_fault : goal.returns-clause-no_fault
returns-clause-no_fault c =
    let t = c.args.table.now in
    let v = c.args.verilog.now in
    let s = c.args.stil.now in
    let w = c.args.new_verilog.now in
    let n = c.args.new_stil.now in
    let l = c.args.log.now in
    let none = none_in_both t v s w n c.in_ok-old.ensures.no_fault c.in_ok-new.ensures.no_fault in
    let same = files_of t v s c.in_ok-old.old c.in_ok-old.ensures.set w n c.in_ok-new.new c.in_ok-new.ensures.set (c.in_ok-are_same_sets.ensures.value.0 c.if-not-branch.false) in
    let new = file_set t w n c.in_ok-new.new c.in_ok-new.ensures.set in
    let again = means t w n c.in_ok-new.new c.in_ok-new.ensures.set in
    let only = one_set t w n c.in_ok-new.new c.in_ok-new.ensures.set in
    let lines = c.in_ok-lines.lines.items in
    let are = c.in_ok-lines.ensures.value in
    let never = λ (f : Fault) (h : HoldsInLines (meant_by c.in_ok-new.new n).played lines f).
    c.in_ok-mapped.ensures.no_fault f (subst (λ (xs : List LogLine). HoldsInLines (meant_by c.in_ok-new.new n).played xs f) (sym c.as_slice.ensures.value) h) in
    none_at_all t v s w n l none same c.in_ok-lines.ensures.no_fault new again only lines are never
