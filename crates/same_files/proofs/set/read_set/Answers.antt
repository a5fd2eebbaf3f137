use Rattle.std.proofs.Common.{ℕ, List, ap, length, arith}
use Rattle.std.proofs.lemmas.List.{length-take-le}
use Rattle.std.proofs.lemmas.Result.{err_from_is_err_and}
use Rattle.base_types.specs.FirstFault.{IsFirstFault}
use Rattle.base_types.specs.declared.fault.Fault.{Fault}
use Rattle.stil_calls.specs.declared.judging.Judging.TheVariants.{Lengths}
use Rattle.stil_calls.specs.Statements.{IsFaultOf}
use Rattle.stil_reader.specs.Patterns.{patterns_told}
use Rattle.declared_chains.specs.declared.declared.Declared.{Declared}
use Rattle.declared_chains.specs.Faults.{HoldsBeforePatterns, HoldsInPlay}
use Rattle.declared_chains.proofs.Faults.{carried}
use Rattle.declared_chains.proofs.WholeFaults.{first_before}
use Rattle.same_files.specs.Sets.{ReadSet}
use Rattle.same_files.proofs.Sets.{shown, denotes, named, pattern_fault, no_fault, is_set}
use Rattle.same_files.proofs.set.read_set.Goals as goal

pub read_declared-requires-clause-small_head : goal.read_declared-requires-clause-small_head
read_declared-requires-clause-small_head c =
    let text = ap length c.split_at.ensures.front in
    let cut = length-take-le c.head_len.result c.args.stil.now c.head_len.ensures.within in
    omega (arith, text, cut, c.head_len.ensures.within, c.requires.small_stil)

pub read_names-requires-clause-denoted : goal.read_names-requires-clause-denoted
read_names-requires-clause-denoted c =
    let stil = c.args.stil.now in
    let text = c.split_at.result.0.now in
    denotes c.args.table.now c.args.verilog.now stil text (shown stil text c.head_len.result c.requires.small_stil c.head_len.ensures.value c.split_at.ensures.front) c.in_ok-declared.declared c.in_ok-declared.ensures.value

pub returns-in_err-declared-clause-fault : goal.returns-in_err-declared-clause-fault
returns-in_err-declared-clause-fault c =
    let p = err_from_is_err_and c.from_residual.result c.from_residual.ensures.1 in
    let t = c.args.table.now in
    let v = c.args.verilog.now in
    let stil = c.args.stil.now in
    let text = c.split_at.result.0.now in
    rw (p.1, p.2)
    (carried Declared ReadSet c.in_err-declared.field-0.0 (IsFirstFault (HoldsBeforePatterns t v text)) (IsFirstFault (HoldsInPlay t v stil))
    (first_before t v stil text (shown stil text c.head_len.result c.requires.small_stil c.head_len.ensures.value c.split_at.ensures.front)) c.in_err-declared.ensures.fault)

pub returns-in_err-names-clause-fault : goal.returns-in_err-names-clause-fault
returns-in_err-names-clause-fault c =
    let p = err_from_is_err_and c.from_residual-in_err-names.result c.from_residual-in_err-names.ensures.1 in
    let t = c.args.table.now in
    let v = c.args.verilog.now in
    let stil = c.args.stil.now in
    let text = c.split_at.result.0.now in
    let d = c.in_ok-declared.declared in
    rw (p.1, p.2)
    (carried (List (List ℕ)) ReadSet c.in_err-names.field-0.0 (λ fault. IsFaultOf (patterns_told Lengths d.head stil).fault fault) (IsFirstFault (HoldsInPlay t v stil))
    (pattern_fault t v stil text (shown stil text c.head_len.result c.requires.small_stil c.head_len.ensures.value c.split_at.ensures.front) d c.in_ok-declared.ensures.value c.in_ok-declared.ensures.no_fault)
    c.in_err-names.ensures.fault)

pub returns-clause-set : goal.returns-clause-set
returns-clause-set c =
    let stil = c.args.stil.now in
    let text = c.split_at.result.0.now in
    is_set c.args.table.now c.args.verilog.now stil text (shown stil text c.head_len.result c.requires.small_stil c.head_len.ensures.value c.split_at.ensures.front) c.in_ok-declared.declared
    c.in_ok-declared.ensures.value c.in_ok-declared.ensures.no_fault c.in_ok-names.names.items c.in_ok-names.ensures.value

pub returns-clause-no_fault : goal.returns-clause-no_fault
returns-clause-no_fault c =
    let stil = c.args.stil.now in
    let text = c.split_at.result.0.now in
    no_fault c.args.table.now c.args.verilog.now stil text (shown stil text c.head_len.result c.requires.small_stil c.head_len.ensures.value c.split_at.ensures.front) c.in_ok-declared.declared
    c.in_ok-declared.ensures.value c.in_ok-declared.ensures.no_fault c.in_ok-names.ensures.value.sound

pub invariant_of-result : goal.invariant_of-result
invariant_of-result c =
    let stil = c.args.stil.now in
    let text = c.split_at.result.0.now in
    named c.args.table.now c.args.verilog.now stil text (shown stil text c.head_len.result c.requires.small_stil c.head_len.ensures.value c.split_at.ensures.front) c.in_ok-declared.declared
    c.in_ok-declared.ensures.value
