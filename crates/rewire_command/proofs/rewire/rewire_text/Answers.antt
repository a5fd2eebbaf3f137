use Rattle.std.proofs.Common.{rules, ◌||◌, [], ◌∷◌, Err, refl, ap, ◌∙◌, inl}
use Rattle.std.proofs.lemmas.Result.{err_from_is_err_and}
use Rattle.base_types.proofs.FirstFaults.{fault_weaker}
use Rattle.netlist_core.specs.declared.netlist.Netlist.{Netlist}
use Rattle.verilog_reader.specs.Denoted.{DenotesNetlist}
use Rattle.cell_table.specs.Cells.{Cells}
use Rattle.chain_trace.specs.declared.path.Path.{Path}
use Rattle.chain_trace.specs.Paths.{is_driven}
use Rattle.chain_trace.proofs.Ranges.{port_within}
use Rattle.path_links.specs.Free.{is_free}
use Rattle.path_links.specs.Direct.{is_direct}
use Rattle.net_edit.specs.Wires.{names_of}
use Rattle.rewire_command.specs.declared.rewire.Rewired.{Rewired}
use Rattle.rewire_command.specs.Rewiring.{is_free_at_end, IsTraced}
use Rattle.rewire_command.specs.Faults.{IsRewireFault}
use Rattle.rewire_command.proofs.Firsts.{first_verilog, excluded}
use Rattle.rewire_command.proofs.Reorderings.{in_contains, ordered_names}
use Rattle.rewire_command.proofs.Rearrangings.{are_rearranged}
use Rattle.rewire_command.proofs.NewPaths.{has_path}
use Rattle.rewire_command.proofs.ErasedAlike.{changes_free, erased}
use Rattle.rewire_command.proofs.IsMade.{is_rewired}
use Rattle.rewire_command.proofs.rewire.rewire_text.Goals as goal

pub is_output_free-requires-clause-output : goal.is_output_free-requires-clause-output
is_output_free-requires-clause-output c =
    let traced = c.in_ok-path.ensures.path c.args.text.now c.in_ok-netlist.ensures.value in
    port_within c.in_ok-netlist.netlist is_driven c.in_ok-path.path.output c.in_ok-netlist.ensures.value.sound traced.output.port

pub ordered_path-requires : goal.ordered_path-requires
ordered_path-requires c =
    let n = c.in_ok-netlist.netlist in
    let path = c.in_ok-path.path in
    record { free = c.in_ok-output_free.ensures.value ∙ ap (λ (cells : Cells). is_free n path.output || is_direct n cells path) c.in_ok-table.ensures.value }

pub returns-in_err-path-clause-fault : goal.returns-in_err-path-clause-fault
returns-in_err-path-clause-fault c =
    let text = c.args.text.now in
    let w = c.args.rewire.now in
    let n = c.in_ok-netlist.netlist in
    let p = err_from_is_err_and c.from_residual-in_err-path.result c.from_residual-in_err-path.ensures.1 in
    rw (p.1, p.2)
    (fault_weaker {X = Path} (Err c.in_err-path.field-0.0) (λ fault. (text : _) → DenotesNetlist text n → IsRewireFault text w fault) (IsRewireFault text w) (λ fault is. is text c.in_ok-netlist.ensures.value)
    c.in_err-path.ensures.fault)

pub returns-in_err-new-clause-fault : goal.returns-in_err-new-clause-fault
returns-in_err-new-clause-fault c =
    let text = c.args.text.now in
    let w = c.args.rewire.now in
    let n = c.in_ok-netlist.netlist in
    let path = c.in_ok-path.path in
    let traced = c.in_ok-path.ensures.path text c.in_ok-netlist.ensures.value in
    let p = err_from_is_err_and c.from_residual-in_err-new.result c.from_residual-in_err-new.ensures.1 in
    rw (p.1, p.2)
    (fault_weaker {X = Path} (Err c.in_err-new.field-0.0) (λ fault. (text : _) → IsTraced text w n path → IsRewireFault text w fault) (IsRewireFault text w) (λ fault is. is text traced) c.in_err-new.ensures.fault)

pub verilog_text-requires-clause-edits : goal.verilog_text-requires-clause-edits
verilog_text-requires-clause-edits c =
    let traced = c.in_ok-path.ensures.path c.args.text.now c.in_ok-netlist.ensures.value in
    let rearranged =
    are_rearranged c.args.text.now c.args.rewire.now c.in_ok-netlist.netlist c.in_ok-path.path traced c.in_ok-new.ensures.instances c.in_ok-table.table c.in_ok-new.new c.requires.pins c.in_ok-new.ensures.last
    c.in_ok-table.ensures.value c.in_ok-new.ensures.value
    in
    record { old = c.in_ok-path.path ∷ []; new = c.in_ok-new.new ∷ []; are = c.in_ok-edits.ensures.value rearranged; rearranged = rearranged }

pub returns-clause-rewired : goal.returns-clause-rewired
returns-clause-rewired c =
    let traced = c.in_ok-path.ensures.path c.args.text.now c.in_ok-netlist.ensures.value in
    let rearranged =
    are_rearranged c.args.text.now c.args.rewire.now c.in_ok-netlist.netlist c.in_ok-path.path traced c.in_ok-new.ensures.instances c.in_ok-table.table c.in_ok-new.new c.requires.pins c.in_ok-new.ensures.last
    c.in_ok-table.ensures.value c.in_ok-new.ensures.value
    in
    is_rewired c.args.text.now c.args.rewire.now c.in_ok-netlist.netlist c.in_ok-path.path traced c.in_ok-edits.edits c.in_ok-verilog.verilog _ c.in_ok-table.table c.in_ok-new.new c.in_ok-table.ensures.value
    c.in_ok-new.ensures.value (c.in_ok-edits.ensures.value rearranged) c.in_ok-verilog.ensures.value (search rules)

pub returns-clause-erased : goal.returns-clause-erased
returns-clause-erased c =
    let text = c.args.text.now in
    let w = c.args.rewire.now in
    let n = c.in_ok-netlist.netlist in
    let path = c.in_ok-path.path in
    let new = c.in_ok-new.new in
    let cells = c.in_ok-table.table in
    let traced = c.in_ok-path.ensures.path text c.in_ok-netlist.ensures.value in
    let rearranged = are_rearranged text w n path traced c.in_ok-new.ensures.instances cells new c.requires.pins c.in_ok-new.ensures.last c.in_ok-table.ensures.value c.in_ok-new.ensures.value in
    let are = c.in_ok-edits.ensures.value rearranged in
    let named = c.in_ok-edits.ensures.names rearranged in
    erased text w n path traced (names_of c.in_ok-edits.edits) c.in_ok-verilog.verilog cells new c.in_ok-table.ensures.value c.in_ok-new.ensures.value rearranged named are.names
    (c.in_ok-verilog.ensures.denoted (path ∷ []) (new ∷ []) are rearranged named) (c.in_ok-verilog.ensures.declared (path ∷ []) (new ∷ []) are rearranged named)
    (c.in_ok-edits.ensures.erased (is_free_at_end n w path) rearranged (changes_free n w path cells new c.in_ok-table.ensures.value c.in_ok-new.ensures.value rearranged))

pub returns-clause-path : goal.returns-clause-path
returns-clause-path c =
    let text = c.args.text.now in
    let w = c.args.rewire.now in
    let n = c.in_ok-netlist.netlist in
    let path = c.in_ok-path.path in
    let new = c.in_ok-new.new in
    let cells = c.in_ok-table.table in
    let traced = c.in_ok-path.ensures.path text c.in_ok-netlist.ensures.value in
    let rearranged = are_rearranged text w n path traced c.in_ok-new.ensures.instances cells new c.requires.pins c.in_ok-new.ensures.last c.in_ok-table.ensures.value c.in_ok-new.ensures.value in
    let are = c.in_ok-edits.ensures.value rearranged in
    let named = c.in_ok-edits.ensures.names rearranged in
    let is = c.in_ok-edits.ensures.paths rearranged new (in_contains (new ∷ []) new (inl refl)) in
    has_path text w n path traced (names_of c.in_ok-edits.edits) c.in_ok-verilog.verilog cells new c.in_ok-table.ensures.value c.in_ok-new.ensures.value c.names_law.ensures.same
    (ordered_names text w n path traced c.in_ok-new.ensures.instances) (c.in_ok-verilog.ensures.denoted (path ∷ []) (new ∷ []) are rearranged named) (c.in_ok-edits.ensures.netlist rearranged) is.is

pub returns-clause-no_fault : goal.returns-clause-no_fault
returns-clause-no_fault c =
    excluded c.args.text.now c.args.rewire.now c.in_ok-netlist.netlist c.in_ok-path.path (c.in_ok-path.ensures.path c.args.text.now c.in_ok-netlist.ensures.value) c.in_ok-new.ensures.instances c.in_ok-new.ensures.last

pub returns-in_err-netlist-clause-fault : goal.returns-in_err-netlist-clause-fault
returns-in_err-netlist-clause-fault c =
    let p = err_from_is_err_and c.from_residual.result c.from_residual.ensures.1 in
    rw (p.1, p.2) (first_verilog c.args.text.now c.args.rewire.now Rewired Netlist c.in_err-netlist.field-0.0 c.in_err-netlist.ensures.fault)

pub returns-in_err-verilog-clause-fault : goal.returns-in_err-verilog-clause-fault
returns-in_err-verilog-clause-fault c =
    let p = err_from_is_err_and c.from_residual-in_err-verilog.result c.from_residual-in_err-verilog.ensures.1 in
    rw (p.1, p.2) tt
