use Rattle.std.proofs.Common.{◌≡◌, Some, Err, refl, subst}
use Rattle.std.proofs.lemmas.Result.{err_from_is_err_and}
use Rattle.base_types.specs.declared.fault.Fault.{Fault}
use Rattle.base_types.specs.FirstFault.{IfFault}
use Rattle.desk_io.specs.declared.slot.Slot.TheVariants.{Stil}
use Rattle.design_files.specs.Files.{Texts, texts_with, with_head}
use Rattle.design_files.specs.Faults.{HoldsInFiles, IsFilesFault}
use Rattle.reorder_command.specs.declared.reorder.Reordered.{Reordered}
use Rattle.reorder_command.specs.PatternPlans.{IsReorderedWith}
use Rattle.scan_job.specs.PatternPhases.{design_of}
use Rattle.scan_job.proofs.Played.{any_head}
use Rattle.scan_job.proofs.PlanTaken.{some_planned, plan_stopped, plan_refused, plan_ready}
use Rattle.scan_job.proofs.patterns.plan_taken.Goals as goal

pub returns-in_err-head-clause-planned : goal.returns-in_err-head-clause-planned
returns-in_err-head-clause-planned g c =
    let p = err_from_is_err_and c.from_residual-in_err-head.result c.from_residual-in_err-head.ensures.1 in
    rw (p.1, p.2)
    (plan_stopped c.args.request.now.design.goal (design_of c.args.inputs.now) c.in_ok-input.input c.next_head.new.self (g.D.Desk.state c.args.desk.now Stil) (g.D.Desk.state c.next_head.new.desk Stil)
    c.in_ok-input.ensures.value c.in_err-head.field-0.0 c.in_err-head.ensures.gives)

pub returns-in_err-reordered-clause-planned : goal.returns-in_err-reordered-clause-planned
returns-in_err-reordered-clause-planned g c =
    let p = err_from_is_err_and c.from_residual-in_err-reordered.result c.from_residual-in_err-reordered.ensures.1 in
    let same : texts_with c.text.result.now c.text-2.result.now c.text-3.result.now c.text-4.result.now (Some c.bytes.result.now) ≡ with_head (design_of c.args.inputs.now) c.in_ok-head.head
    = rw (c.text.ensures.value, c.text-2.ensures.value, c.text-3.ensures.value, c.text-4.ensures.value, c.bytes.ensures.value) refl in
    let read = c.in_err-reordered.field-0.0 in
    let first = subst (λ (t : Texts). IfFault {X = Reordered} (Err read) (IsFilesFault t)) same c.in_err-reordered.ensures.fault in
    rw (p.1, p.2)
    (plan_refused c.args.request.now.design.goal (design_of c.args.inputs.now) c.in_ok-input.input c.next_head.new.self (g.D.Desk.state c.args.desk.now Stil) (g.D.Desk.state c.next_head.new.desk Stil)
    c.in_ok-input.ensures.value c.in_ok-head.head c.in_ok-head.ensures.gives.1 read first)

pub ready_of-requires : goal.ready_of-requires
ready_of-requires g c =
    let r = c.in_ok-reordered.ensures.reordered.reordered.made in
    record { planned = some_planned c.bytes.result.now r.netlist r.cells r.paths _ r.head c.in_ok-reordered.reordered.patterns c.in_ok-reordered.ensures.reordered.planned }

pub returns-in_err-ready_of-clause-planned : goal.returns-in_err-ready_of-clause-planned
returns-in_err-ready_of-clause-planned g c =
    let p = err_from_is_err_and c.from_residual-in_err-ready_of.result c.from_residual-in_err-ready_of.ensures.1 in
    rw (p.1, p.2) (c.in_ok-head.ensures.gives.1 any_head).drawn

pub returns-clause-planned : goal.returns-clause-planned
returns-clause-planned g c =
    let goal = c.args.request.now.design.goal in
    let same : texts_with c.text.result.now c.text-2.result.now c.text-3.result.now c.text-4.result.now (Some c.bytes.result.now) ≡ with_head (design_of c.args.inputs.now) c.in_ok-head.head
    = rw (c.text.ensures.value, c.text-2.ensures.value, c.text-3.ensures.value, c.text-4.ensures.value, c.bytes.ensures.value) refl in
    let made = c.in_ok-reordered.reordered in
    let ready = c.in_ok-ready_of.ensures.ready in
    let reordered = subst (λ (t : Texts). IsReorderedWith goal t made.verilog made.def made.figures made.patterns) same c.in_ok-reordered.ensures.reordered in
    let none = subst (λ (t : Texts). (fault : Fault) → HoldsInFiles t fault → ⊥) same c.in_ok-reordered.ensures.no_fault in
    plan_ready goal (design_of c.args.inputs.now) c.in_ok-input.input c.next_head.new.self (g.D.Desk.state c.args.desk.now Stil) (g.D.Desk.state c.next_head.new.desk Stil)
    c.in_ok-input.ensures.value c.in_ok-head.head c.in_ok-head.ensures.gives.1 made c.in_ok-ready_of.field-0 ready reordered none
