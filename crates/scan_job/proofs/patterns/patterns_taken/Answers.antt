use Rattle.std.proofs.Common.{◌≡◌, Err, subst, rules}
use Rattle.desk_io.specs.declared.slot.Slot.TheVariants.{Stil}
use Rattle.desk_io.specs.Desk.{opened}
use Rattle.desk_io.specs.Names.{Names}
use Rattle.stil_input.specs.declared.input.StilStop.{StilStop}
use Rattle.scan_job.specs.Phases.{HasSaid}
use Rattle.scan_job.specs.Retargeting.{HasPlanned}
use Rattle.scan_job.specs.PatternPhases.{design_of}
use Rattle.scan_job.proofs.PlanTaken.{said_before}
use Rattle.scan_job.proofs.PatternSteps.{written_finished}
use Rattle.scan_job.proofs.patterns.patterns_taken.Goals as goal

pub returns-in-Ok : goal.returns-in-Ok
returns-in-Ok g c =
    let b = g.D.Desk.state c.args.desk.now in
    let k = g.D.Desk.state c.open.new.self in
    let d = g.D.Desk.state c.plan_taken.new.desk in
    let f = g.D.Desk.state c.write_ready.new.desk in
    let opens : k Stil ≡ opened (b Stil) = search rules in
    let (drawn, draws, behind, fits, is) = c.in-Ok.ensures.planned in
    record {
      ended = written_finished c.meaning_law.ensures.law c.figures_law.ensures.law c.args.request.now c.args.inputs.now c.in-Ok.ready b k d c.open.ensures.elsewhere opens c.in-Ok.ensures.elsewhere drawn is f
          c.write_ready.result c.write_ready.ensures.written;
    }

pub returns-in_ok-close_stil-in-Err-Fault : goal.returns-in_ok-close_stil-in-Err-Fault
returns-in_ok-close_stil-in-Err-Fault g c =
    let b = g.D.Desk.state c.args.desk.now in
    let k = g.D.Desk.state c.open.new.self in
    let d = g.D.Desk.state c.plan_taken.new.desk in
    let e = g.D.Desk.state c.close_stil.new.desk in
    let f = g.D.Desk.state c.refuse.new.desk in
    let r = c.args.request.now in
    let opens : k Stil ≡ opened (b Stil) = search rules in
    let (drawn, is) = subst (λ (stop : StilStop). HasPlanned r.design.goal (design_of c.args.inputs.now) (k Stil) (d Stil) (Err stop)) c.in-Err-Fault.field-0-is c.in-Err-Fault.ensures.planned in
    let shut = c.in_ok-close_stil-in-Err-Fault.ensures in
    let said = subst (λ (names : Names). HasSaid names c.in-Err-Fault.fault e f c.refuse.result) c.requires.named c.refuse.ensures.ended in
    record {
      ended = said_before r c.args.inputs.now b k d c.open.ensures.elsewhere opens c.in-Err-Fault.ensures.elsewhere drawn e shut.elsewhere shut.closed c.in-Err-Fault.fault is f c.refuse.result said;
    }
