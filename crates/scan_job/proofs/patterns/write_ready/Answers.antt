use Rattle.std.proofs.Common.{Err, subst}
use Rattle.desk_io.specs.declared.slot.Slot.TheVariants.{Stil, OutStil}
use Rattle.desk_io.specs.Names.{Names}
use Rattle.stil_input.specs.declared.input.StilStop.{StilStop}
use Rattle.scan_job.specs.declared.putting.PutStop.{PutStop}
use Rattle.scan_job.specs.declared.putting.PutStop.TheVariants as stops
use Rattle.scan_job.specs.Phases.{HasSaid}
use Rattle.scan_job.specs.Retargeting.{HasPutOn}
use Rattle.scan_job.specs.PatternPhases.{progress_of, outputs_of, HasPutOthers}
use Rattle.scan_job.proofs.PutSteps.{others_put, fault_said}
use Rattle.scan_job.proofs.patterns.write_ready.Goals as goal

pub returns-in-Ok : goal.returns-in-Ok
returns-in-Ok g c =
    let a = g.D.Desk.state c.args.desk.now in
    let m = g.D.Desk.state c.put_stil.new.desk in
    let e = g.D.Desk.state c.close_both.new.desk in
    let f = g.D.Desk.state c.put_others.new.desk in
    let ready = c.args.ready in
    let patterns = c.in-Ok.patterns in
    let others = subst (λ (names : Names). HasPutOthers names (outputs_of ready.made patterns) e f c.put_others.result) c.requires.last c.put_others.ensures.put in
    record {
      written = others_put c.args.request.now ready a m e f c.in_ok-close_both-in-Ok.ensures.closed patterns (record { put = c.in-Ok.ensures.put; elsewhere = c.in-Ok.ensures.elsewhere }) c.put_others.result others;
    }

pub returns-in-Err-Input-Fault : goal.returns-in-Err-Input-Fault
returns-in-Err-Input-Fault g c =
    let a = g.D.Desk.state c.args.desk.now in
    let m = g.D.Desk.state c.put_stil.new.desk in
    let e = g.D.Desk.state c.close_both-in-Err-Input-Fault.new.desk in
    let f = g.D.Desk.state c.refuse.new.desk in
    let ready = c.args.ready in
    let fault = c.in-Err-Input-Fault.fault in
    let first = subst (λ (stop : PutStop). HasPutOn ready.plan.head_text (progress_of ready.plan) ready.input (a Stil) (m Stil) (a OutStil) (m OutStil) (Err stop)) c.in-Err-Input-Fault.field-0-is c.in-Err-Input-Fault.ensures.put in
    let put = subst (λ (stop : StilStop). HasPutOn ready.plan.head_text (progress_of ready.plan) ready.input (a Stil) (m Stil) (a OutStil) (m OutStil) (Err (stops.Input stop))) c.in-Err-Input-Fault.field-0-0-is first in
    let said = subst (λ (names : Names). HasSaid names fault e f c.refuse.result) c.requires.named c.refuse.ensures.ended in
    record {
      written = fault_said c.args.request.now ready a m e f c.in_ok-close_both-in-Err-Input-Fault.ensures.closed fault (record { put = put; elsewhere = c.in-Err-Input-Fault.ensures.elsewhere }) c.refuse.result said;
    }
