use Rattle.std.proofs.Common.{◌≡◌, Err, ◌∙◌, rules}
use Rattle.desk_io.specs.declared.slot.Slot.TheVariants.{Stil, OutStil}
use Rattle.desk_io.specs.Desk.{opened}
use Rattle.desk_io.specs.Causes.{HasFailed}
use Rattle.scan_job.specs.declared.putting.PutStop.TheVariants as stops
use Rattle.scan_job.specs.PatternPhases.{progress_of}
use Rattle.scan_job.proofs.PutSteps.{not_opened, put_behind}
use Rattle.scan_job.proofs.patterns.put_stil.Goals as goal

pub returns-in_err-map_err-clause-put : goal.returns-in_err-map_err-clause-put
returns-in_err-map_err-clause-put g c =
    let a = g.D.Desk.state c.args.desk.now in
    let k = g.D.Desk.state c.open.new.self in
    let failed : HasFailed (a OutStil) (k OutStil) = search rules in
    let stopped : c.from_residual.result ≡ Err stops.Output = search rules in
    rw stopped (not_opened c.args.plan.head_text (progress_of c.args.plan) c.args.input a k c.open.ensures.elsewhere failed)

pub returns-clause-put : goal.returns-clause-put
returns-clause-put g c =
    let a = g.D.Desk.state c.args.desk.now in
    let k = g.D.Desk.state c.open.new.self in
    let opens : k OutStil ≡ opened (a OutStil) = search rules in
    rw (c.tell_warnings.ensures.slots Stil, c.tell_warnings.ensures.slots OutStil)
    (put_behind c.args.plan.head_text (progress_of c.args.plan) c.args.input a k c.open.ensures.elsewhere c.bytes.result.now c.new-retargeting.result (g.D.Desk.state c.put_patterns-put.new.desk) c.put_patterns-put.result
    c.bytes.ensures.value c.new-retargeting.ensures.value opens c.put_patterns-put.ensures.put)

pub returns-clause-elsewhere : goal.returns-clause-elsewhere
returns-clause-elsewhere g c slot ns other = c.tell_warnings.ensures.slots slot ∙ (c.put_patterns-put.ensures.elsewhere slot ns other ∙ c.open.ensures.elsewhere slot other)
