use Rattle.std.proofs.Common.{Err, subst, inl}
use Rattle.base_types.specs.declared.fault.Fault.{Fault}
use Rattle.desk_io.specs.Names.{Names}
use Rattle.desk_io.specs.Prefixes.{IsTooLarge, HasFailedToTake, HasRunOut}
use Rattle.desk_io.specs.declared.inputs.InputsFault.{InputsFault}
use Rattle.desk_io.specs.Inputs.{limit_of, HasTakenInputs, HasStoppedAt, HasStopped}
use Rattle.scan_job.specs.Faults.{size_fault}
use Rattle.scan_job.specs.Phases.{HasSaid}
use Rattle.scan_job.proofs.Phases.{in_limits, finished, input_failed, inputs_ran_out, found_large, said_ended}
use Rattle.scan_job.proofs.whole.run_named.Goals as goal

pub finish-requires-clause-limits : goal.finish-requires-clause-limits
finish-requires-clause-limits g c =
    let a = g.D.Desk.state c.args.desk.now in
    let b = g.D.Desk.state c.take_inputs.new.desk in
    let taken = subst (λ (names : Names). HasTakenInputs names 8 c.in-Ok.inputs a b) c.requires.named c.in-Ok.ensures.ok in
    in_limits (g.C.Command.request c.args.command.now) c.in-Ok.inputs a b taken

pub returns-in-Ok : goal.returns-in-Ok
returns-in-Ok g c =
    let request = g.C.Command.request c.args.command.now in
    let a = g.D.Desk.state c.args.desk.now in
    let b = g.D.Desk.state c.take_inputs.new.desk in
    let taken = subst (λ (names : Names). HasTakenInputs names 8 c.in-Ok.inputs a b) c.requires.named c.in-Ok.ensures.ok in
    record {
      ended = finished request c.in-Ok.inputs a b (g.D.Desk.state c.finish.new.desk) c.requires.unopened (g.met.C.Whole.whole c.args.command.now)
          (g.met.C.Whole.early c.args.command.now) taken c.finish.result c.finish.ensures.ended;
    }

pub returns-in-Err-TooLarge : goal.returns-in-Err-TooLarge
returns-in-Err-TooLarge g c =
    let request = g.C.Command.request c.args.command.now in
    let a = g.D.Desk.state c.args.desk.now in
    let b = g.D.Desk.state c.take_inputs.new.desk in
    let after = g.D.Desk.state c.refuse.new.desk in
    let slot = c.in-Err-TooLarge.slot in
    let stopped = subst (λ (names : Names). HasStoppedAt names slot a b (IsTooLarge (limit_of slot))) c.requires.named
    (subst (λ (fault : InputsFault). HasStopped c.args.names.now a b (Err fault)) c.in-Err-TooLarge.field-0-is c.in-Err-TooLarge.ensures.stopped) in
    let said = subst (λ (names : Names). HasSaid names (size_fault slot) b after c.refuse.result) c.requires.named
    (subst (λ (fault : Fault). HasSaid c.args.names.now fault b after c.refuse.result) c.size_fault.ensures.value c.refuse.ensures.ended) in
    record {
      ended = said_ended request (size_fault slot) a b after (g.met.C.Whole.early c.args.command.now (size_fault slot).kind)
          (found_large request slot a b c.requires.unopened (λ other lt. inl (g.met.C.Whole.whole c.args.command.now)) stopped) c.refuse.result said;
    }

pub returns-in-Err-Read : goal.returns-in-Err-Read
returns-in-Err-Read g c =
    let a = g.D.Desk.state c.args.desk.now in
    let b = g.D.Desk.state c.take_inputs.new.desk in
    let at = subst (λ (fault : InputsFault). HasStopped c.args.names.now a b (Err fault)) c.in-Err-Read.field-0-is c.in-Err-Read.ensures.stopped in
    let stopped = subst (λ (names : Names). HasStoppedAt names at.0 a b HasFailedToTake) c.requires.named at.1 in
    record { ended = input_failed (g.C.Command.request c.args.command.now) at.0 a b stopped }

pub returns-in-Err-NoMemory : goal.returns-in-Err-NoMemory
returns-in-Err-NoMemory g c =
    let a = g.D.Desk.state c.args.desk.now in
    let b = g.D.Desk.state c.take_inputs.new.desk in
    let at = subst (λ (fault : InputsFault). HasStopped c.args.names.now a b (Err fault)) c.in-Err-NoMemory.field-0-is c.in-Err-NoMemory.ensures.stopped in
    let stopped = subst (λ (names : Names). HasStoppedAt names at.0 a b HasRunOut) c.requires.named at.1 in
    record { ended = inputs_ran_out (g.C.Command.request c.args.command.now) at.0 a b stopped }
