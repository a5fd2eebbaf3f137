use Rattle.std.proofs.Common.{◌≡◌, ◌<◌, ◌≤◌, ℕ, List, Option, Result, Err, subst, inr, arith}
use Rattle.base_types.specs.declared.fault.Fault.{Fault}
use Rattle.desk_io.specs.declared.slot.Slot.{Slot}
use Rattle.desk_io.specs.Number.{number}
use Rattle.desk_io.specs.Names.{Names}
use Rattle.desk_io.specs.Desk.{SlotState, AllUnopened}
use Rattle.desk_io.specs.Prefixes.{IsTooLarge, HasFailedToTake, HasRunOut}
use Rattle.desk_io.specs.declared.inputs.InputsFault.{InputsFault}
use Rattle.desk_io.specs.Inputs.{limit_of, HasTakenInputs, HasStoppedAt, HasStopped}
use Rattle.scan_job.specs.declared.commands.play.PlayRequest.{PlayRequest}
use Rattle.scan_job.specs.declared.stop.Stop.{Stop}
use Rattle.scan_job.specs.Requests.{Play, names_of}
use Rattle.scan_job.specs.Commands.Play.{first_names}
use Rattle.scan_job.specs.Faults.{size_fault}
use Rattle.scan_job.specs.TopCall.{Slots}
use Rattle.scan_job.specs.Ended.{HasEnded}
use Rattle.scan_job.specs.Phases.{HasSaid}
use Rattle.scan_job.proofs.Phases.{input_failed, inputs_ran_out, found_large, said_ended}
use Rattle.scan_job.proofs.PlayPhases.{first_low, before_stil, taken_first, stopped_first, small_netlist, play_finished}
use Rattle.scan_job.proofs.play.play_named.Goals as goal

taken_four : (names : Names) (r : PlayRequest) (texts : List (Option (List ℕ))) (a b : Slots) → names ≡ first_names r
    → HasTakenInputs names 8 texts a b → HasTakenInputs (names_of (Play r)) 4 texts a b
taken_four names r texts a b are taken =
    taken_first r 8 4 texts a b (omega arith) (omega arith) (inr (omega arith)) (subst (λ (n : Names). HasTakenInputs n 8 texts a b) are taken)

at_first : (names : Names) (r : PlayRequest) (slot : Slot) (a b : Slots) (did : SlotState → SlotState → Type 0) → names ≡ first_names r
    → HasStoppedAt names slot a b did → HasStoppedAt (first_names r) slot a b did
at_first names r slot a b did are stopped = subst (λ (n : Names). HasStoppedAt n slot a b did) are stopped

-- an input was too large, and its fault was said
large_ended : (r : PlayRequest) (slot : Slot) (a b after : Slots) → AllUnopened a
    → HasStoppedAt (first_names r) slot a b (IsTooLarge (limit_of slot)) → (ended : Result (Unit {0}) Stop) → HasSaid (names_of (Play r)) (size_fault slot) b after ended → HasEnded (Play r) a after ended
large_ended r slot a b after unopened stopped ended said =
    let low = first_low r slot stopped.input stopped.named in
    let whole : (other : Slot) → number other ≤ number slot → number other < 4 = λ other le. omega (arith, low, le) in
    said_ended (Play r) (size_fault slot) a b after (λ late. late)
    (found_large (Play r) slot a b unopened (λ other le. before_stil r other (whole other le)) (stopped_first r slot a b (IsTooLarge (limit_of slot)) stopped)) ended said

pub play_taken-requires-clause-small : goal.play_taken-requires-clause-small
play_taken-requires-clause-small g c =
    let r = c.args.play.now in
    let a = g.D.Desk.state c.args.desk.now in
    let b = g.D.Desk.state c.take_inputs.new.desk in
    small_netlist r c.in-Ok.inputs a b c.requires.unopened (taken_four c.args.first.now r c.in-Ok.inputs a b c.requires.first c.in-Ok.ensures.ok)

pub returns-in-Ok : goal.returns-in-Ok
returns-in-Ok g c =
    let r = c.args.play.now in
    let a = g.D.Desk.state c.args.desk.now in
    let b = g.D.Desk.state c.take_inputs.new.desk in
    let after = g.D.Desk.state c.play_taken.new.desk in
    let taken = taken_four c.args.first.now r c.in-Ok.inputs a b c.requires.first c.in-Ok.ensures.ok in
    record { ended = play_finished r c.in-Ok.inputs a b c.requires.unopened taken after c.play_taken.result c.play_taken.ensures.ended }

pub returns-in-Err-TooLarge : goal.returns-in-Err-TooLarge
returns-in-Err-TooLarge g c =
    let r = c.args.play.now in
    let a = g.D.Desk.state c.args.desk.now in
    let b = g.D.Desk.state c.take_inputs.new.desk in
    let after = g.D.Desk.state c.refuse.new.desk in
    let slot = c.in-Err-TooLarge.slot in
    let stopped = at_first c.args.first.now r slot a b (IsTooLarge (limit_of slot)) c.requires.first
    (subst (λ (fault : InputsFault). HasStopped c.args.first.now a b (Err fault)) c.in-Err-TooLarge.field-0-is c.in-Err-TooLarge.ensures.stopped) in
    let said = subst (λ (names : Names). HasSaid names (size_fault slot) b after c.refuse.result) c.requires.named
    (subst (λ (fault : Fault). HasSaid c.args.names.now fault b after c.refuse.result) c.size_fault.ensures.value c.refuse.ensures.ended) in
    record { ended = large_ended r slot a b after c.requires.unopened stopped c.refuse.result said }

pub returns-in-Err-Read : goal.returns-in-Err-Read
returns-in-Err-Read g c =
    let r = c.args.play.now in
    let a = g.D.Desk.state c.args.desk.now in
    let b = g.D.Desk.state c.take_inputs.new.desk in
    let at = subst (λ (fault : InputsFault). HasStopped c.args.first.now a b (Err fault)) c.in-Err-Read.field-0-is c.in-Err-Read.ensures.stopped in
    let stopped = stopped_first r at.0 a b HasFailedToTake (at_first c.args.first.now r at.0 a b HasFailedToTake c.requires.first at.1) in
    record { ended = input_failed (Play r) at.0 a b stopped }

pub returns-in-Err-NoMemory : goal.returns-in-Err-NoMemory
returns-in-Err-NoMemory g c =
    let r = c.args.play.now in
    let a = g.D.Desk.state c.args.desk.now in
    let b = g.D.Desk.state c.take_inputs.new.desk in
    let at = subst (λ (fault : InputsFault). HasStopped c.args.first.now a b (Err fault)) c.in-Err-NoMemory.field-0-is c.in-Err-NoMemory.ensures.stopped in
    let stopped = stopped_first r at.0 a b HasRunOut (at_first c.args.first.now r at.0 a b HasRunOut c.requires.first at.1) in
    record { ended = inputs_ran_out (Play r) at.0 a b stopped }
