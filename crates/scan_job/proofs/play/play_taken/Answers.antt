use Rattle.std.proofs.Common.{◌≡◌, ℕ, List, Option, IfSome, Result, Err, subst, rules}
use Rattle.base_types.specs.declared.fault.Fault.{Fault}
use Rattle.desk_io.specs.declared.slot.Slot.TheVariants.{Table, Verilog, Stil}
use Rattle.desk_io.specs.Desk.{SameElsewhere, opened, closed}
use Rattle.desk_io.specs.Inputs.{input_at}
use Rattle.stil_input.specs.declared.input.StilStop.{StilStop}
use Rattle.stil_input.specs.declared.input.StilStop.TheVariants.{Fault as OfText}
use Rattle.desk_io.specs.Names.{Names}
use Rattle.scan_job.specs.declared.commands.play.PlayRequest.{PlayRequest}
use Rattle.scan_job.specs.Requests.{Play, names_of}
use Rattle.scan_job.specs.declared.stop.Stop.{Stop}
use Rattle.scan_job.specs.TopCall.{Slots}
use Rattle.scan_job.specs.Phases.{HasSaid}
use Rattle.scan_job.specs.Playing.{HasPlayed, IsPlayFault}
use Rattle.scan_job.specs.PlayPhases.{HasFinishedPlay}
use Rattle.scan_job.proofs.PlayPhases.{told_since, read_stil, said_finished}
use Rattle.scan_job.proofs.play.play_taken.Goals as goal

-- the STIL slot was opened, read up to a fault and closed, and then the fault was said
refused : (names : Names) (r : PlayRequest) (texts : List (Option (List ℕ))) (b c d e f : Slots) (table verilog : List ℕ) (fault : Fault)
    → names ≡ names_of (Play r) → table ≡ input_at texts Table → verilog ≡ input_at texts Verilog
    → SameElsewhere Stil b c → c Stil ≡ opened (b Stil)
    → SameElsewhere Stil c d → HasPlayed table verilog r.device (c Stil) (d Stil) (Err (OfText fault))
    → SameElsewhere Stil d e → e Stil ≡ closed (d Stil)
    → (ended : Result (Unit {0}) Stop) → HasSaid names fault e f ended → HasFinishedPlay r texts b f ended
refused names r texts b c d e f table verilog fault is table_is verilog_is first opens second played last closes ended said =
    said_finished r texts b e f (read_stil b c first opens d second played.0 e last closes) fault
    (told_since b c first opens (λ stil. IsPlayFault (input_at texts Table) (input_at texts Verilog) stil fault)
    (subst (λ (text : List ℕ). IfSome (c Stil).unread (λ stil. IsPlayFault text (input_at texts Verilog) stil fault)) table_is
    (subst (λ (text : List ℕ). IfSome (c Stil).unread (λ stil. IsPlayFault table text stil fault)) verilog_is played.1)))
    ended (subst (λ (n : Names). HasSaid n fault e f ended) is said)

pub returns-in_ok-close_stil-in-Err-Fault : goal.returns-in_ok-close_stil-in-Err-Fault
returns-in_ok-close_stil-in-Err-Fault g c =
    let b = g.D.Desk.state c.args.desk.now in
    let open_now = g.D.Desk.state c.open.new.self in
    let read = g.D.Desk.state c.play_stil.new.desk in
    let shut = g.D.Desk.state c.close_stil-in-Err-Fault.new.desk in
    let after = g.D.Desk.state c.refuse.new.desk in
    let table = c.text-table.result.now in
    let verilog = c.text-verilog.result.now in
    let opens : open_now Stil ≡ opened (b Stil) = search rules in
    let played = subst (λ (stop : StilStop). HasPlayed table verilog c.args.play.now.device (open_now Stil) (read Stil) (Err stop)) c.in-Err-Fault.field-0-is c.in-Err-Fault.ensures.played in
    let ended = c.in_ok-close_stil-in-Err-Fault.ensures in
    record {
      ended = refused c.args.names.now c.args.play.now c.args.inputs.now b open_now read shut after table verilog c.in-Err-Fault.fault
          c.requires.named c.text-table.ensures.value c.text-verilog.ensures.value c.open.ensures.elsewhere opens c.in-Err-Fault.ensures.elsewhere played
          ended.elsewhere ended.closed c.refuse.result c.refuse.ensures.ended;
    }
