-- What the phases of `play` leave at the slots, from where the STIL slot is opened.
use Rattle.std.specs.Prelude.{◌≡◌, ◌⊎◌, ℕ, List, Option, IfSome, Result, Ok, Err}
use Rattle.base_types.specs.declared.fault.Fault.{Fault}
use Rattle.desk_io.specs.declared.slot.Slot.TheVariants.{Table, Verilog, Stil}
use Rattle.desk_io.specs.Desk.{SameElsewhere, IsClosed}
use Rattle.desk_io.specs.Causes.{HasRisen}
use Rattle.desk_io.specs.Prefixes.{IsAtEnd}
use Rattle.desk_io.specs.Inputs.{input_at}
use Rattle.scan_job.specs.declared.stop.Stop.{Stop}
use Rattle.scan_job.specs.declared.stop.Stop.TheVariants.{NoForm, Refused, InputFailed, OutputFailed, NoMemory}
use Rattle.scan_job.specs.declared.commands.play.PlayRequest.{PlayRequest}
use Rattle.scan_job.specs.Requests.{Play, names_of}
use Rattle.scan_job.specs.TopCall.{Slots}
use Rattle.scan_job.specs.Playing.{IsPlayed, IsPlayFault}
use Rattle.scan_job.specs.Phases.{HasPutText, HasFailedAtText, HasPutLine, HasFailedAtLine}

-- the STIL slot was opened, read and closed, no call failed, and no other slot changed
pub record HasReadStil (old new : Slots) : Type 0 where
  pub elsewhere : SameElsewhere Stil old new
  pub faults : (new Stil).faults ≡ (old Stil).faults
  pub closed : IsClosed (new Stil)

-- the patterns were played to their end, and then this was done with what is said of them
pub record HasPlayedOut (r : PlayRequest) (texts : List (Option (List ℕ))) (old : Slots) (did : List ℕ → Slots → Type 0) : Type 0 where
  pub said : List ℕ
  pub between : Slots
  pub read : HasReadStil old between
  pub at_end : IsAtEnd (between Stil)
  pub is : IfSome (old Stil).unread (λ stil. IsPlayed (input_at texts Table) (input_at texts Verilog) stil r.device said)
  pub then_did : did said between

-- the first fault of the files was found, and then this was done with it
pub record HasFoundInPlay (r : PlayRequest) (texts : List (Option (List ℕ))) (old : Slots) (did : Fault → Slots → Type 0) : Type 0 where
  pub fault : Fault
  pub between : Slots
  pub read : HasReadStil old between
  pub is : IfSome (old Stil).unread (λ stil. IsPlayFault (input_at texts Table) (input_at texts Verilog) stil fault)
  pub then_did : did fault between

-- a call on the STIL slot failed, and no other slot changed
pub record HasFailedAtStil (old new : Slots) : Type 0 where
  pub elsewhere : SameElsewhere Stil old new
  pub risen : HasRisen (old Stil).faults (new Stil).faults

-- memory ran out, no call failed, and no other slot than the STIL's changed
pub record HasRunOutAtStil (old new : Slots) : Type 0 where
  pub elsewhere : SameElsewhere Stil old new
  pub faults : (new Stil).faults ≡ (old Stil).faults

-- what was done once the table and the netlist were taken
abbrev pub HasFinishedPlay : PlayRequest → List (Option (List ℕ)) → Slots → Slots → Result (Unit {0}) Stop → Type 0
HasFinishedPlay r texts old new (Ok done) = HasPlayedOut r texts old (λ said between. HasPutText said between new)
HasFinishedPlay r texts old new (Err NoForm) = ⊥
HasFinishedPlay r texts old new (Err Refused) = HasFoundInPlay r texts old (λ fault between. HasPutLine (names_of (Play r)) fault between new)
HasFinishedPlay r texts old new (Err InputFailed) = HasFailedAtStil old new
HasFinishedPlay r texts old new (Err OutputFailed) =
    HasPlayedOut r texts old (λ said between. HasFailedAtText said between new)
    ⊎ HasFoundInPlay r texts old (λ fault between. HasFailedAtLine (names_of (Play r)) fault between new)
HasFinishedPlay r texts old new (Err NoMemory) = HasRunOutAtStil old new
