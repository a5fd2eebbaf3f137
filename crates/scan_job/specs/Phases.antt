-- What the phases of a command leave at the slots.
use Rattle.std.specs.Prelude.{◌⊎◌, ◌≤◌, ℕ, List, length, Option, Result, Ok, Err}
use Rattle.base_types.specs.declared.fault.Fault.{Fault}
use Rattle.desk_io.specs.declared.slot.Slot.TheVariants.{Console}
use Rattle.desk_io.specs.declared.outputs.Outputs.{Outputs}
use Rattle.desk_io.specs.declared.slot.Slot.{Slot}
use Rattle.desk_io.specs.Names.{Names}
use Rattle.desk_io.specs.Desk.{IsInput, SameElsewhere}
use Rattle.desk_io.specs.Causes.{HasRisen}
use Rattle.desk_io.specs.Prefixes.{HasPutFile, HoldsPrefix}
use Rattle.desk_io.specs.Inputs.{limit_of, input_at}
use Rattle.desk_io.specs.Outputs.{HasPutOutputs, HasStoppedPutting}
use Rattle.scan_job.specs.declared.stop.Stop.{Stop}
use Rattle.scan_job.specs.declared.stop.Stop.TheVariants.{NoForm, Refused, InputFailed, OutputFailed, NoMemory}
use Rattle.scan_job.specs.Requests.{Request, names_of}
use Rattle.scan_job.specs.Faults.{IsCommandFault, HasNoCommandFault, fault_text}
use Rattle.scan_job.specs.Texts.{AreTexts}
use Rattle.scan_job.specs.TopCall.{Slots, SameEverywhere}

-- a text was put on the console
pub record HasPutText (text : List ℕ) (old new : Slots) : Type 0 where
  pub elsewhere : SameElsewhere Console old new
  pub put : HasPutFile text (old Console) (new Console)

-- the console failed at a text
pub record HasFailedAtText (text : List ℕ) (old new : Slots) : Type 0 where
  pub elsewhere : SameElsewhere Console old new
  pub prefix : HoldsPrefix text (old Console) (new Console)
  pub risen : HasRisen (old Console).faults (new Console).faults

-- the line of a fault was put on the console
abbrev pub HasPutLine : Names → Fault → Slots → Slots → Type 0
HasPutLine names fault old new = HasPutText (fault_text names fault) old new

-- the console failed at the line of a fault
abbrev pub HasFailedAtLine : Names → Fault → Slots → Slots → Type 0
HasFailedAtLine names fault old new = HasFailedAtText (fault_text names fault) old new

-- a text was put on the console, or putting it failed
abbrev pub HasTold : List ℕ → Slots → Slots → Result (Unit {0}) Stop → Type 0
HasTold text old new (Ok done) = HasPutText text old new
HasTold text old new (Err NoForm) = ⊥
HasTold text old new (Err Refused) = ⊥
HasTold text old new (Err InputFailed) = ⊥
HasTold text old new (Err OutputFailed) = HasFailedAtText text old new
HasTold text old new (Err NoMemory) = ⊥

-- the fault was said on the console, or saying it failed
abbrev pub HasSaid : Names → Fault → Slots → Slots → Result (Unit {0}) Stop → Type 0
HasSaid names fault old new (Ok done) = ⊥
HasSaid names fault old new (Err NoForm) = ⊥
HasSaid names fault old new (Err Refused) = HasPutLine names fault old new
HasSaid names fault old new (Err InputFailed) = ⊥
HasSaid names fault old new (Err OutputFailed) = HasFailedAtLine names fault old new
HasSaid names fault old new (Err NoMemory) = SameEverywhere old new

-- the text of each input has no more bytes than its file may
abbrev pub AreInLimits : List (Option (List ℕ)) → Type 0
AreInLimits texts = (slot : Slot) → IsInput slot → length (input_at texts slot) ≤ limit_of slot

-- the inputs' texts have no fault of the command's own, and these are its texts
pub record AreJudged (request : Request) (texts : List (Option (List ℕ))) (outputs : Outputs) : Type 0 where
  pub no_fault : HasNoCommandFault request (input_at texts)
  pub are : AreTexts request (input_at texts) outputs

-- all outputs were written
pub record HasPutAll (request : Request) (texts : List (Option (List ℕ))) (old new : Slots) : Type 0 where
  pub outputs : Outputs
  pub judged : AreJudged request texts outputs
  pub put : HasPutOutputs (names_of request) outputs 5 old new

-- writing the outputs failed
pub record HasPutSome (request : Request) (texts : List (Option (List ℕ))) (old new : Slots) : Type 0 where
  pub outputs : Outputs
  pub judged : AreJudged request texts outputs
  pub stopped : HasStoppedPutting (names_of request) outputs old new

-- the command's own first fault in the inputs' texts was found, and this happened at it
pub record HasFound (request : Request) (texts : List (Option (List ℕ))) (did : Fault → Type 0) : Type 0 where
  pub fault : Fault
  pub first : IsCommandFault request (input_at texts) fault
  pub then_did : did fault

-- what was done once the inputs were taken
abbrev pub HasFinished : Request → List (Option (List ℕ)) → Slots → Slots → Result (Unit {0}) Stop → Type 0
HasFinished request texts old new (Ok done) = HasPutAll request texts old new
HasFinished request texts old new (Err NoForm) = ⊥
HasFinished request texts old new (Err Refused) = HasFound request texts (λ fault. HasPutLine (names_of request) fault old new)
HasFinished request texts old new (Err InputFailed) = ⊥
HasFinished request texts old new (Err OutputFailed) =
    HasPutSome request texts old new ⊎ HasFound request texts (λ fault. HasFailedAtLine (names_of request) fault old new)
HasFinished request texts old new (Err NoMemory) = SameEverywhere old new
