-- How a run ended, case by case.
use Rattle.std.specs.Prelude.{◌≡◌, ◌⊎◌, ℕ, List, Result, Ok, Err}
use Rattle.desk_io.specs.declared.slot.Slot.{Slot}
use Rattle.desk_io.specs.declared.slot.Slot.TheVariants.{Console}
use Rattle.desk_io.specs.Desk.{IsInput, IsOutput}
use Rattle.desk_io.specs.Causes.{SomeRose, SameCounts}
use Rattle.scan_words.specs.declared.order.Order.{Order}
use Rattle.scan_job.specs.Requests.{Request, Asks, order_of}
use Rattle.scan_job.specs.declared.stop.Stop.{Stop}
use Rattle.scan_job.specs.declared.stop.Stop.TheVariants.{NoForm, Refused, InputFailed, OutputFailed, NoMemory}
use Rattle.scan_job.specs.TopCall.{Slots, SaysNothing, SameEverywhere, SameUnused, NoneOpen, AllClosed, AllRead, Reads, SameDesign, HasRefused, HasDone, HasWritten}

-- all was done
pub record IsDone (request : Request) (old new : Slots) : Type 0 where
  pub unused : SameUnused request old new
  pub none_open : NoneOpen new
  pub closed : AllClosed request new
  pub read : AllRead request new
  pub counts : SameCounts old new
  pub done : (files : Slot → List ℕ) → Reads request files old → HasDone request files old new

-- the first fault was said
pub record IsRefused (request : Request) (old new : Slots) : Type 0 where
  pub unused : SameUnused request old new
  pub none_open : NoneOpen new
  pub counts : SameCounts old new
  pub design : SameDesign old new
  pub refused : (files : Slot → List ℕ) → Reads request files old → HasRefused request files old new

-- an input failed: no output had, neither the Verilog nor the DEF output was touched, and nothing was said
pub record IsInputFailed (request : Request) (old new : Slots) : Type 0 where
  pub unused : SameUnused request old new
  pub rose : SomeRose IsInput old new
  pub outputs : (slot : Slot) → IsOutput slot → (new slot).faults ≡ (old slot).faults
  pub design : SameDesign old new
  pub silent : new Console ≡ old Console
  pub prefixes : (files : Slot → List ℕ) → Reads request files old → HasWritten request files old new

-- an output failed: no input had
pub record IsOutputFailed (request : Request) (old new : Slots) : Type 0 where
  pub unused : SameUnused request old new
  pub rose : SomeRose IsOutput old new
  pub inputs : (slot : Slot) → IsInput slot → (new slot).faults ≡ (old slot).faults
  pub prefixes : (files : Slot → List ℕ) → Reads request files old → HasWritten request files old new

-- there was no memory: nothing had failed, neither the Verilog nor the DEF output was touched, and nothing was said
pub record IsOutOfMemory (request : Request) (old new : Slots) : Type 0 where
  pub unused : SameUnused request old new
  pub counts : SameCounts old new
  pub design : SameDesign old new
  pub silent : new Console ≡ old Console
  pub prefixes : (files : Slot → List ℕ) → Reads request files old → HasWritten request files old new

-- a run of a request ended so, with this result
abbrev pub HasEnded : Request → Slots → Slots → Result (Unit {0}) Stop → Type 0
HasEnded request old new (Ok done) = IsDone request old new
HasEnded request old new (Err NoForm) = ⊥
HasEnded request old new (Err Refused) = IsRefused request old new
HasEnded request old new (Err InputFailed) = IsInputFailed request old new
HasEnded request old new (Err OutputFailed) = IsOutputFailed request old new
HasEnded request old new (Err NoMemory) = IsOutOfMemory request old new

-- a run of an order ended so: that of the request whose values it has
pub record HasRunOrder (order : Order) (old new : Slots) (result : Result (Unit {0}) Stop) : Type 0 where
  pub request : Request
  pub is : order_of request ≡ order
  pub ended : HasEnded request old new result

-- the status of a result
abbrev pub status_of : Result (Unit {0}) Stop → ℕ
status_of (Ok done) = 0
status_of (Err NoForm) = 1
status_of (Err Refused) = 2
status_of (Err InputFailed) = 3
status_of (Err OutputFailed) = 4
status_of (Err NoMemory) = 5

-- the words are of no written form and nothing was touched, or they say an order, and it ended so
abbrev pub HasRun : List (List ℕ) → Slots → Slots → Result (Unit {0}) Stop → Type 0
HasRun words old new (Err NoForm) = SaysNothing words × SameEverywhere old new
HasRun words old new (Err NoMemory) = SameEverywhere old new ⊎ ((request : Request) × Asks words request × IsOutOfMemory request old new)
HasRun words old new (Ok done) = (request : Request) × Asks words request × IsDone request old new
HasRun words old new (Err Refused) = (request : Request) × Asks words request × IsRefused request old new
HasRun words old new (Err InputFailed) = (request : Request) × Asks words request × IsInputFailed request old new
HasRun words old new (Err OutputFailed) = (request : Request) × Asks words request × IsOutputFailed request old new
