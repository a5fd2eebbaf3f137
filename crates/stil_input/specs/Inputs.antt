-- A STIL text that is taken piece by piece from the STIL slot of a desk: what is still to come, and what each call answers.
use Rattle.std.specs.Prelude.{◌≡◌, ◌<◌, ◌≤◌, ◌+◌, ◌-◌, ℕ, true, false, if◌then◌else◌, List, [], ◌∷◌, ◌++◌, length, map, Option, Some, None, option_map, IfSome, Result, Ok, Err}
use Rattle.base_types.specs.declared.fault.Fault.{Fault}
use Rattle.base_types.specs.declared.fault.ReadFault.{ReadFault}
use Rattle.base_types.specs.declared.fault.ReadFault.TheVariants as faults
use Rattle.desk_io.specs.Desk.{SlotState, IsOpen}
use Rattle.desk_io.specs.Prefixes.{IsAtEnd, HasTaken, HasTakenAndFailed}
use Rattle.stil_types.specs.declared.head.StilHead.{StilHead}
use Rattle.stil_types.specs.Statements.{IsPlaced}
use Rattle.stil_parts.specs.declared.part.PartFault.{PartFault}
use Rattle.stil_parts.specs.Coming.{most}
use Rattle.stil_calls.specs.Statements.{AreAccepted}
use Rattle.stil_reader.specs.Sayings.{Saying, Head, GapByte, Stated, Told, after, refusal, named}
use Rattle.stil_stream.specs.Streams.{Streaming, fed, ended, fault_of, largest_kept, told_of}
use Rattle.stil_input.specs.declared.input.Said.{Said}
use Rattle.stil_input.specs.declared.input.Said.TheVariants as says
use Rattle.stil_input.specs.declared.input.StilStop.{StilStop}
use Rattle.stil_input.specs.declared.input.StilStop.TheVariants as stops

-- a stream that takes its pieces from the slot: the slot is open, no fault was answered, and where the input is ended nothing is left
pub record Draws (s : Streaming) (slot : SlotState) : Type 0 where
  pub is_open : IsOpen slot
  pub sound : s.fault ≡ None
  pub ended : s.ended ≡ true → IsAtEnd slot

-- what is still to come beside a head, where the slot tells its bytes: of those that are kept and those that are still to be read
abbrev pub coming : StilHead → Streaming → SlotState → Option Told
coming head s slot = option_map (told_of head s) slot.unread

-- how many calls may still hand something out, at most: as many as there are bytes that a text may still have, and one for the head
abbrev pub left : Streaming → ℕ
left s = (if s.in_head then 1 else 0) + (most - s.point.given)

-- some bytes or none went from the slot's front, and nothing else of it changed
abbrev pub HasDrawn : SlotState → SlotState → Type 0
HasDrawn old new = (taken : List ℕ) × HasTaken taken old new

-- a call on the slot failed behind some bytes or none
abbrev pub HasDrawnAndFailed : SlotState → SlotState → Type 0
HasDrawnAndFailed old new = (taken : List ℕ) × HasTakenAndFailed taken old new

-- what was to come is this, and then what is to come; one call fewer is left
pub record Says (head : StilHead) (s s' : Streaming) (old new : SlotState) (said : List Saying) : Type 0 where
  pub comes : coming head s old ≡ option_map (after said) (coming head s' new)
  pub drawn : HasDrawn old new
  pub draws : Draws s' new
  pub behind : s'.in_head ≡ false
  pub fewer : left s' < left s

-- nothing more was to come, and no fault
pub record HasEnded (head : StilHead) (s : Streaming) (old new : SlotState) : Type 0 where
  pub comes : IfSome (coming head s old) (λ told. told ≡ record { says = []; fault = None })
  pub drawn : HasDrawn old new
  pub at_end : IsAtEnd new

-- a fault was to come, and nothing before it
pub record IsRefused (head : StilHead) (s : Streaming) (old new : SlotState) (f : PartFault) : Type 0 where
  pub comes : IfSome (coming head s old) (λ told. told ≡ refusal f)
  pub drawn : HasDrawn old new

-- a byte or more was taken, and fed
pub record HasFed (s s' : Streaming) (old new : SlotState) : Type 0 where
  pub piece : List ℕ
  pub some : 0 < length piece
  pub taken : HasTaken piece old new
  pub same : s' ≡ fed s piece

-- nothing was left to be taken, and the input is ended
pub record HasStopped (s s' : Streaming) (old new : SlotState) : Type 0 where
  pub taken : HasTaken [] old new
  pub at_end : IsAtEnd new
  pub same : s' ≡ ended s

-- why nothing was taken into the stream: never a fault of the text
abbrev pub Fails : SlotState → SlotState → StilStop → Type 0
Fails old new (stops.Fault fault) = ⊥
Fails old new stops.Read = HasDrawnAndFailed old new
Fails old new stops.NoMemory = HasDrawn old new

-- the answer of the stream's own failing
abbrev pub stop_of : ReadFault → StilStop
stop_of (faults.Fault fault) = stops.Fault fault
stop_of faults.NoMemory = stops.NoMemory

-- what a call for the head answers; beside any head that is read from it
abbrev pub GivesHead : Streaming → Streaming → SlotState → SlotState → Result (List ℕ) StilStop → Type 0
GivesHead s s' old new (Ok text) = (length text ≤ largest_kept) × ((head : StilHead) → Says head s s' old new (Head text ∷ []))
GivesHead s s' old new (Err (stops.Fault fault)) = (f : PartFault) × (fault ≡ fault_of f) × ((head : StilHead) → IsRefused head s old new f)
GivesHead s s' old new (Err stops.Read) = HasDrawnAndFailed old new
GivesHead s s' old new (Err stops.NoMemory) = HasDrawn old new

-- what a call behind the head answers
abbrev pub Gives : StilHead → Streaming → Streaming → SlotState → SlotState → Result Said StilStop → Type 0
Gives head s s' old new (Ok (says.Gap text pattern)) = Says head s s' old new (map GapByte text ++ named pattern)
Gives head s s' old new (Ok (says.Statement statement)) = Says head s s' old new (Stated statement ∷ []) × AreAccepted head statement × IsPlaced statement
Gives head s s' old new (Ok says.End) = HasEnded head s old new
Gives head s s' old new (Err (stops.Fault fault)) = (f : PartFault) × (fault ≡ fault_of f) × IsRefused head s old new f
Gives head s s' old new (Err stops.Read) = HasDrawnAndFailed old new
Gives head s s' old new (Err stops.NoMemory) = HasDrawn old new
