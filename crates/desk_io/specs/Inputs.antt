-- The inputs of a command, taken one after another.
use Rattle.std.specs.Prelude.{◌≡◌, ◌<◌, ◌≤◌, ℕ, List, [], length, Option, Some, None, slice_index_or, unwrap_or, Result, Ok, Err}
use Rattle.desk_io.specs.declared.slot.Slot.{Slot}
use Rattle.desk_io.specs.declared.inputs.InputsFault.{InputsFault}
use Rattle.desk_io.specs.declared.inputs.InputsFault.TheVariants.{TooLarge, Read, NoMemory}
use Rattle.desk_io.specs.Number.{number}
use Rattle.desk_io.specs.Desk.{SlotState, IsInput, IsUnopened, SameElsewhere}
use Rattle.desk_io.specs.Prefixes.{HasTakenFile, IsTooLarge, HasFailedToTake, HasRunOut}
use Rattle.desk_io.specs.Ways.{way_of, limit_in}
use Rattle.desk_io.specs.Names.{Names, IsNamed}

-- the most bytes that the file of an input may have
abbrev pub limit_of : Slot → ℕ
limit_of slot = limit_in (way_of slot)

-- the text that was taken from a slot, where one was
abbrev pub taken_at : List (Option (List ℕ)) → Slot → Option (List ℕ)
taken_at texts slot = slice_index_or texts (number slot) None

-- the text of a slot, empty where none was taken
abbrev pub input_at : List (Option (List ℕ)) → Slot → List ℕ
input_at texts slot = unwrap_or (taken_at texts slot) []

-- no input was opened yet
abbrev pub InputsUnopened : (Slot → SlotState) → Type 0
InputsUnopened slots = (slot : Slot) → IsInput slot → IsUnopened (slots slot)

-- the named inputs whose number is below were taken, and no other slot is changed or has a text
pub record HasTakenInputs (names : Names) (below : ℕ) (texts : List (Option (List ℕ))) (old new : Slot → SlotState) : Type 0 where
  pub taken : (slot : Slot) → IsInput slot → IsNamed names slot → number slot < below → HasTakenFile (input_at texts slot) (old slot) (new slot)
  pub small : (slot : Slot) → IsInput slot → IsNamed names slot → number slot < below → length (input_at texts slot) ≤ limit_of slot
  pub others : (slot : Slot) → (IsInput slot → IsNamed names slot → number slot < below → ⊥) → new slot ≡ old slot
  pub no_text : (slot : Slot) → (IsInput slot → IsNamed names slot → number slot < below → ⊥) → input_at texts slot ≡ []

-- the named inputs before this one were taken, and then its turn came and this happened
pub record HasStoppedAt (names : Names) (slot : Slot) (old new : Slot → SlotState) (did : SlotState → SlotState → Type 0) : Type 0 where
  pub input : IsInput slot
  pub named : IsNamed names slot
  pub texts : List (Option (List ℕ))
  pub between : Slot → SlotState
  pub before : HasTakenInputs names (number slot) texts old between
  pub elsewhere : SameElsewhere slot between new
  pub here : did (between slot) (new slot)

-- why the inputs weren't all taken, and at which of them
abbrev pub HasStopped : Names → (Slot → SlotState) → (Slot → SlotState) → Result (List (Option (List ℕ))) InputsFault → Type 0
HasStopped names old new (Ok texts) = Unit {0}
HasStopped names old new (Err (TooLarge slot)) = HasStoppedAt names slot old new (IsTooLarge (limit_of slot))
HasStopped names old new (Err Read) = (slot : Slot) × HasStoppedAt names slot old new HasFailedToTake
HasStopped names old new (Err NoMemory) = (slot : Slot) × HasStoppedAt names slot old new HasRunOut

-- the named inputs hold these files, and the desk tells it
abbrev pub HoldsFiles : Names → (Slot → List ℕ) → (Slot → SlotState) → Type 0
HoldsFiles names files slots = (slot : Slot) → IsInput slot → IsNamed names slot → (slots slot).unread ≡ Some (files slot)

-- the texts are those of the files
abbrev pub AreTextsOf : Names → (Slot → List ℕ) → List (Option (List ℕ)) → Type 0
AreTextsOf names files texts = (slot : Slot) → IsInput slot → IsNamed names slot → input_at texts slot ≡ files slot

-- the file of the slot is the first, in the order of the inputs, that has more bytes than its limit
pub record IsFirstTooLarge (names : Names) (files : Slot → List ℕ) (slot : Slot) : Type 0 where
  pub input : IsInput slot
  pub named : IsNamed names slot
  pub over : limit_of slot < length (files slot)
  pub first : (other : Slot) → IsInput other → IsNamed names other → number other < number slot → length (files other) ≤ limit_of other
