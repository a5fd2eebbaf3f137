-- What stands at each slot of a desk, and which slots a call leaves alone.
use Rattle.std.specs.Prelude.{◌≡◌, ◌≢◌, ℕ, Bool, List, Option}
use Rattle.desk_io.specs.declared.slot.Slot.{Slot}
use Rattle.desk_io.specs.declared.slot.Stage.{Stage}
use Rattle.desk_io.specs.declared.slot.Stage.TheVariants.{Unopened, Open, Closed}
use Rattle.desk_io.specs.Ways.{way_of, IsIn, IsOut}

-- How far a slot has come, the bytes that are still to be read from it, those that were written to it, and its
-- count of faults. Bytes that the desk doesn't tell are None.
pub record SlotState : Type 0 where
  pub stage : Stage
  pub unread : Option (List ℕ)
  pub written : Option (List ℕ)
  pub faults : ℕ

-- the slot was never opened
abbrev pub IsUnopened : SlotState → Type 0
IsUnopened slot = slot.stage ≡ Unopened

-- the slot is open
abbrev pub IsOpen : SlotState → Type 0
IsOpen slot = slot.stage ≡ Open

-- the slot was opened and closed
abbrev pub IsClosed : SlotState → Type 0
IsClosed slot = slot.stage ≡ Closed

-- no slot was opened yet
abbrev pub AllUnopened : (Slot → SlotState) → Type 0
AllUnopened slots = (slot : Slot) → IsUnopened (slots slot)

-- a slot that is read
abbrev pub IsInput : Slot → Type 0
IsInput slot = IsIn (way_of slot)

-- a slot that is written: an output file, or the console
abbrev pub IsOutput : Slot → Type 0
IsOutput slot = IsOut (way_of slot)

-- the slot, opened
abbrev pub opened : SlotState → SlotState
opened slot = record slot { stage = Open }

-- the slot, closed
abbrev pub closed : SlotState → SlotState
closed slot = record slot { stage = Closed }

-- the slot with another count of faults
abbrev pub with_faults : ℕ → SlotState → SlotState
with_faults faults slot = record slot { faults = faults }

-- the slot with other bytes to be read
abbrev pub with_unread : Option (List ℕ) → SlotState → SlotState
with_unread unread slot = record slot { unread = unread }

-- no slot but this one changed
abbrev pub SameElsewhere : Slot → (Slot → SlotState) → (Slot → SlotState) → Type 0
SameElsewhere slot old new = (other : Slot) → other ≢ slot → new other ≡ old other

-- no slot changed
abbrev pub SameSlots : (Slot → SlotState) → (Slot → SlotState) → Type 0
SameSlots old new = (slot : Slot) → new slot ≡ old slot

-- the same names are allowed at the same slots
abbrev pub SameNames : (Slot → List ℕ → Bool) → (Slot → List ℕ → Bool) → Type 0
SameNames old new = (slot : Slot) (name : List ℕ) → new slot name ≡ old slot name
