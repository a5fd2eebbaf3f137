-- What shows that a call failed: the count of faults of its slot.
use Rattle.std.specs.Prelude.{◌≡◌, ◌<◌, ◌≤◌, ◌⊎◌, ℕ}
use Rattle.desk_io.specs.declared.slot.Slot.{Slot}
use Rattle.desk_io.specs.Desk.{SlotState, with_faults}

-- A count rose in a call: it is greater than before, or stands at the end of its type. It never falls.
pub record HasRisen (before now : ℕ) : Type 0 where
  pub no_less : before ≤ now
  pub greater : (before < now) ⊎ (now ≡ 18446744073709551615)

-- a call on the slot failed: its count rose, and nothing else changed
pub record HasFailed (old new : SlotState) : Type 0 where
  pub risen : HasRisen old.faults new.faults
  pub same : new ≡ with_faults new.faults old

-- no count changed
abbrev pub SameCounts : (Slot → SlotState) → (Slot → SlotState) → Type 0
SameCounts old new = (slot : Slot) → (new slot).faults ≡ (old slot).faults

-- the count of some such slot rose
pub record SomeRose (P : Slot → Type 0) (old new : Slot → SlotState) : Type 0 where
  pub slot : Slot
  pub is : P slot
  pub risen : HasRisen (old slot).faults (new slot).faults
