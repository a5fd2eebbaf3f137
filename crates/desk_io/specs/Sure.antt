-- A desk whose calls don't fail: its value, and what stands at its slots.
use Rattle.std.specs.Prelude.{◌≤◌, ℕ, List, length, drop, Some, None, slice_index, slice_index_or}
use Rattle.desk_io.specs.declared.slot.Slot.{Slot}
use Rattle.desk_io.specs.declared.slot.Stage.{Stage}
use Rattle.desk_io.specs.declared.slot.Stage.TheVariants.{Unopened}
use Rattle.desk_io.specs.Number.{number}
use Rattle.desk_io.specs.Desk.{SlotState}
use Rattle.desk_io.specs.Files.{bytes_of}

-- The files of the desk, and by the numbers of the slots how many of their bytes were taken and how far each has come.
pub record SureState : Type 0 where
  pub files : List (Slot × List ℕ)
  pub taken : List ℕ
  pub stages : List Stage

-- the bytes that are still to be read from a slot
abbrev pub sure_unread : SureState → Slot → List ℕ
sure_unread desk slot = drop (slice_index desk.taken (number slot)) (bytes_of desk.files slot)

-- what stands at the slots: the inputs are told, what is written is not, and the count of faults is 0
abbrev pub sure_slots : SureState → Slot → SlotState
sure_slots desk slot = record {
  stage = slice_index_or desk.stages (number slot) Unopened;
  unread = Some (sure_unread desk slot);
  written = None;
  faults = 0;
}

-- what stands at a slot of a desk that was just made
abbrev pub fresh_sure_slot : List (Slot × List ℕ) → Slot → SlotState
fresh_sure_slot files slot = record { stage = Unopened; unread = Some (bytes_of files slot); written = None; faults = 0 }

-- no slot's file has fewer bytes than were taken
abbrev pub IsWithinFiles : SureState → Type 0
IsWithinFiles desk = (slot : Slot) → slice_index desk.taken (number slot) ≤ length (bytes_of desk.files slot)
