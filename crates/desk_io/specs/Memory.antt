-- A desk in memory: its value, what stands at its slots, and which of its calls fail.
use Rattle.std.specs.Prelude.{◌≡◌, ℕ, List, [], length, drop, Some, min, ◌+◌, ◌<◌, ◌≤◌, slice_index_or, Contains, ◌⊎◌}
use Rattle.desk_io.specs.declared.slot.Slot.{Slot}
use Rattle.desk_io.specs.declared.slot.Stage.{Stage}
use Rattle.desk_io.specs.declared.slot.Stage.TheVariants.{Unopened}
use Rattle.desk_io.specs.Number.{number}
use Rattle.desk_io.specs.Desk.{SlotState, IsOutput}
use Rattle.desk_io.specs.Files.{bytes_of}

-- What a slot keeps: how far it has come, how many of its file's bytes were taken, what was written, for how many
-- bytes there is room in all, and its count of faults.
pub record PartState : Type 0 where
  pub stage : Stage
  pub taken : ℕ
  pub written : List ℕ
  pub room : ℕ
  pub faults : ℕ

-- A desk in memory: its files, the numbers of the calls that fail and of the writes that take nothing, the most
-- bytes that a call moves, the most that a slot holds, the parts of its slots by their numbers, and the count of the
-- calls so far.
pub record MemoryState : Type 0 where
  pub files : List (Slot × List ℕ)
  pub failing : List ℕ
  pub empty_writes : List ℕ
  pub portion : ℕ
  pub room : ℕ
  pub parts : List PartState
  pub calls : ℕ

-- a part that nothing was done with
abbrev pub fresh_part : ℕ → PartState
fresh_part room = record { stage = Unopened; taken = 0; written = []; room = room; faults = 0 }

-- the part of a slot
abbrev pub part_at : List PartState → Slot → PartState
part_at parts slot = slice_index_or parts (number slot) (fresh_part 0)

-- what stands at a slot, by its part and its file's bytes: all of it is told
abbrev pub state_of : PartState → List ℕ → SlotState
state_of part file = record { stage = part.stage; unread = Some (drop part.taken file); written = Some part.written; faults = part.faults }

-- what stands at the slots of a desk in memory
abbrev pub slots_of : MemoryState → Slot → SlotState
slots_of desk slot = state_of (part_at desk.parts slot) (bytes_of desk.files slot)

-- what stands at a slot of a desk that was just made: unopened, its file unread, nothing written, no fault
abbrev pub fresh_slot : List (Slot × List ℕ) → Slot → SlotState
fresh_slot files slot = record { stage = Unopened; unread = Some (bytes_of files slot); written = Some []; faults = 0 }

-- the bytes that are still to be read from a slot
abbrev pub unread_at : MemoryState → Slot → List ℕ
unread_at desk slot = drop (part_at desk.parts slot).taken (bytes_of desk.files slot)

-- the bytes that were written to a slot
abbrev pub written_at : MemoryState → Slot → List ℕ
written_at desk slot = (part_at desk.parts slot).written

-- the number of the next call: they count from 1, over all slots
abbrev pub next_call : MemoryState → ℕ
next_call desk = min (desk.calls + 1) 18446744073709551615

-- the next call is one of those that fail
abbrev pub IsFailing : MemoryState → Type 0
IsFailing desk = Contains desk.failing (next_call desk)

-- the next call, if it is a write and doesn't fail, takes nothing
abbrev pub TakesNothing : MemoryState → Type 0
TakesNothing desk = Contains desk.empty_writes (next_call desk)

-- the slot holds as many written bytes as there is room for
abbrev pub IsFull : MemoryState → Slot → Type 0
IsFull desk slot = length (written_at desk slot) ≡ desk.room

-- the next call, a write to the slot, fails
abbrev pub FailsToWrite : MemoryState → Slot → Type 0
FailsToWrite desk slot = IsFailing desk ⊎ ((TakesNothing desk → ⊥) × IsFull desk slot)

-- what is true of every desk in memory
pub record IsMemoryDesk (desk : MemoryState) : Type 0 where
  pub all : length desk.parts ≡ 13
  pub some : 0 < desk.portion
  pub within : (slot : Slot) → (part_at desk.parts slot).taken ≤ length (bytes_of desk.files slot)
  pub rooms : (slot : Slot) → IsOutput slot → (part_at desk.parts slot).room ≡ desk.room
