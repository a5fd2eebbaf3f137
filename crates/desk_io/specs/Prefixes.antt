-- What is left to be read and what was written: by one call, by a loop of calls, and for a whole file.
use Rattle.std.specs.Prelude.{◌≡◌, ◌<◌, ◌≤◌, ℕ, List, [], ◌++◌, length, take, option_map, IfSome}
use Rattle.desk_io.specs.Desk.{SlotState, IsOpen, IsClosed, with_faults, with_unread}
use Rattle.desk_io.specs.Causes.{HasRisen}

-- these bytes were taken from the front of what was to be read, where it is told
abbrev pub IsFront : List ℕ → SlotState → SlotState → Type 0
IsFront taken old new = old.unread ≡ option_map (λ rest. taken ++ rest) new.unread

-- nothing is left to be read, as far as it is told
abbrev pub IsAtEnd : SlotState → Type 0
IsAtEnd slot = IfSome slot.unread (λ rest. rest ≡ [])

-- these bytes were appended to what was written, where it is told
abbrev pub IsAppended : List ℕ → SlotState → SlotState → Type 0
IsAppended bytes old new = new.written ≡ option_map (λ front. front ++ bytes) old.written

-- a read moved so many bytes to the front of the room, none only at the end of the input
pub record HasRead (count : ℕ) (room : List ℕ) (old new : SlotState) : Type 0 where
  pub fits : count ≤ length room
  pub front : IsFront (take count room) old new
  pub at_end : count ≡ 0 → IsAtEnd new
  pub same : new ≡ with_unread new.unread old

-- a write took so many bytes of the piece, none only where the count rose
pub record HasWritten (count : ℕ) (piece : List ℕ) (old new : SlotState) : Type 0 where
  pub fits : count ≤ length piece
  pub appended : IsAppended (take count piece) old new
  pub nothing : count ≡ 0 → HasRisen old.faults new.faults
  pub counted : 0 < count → new.faults ≡ old.faults
  pub unread : new.unread ≡ old.unread
  pub stage : new.stage ≡ old.stage

-- these bytes are gone from the front, and nothing else changed
pub record HasTaken (taken : List ℕ) (old new : SlotState) : Type 0 where
  pub front : IsFront taken old new
  pub same : new ≡ with_unread new.unread old

-- these bytes are gone from the front, the count rose, and nothing else changed
pub record HasTakenAndFailed (taken : List ℕ) (old new : SlotState) : Type 0 where
  pub front : IsFront taken old new
  pub risen : HasRisen old.faults new.faults
  pub same : new ≡ with_faults new.faults (with_unread new.unread old)

-- all the bytes were appended, and nothing else changed
pub record HasPut (bytes : List ℕ) (old new : SlotState) : Type 0 where
  pub appended : IsAppended bytes old new
  pub faults : new.faults ≡ old.faults
  pub unread : new.unread ≡ old.unread
  pub stage : new.stage ≡ old.stage

-- a prefix of the bytes was appended, the count rose, and nothing else changed
pub record HasPutAndFailed (bytes : List ℕ) (old new : SlotState) : Type 0 where
  pub front : List ℕ
  pub rest : List ℕ
  pub prefix : bytes ≡ front ++ rest
  pub appended : IsAppended front old new
  pub risen : HasRisen old.faults new.faults
  pub unread : new.unread ≡ old.unread
  pub stage : new.stage ≡ old.stage

-- the slot held this text and no more, and is closed
pub record HasTakenFile (text : List ℕ) (old new : SlotState) : Type 0 where
  pub front : IsFront text old new
  pub at_end : IsAtEnd new
  pub faults : new.faults ≡ old.faults
  pub written : new.written ≡ old.written
  pub closed : IsClosed new

-- more than so many bytes were taken from the slot, and it is closed
pub record IsTooLarge (limit : ℕ) (old new : SlotState) : Type 0 where
  pub taken : List ℕ
  pub over : limit < length taken
  pub front : IsFront taken old new
  pub faults : new.faults ≡ old.faults
  pub written : new.written ≡ old.written
  pub closed : IsClosed new

-- a call on the slot failed, after some bytes or none were taken from its front
pub record HasFailedToTake (old new : SlotState) : Type 0 where
  pub taken : List ℕ
  pub front : IsFront taken old new
  pub risen : HasRisen old.faults new.faults
  pub written : new.written ≡ old.written

-- memory ran out after some bytes or none were taken from the front of the slot, which is left open
pub record HasRunOut (old new : SlotState) : Type 0 where
  pub taken : List ℕ
  pub front : IsFront taken old new
  pub faults : new.faults ≡ old.faults
  pub written : new.written ≡ old.written
  pub open_still : IsOpen new

-- all the bytes were appended, and the slot is closed
pub record HasPutFile (bytes : List ℕ) (old new : SlotState) : Type 0 where
  pub appended : IsAppended bytes old new
  pub faults : new.faults ≡ old.faults
  pub unread : new.unread ≡ old.unread
  pub closed : IsClosed new

-- a prefix of the bytes was appended
pub record HoldsPrefix (bytes : List ℕ) (old new : SlotState) : Type 0 where
  pub front : List ℕ
  pub rest : List ℕ
  pub prefix : bytes ≡ front ++ rest
  pub appended : IsAppended front old new
