-- Files in memory, by their slots.
use Rattle.std.specs.Prelude.{ℕ, List, [], ◌∷◌, nat_eq, if◌then◌else◌}
use Rattle.desk_io.specs.declared.slot.Slot.{Slot}
use Rattle.desk_io.specs.Number.{number}

-- the bytes of the slot's file: of the first that is given for it, and none where there is none
abbrev pub bytes_of : List (Slot × List ℕ) → Slot → List ℕ
bytes_of [] slot = []
bytes_of (file ∷ files) slot = if nat_eq (number file.0) (number slot) then file.1 else bytes_of files slot
