-- The slots that the words of a command name.
use Rattle.std.specs.Prelude.{◌≡◌, ℕ, Bool, List, [], ◌∷◌, nat_eq, if◌then◌else◌, Option, Some, None, IsSome, IsTrue}
use Rattle.desk_io.specs.declared.slot.Slot.{Slot}
use Rattle.desk_io.specs.declared.slot.Slot.TheVariants.{Console}
use Rattle.desk_io.specs.Number.{number}
use Rattle.desk_io.specs.Desk.{SlotState}

-- the slots that a command uses, each with its name: the value of its option
abbrev pub Names : Type 0
Names = List (Slot × List ℕ)

-- the name that a slot has first
abbrev pub name_in : Names → Slot → Option (List ℕ)
name_in [] slot = None
name_in (first ∷ names) slot = if nat_eq (number first.0) (number slot) then Some first.1 else name_in names slot

-- the name of a slot, where it has one; each command uses the console, whose name is empty
abbrev pub name_at : Names → Slot → Option (List ℕ)
name_at names slot = name_in ((Console, []) ∷ names) slot

-- the slot has a name
abbrev pub IsNamed : Names → Slot → Type 0
IsNamed names slot = IsSome (name_at names slot)

-- each slot may be opened under its name
abbrev pub AllowsNames : Names → (Slot → List ℕ → Bool) → Type 0
AllowsNames names allows = (slot : Slot) (name : List ℕ) → name_at names slot ≡ Some name → IsTrue (allows slot name)

-- no slot changed but those that are named and of this kind
abbrev pub OnlyNamed : Names → (Slot → Type 0) → (Slot → SlotState) → (Slot → SlotState) → Type 0
OnlyNamed names P old new = (slot : Slot) → (P slot → IsNamed names slot → ⊥) → new slot ≡ old slot
