-- The first fault of stages that are gone through one behind the other.
use Rattle.std.specs.Prelude.{ℕ, Option, Some, None}
use Rattle.base_types.specs.Faults.{at_line}
use Rattle.base_types.specs.FirstFault.{IsFirstFault}
use Rattle.base_types.specs.declared.fault.Fault.{Fault}
use Rattle.base_types.specs.declared.fault.FileKind.TheVariants.{Def}
use Rattle.base_types.specs.declared.kind.Kind.{Kind}

-- the fault of a kind, where there is a line that has it, else a later one
abbrev pub fault_or : Kind → Option ℕ → Option Fault → Option Fault
fault_or kind None later = later
fault_or kind (Some line) later = Some (at_line kind Def line)

-- the first of the faults that hold, or none where none holds
abbrev pub IsFirstIn : (Fault → Type 0) → Option Fault → Type 0
IsFirstIn Holds None = (f : Fault) → Holds f → ⊥
IsFirstIn Holds (Some f) = IsFirstFault Holds f
