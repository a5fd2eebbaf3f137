-- What may be wrong with the files of `verify`: with those of the first set, or else with those of the second.
use Rattle.std.specs.Prelude.{◌≡◌, ℕ, List}
use Rattle.base_types.specs.declared.fault.Fault.{Fault}
use Rattle.base_types.specs.declared.fault.FileKind.{FileKind}
use Rattle.base_types.specs.declared.fault.FileKind.TheVariants.{Table, Lef, Verilog, Def, Stil, NewVerilog, NewStil, Log, Words}
use Rattle.base_types.specs.FirstFault.{IsFirstFault}
use Rattle.declared_chains.specs.Faults.{HoldsInPlay}

-- the file of the second set that is read as this one of the first
abbrev pub new_file : FileKind → FileKind
new_file Table = Table
new_file Lef = Lef
new_file Verilog = NewVerilog
new_file Def = Def
new_file Stil = NewStil
new_file NewVerilog = NewVerilog
new_file NewStil = NewStil
new_file Log = Log
new_file Words = Words

-- a fault at the files of the second set
abbrev pub at_new : Fault → Fault
at_new fault = record { kind = fault.kind; file = new_file fault.file; spot = fault.spot }

-- A fault of `play` in the first set; where there is none, one in the second set, at its files.
pub data HoldsInVerify (table verilog stil new_verilog new_stil : List ℕ) (fault : Fault) : Type 0 where
  OfFirst : HoldsInPlay table verilog stil fault → HoldsInVerify table verilog stil new_verilog new_stil fault
  OfSecond : (other : Fault) → ((first : Fault) → HoldsInPlay table verilog stil first → ⊥) → HoldsInPlay table new_verilog new_stil other → fault ≡ at_new other
      → HoldsInVerify table verilog stil new_verilog new_stil fault

-- the first fault of those that hold, at the files of the second set
pub record IsNewFault (Holds : Fault → Type 0) (fault : Fault) : Type 0 where
  pub other : Fault
  pub first : IsFirstFault Holds other
  pub is : fault ≡ at_new other
