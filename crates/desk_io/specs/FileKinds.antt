-- The inputs as faults name them.
use Rattle.std.specs.Prelude.{Option, Some, None}
use Rattle.base_types.specs.declared.fault.FileKind.{FileKind}
use Rattle.base_types.specs.declared.fault.FileKind.TheVariants as kinds
use Rattle.desk_io.specs.declared.slot.Slot.{Slot}
use Rattle.desk_io.specs.declared.slot.Slot.TheVariants.{Table, Lef, Verilog, Def, Stil, NewVerilog, NewStil, Log}

-- the file of a slot, as faults name it; what stands in no input stands in the words
abbrev pub file_of : Slot → FileKind
file_of Table = kinds.Table
file_of Lef = kinds.Lef
file_of Verilog = kinds.Verilog
file_of Def = kinds.Def
file_of Stil = kinds.Stil
file_of NewVerilog = kinds.NewVerilog
file_of NewStil = kinds.NewStil
file_of Log = kinds.Log
file_of slot = kinds.Words

-- the slot of a file that faults name, where it isn't the words
abbrev pub slot_of : FileKind → Option Slot
slot_of kinds.Table = Some Table
slot_of kinds.Lef = Some Lef
slot_of kinds.Verilog = Some Verilog
slot_of kinds.Def = Some Def
slot_of kinds.Stil = Some Stil
slot_of kinds.NewVerilog = Some NewVerilog
slot_of kinds.NewStil = Some NewStil
slot_of kinds.Log = Some Log
slot_of kinds.Words = None
