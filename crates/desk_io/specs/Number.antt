-- The numbers of the slots, in the order in which they are named.
use Rattle.std.specs.Prelude.{ℕ}
use Rattle.desk_io.specs.declared.slot.Slot.{Slot}
use Rattle.desk_io.specs.declared.slot.Slot.TheVariants.{Table, Lef, Verilog, Def, Stil, NewVerilog, NewStil, Log, OutVerilog, OutDef, OutStil, OutSvg, Console}

-- the slot's number
abbrev pub number : Slot → ℕ
number Table = 0
number Lef = 1
number Verilog = 2
number Def = 3
number Stil = 4
number NewVerilog = 5
number NewStil = 6
number Log = 7
number OutVerilog = 8
number OutDef = 9
number OutStil = 10
number OutSvg = 11
number Console = 12
