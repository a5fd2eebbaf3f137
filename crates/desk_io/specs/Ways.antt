-- What is done with a slot: it is read, or written.
use Rattle.std.specs.Prelude.{◌<◌, ℕ, List, length}
use Rattle.desk_io.specs.declared.slot.Slot.{Slot}
use Rattle.desk_io.specs.declared.slot.Slot.TheVariants.{Table, Lef, Verilog, Def, Stil, NewVerilog, NewStil, Log, OutVerilog, OutDef, OutStil, OutSvg, Console}
use Rattle.desk_io.specs.declared.slot.Way.{Way}
use Rattle.desk_io.specs.declared.slot.Way.TheVariants.{In, Out}

-- an input with the most bytes that its file may have, or an output with its place in the order in which outputs are put
abbrev pub way_of : Slot → Way
way_of Table = In 1048576
way_of Lef = In 67108864
way_of Verilog = In 67108864
way_of Def = In 67108864
way_of Stil = In 67108864
way_of NewVerilog = In 67108864
way_of NewStil = In 67108864
way_of Log = In 67108864
way_of OutVerilog = Out 1
way_of OutDef = Out 2
way_of OutStil = Out 0
way_of OutSvg = Out 3
way_of Console = Out 4

-- the slot is read
abbrev pub IsIn : Way → Type 0
IsIn (In limit) = Unit {0}
IsIn (Out turn) = ⊥

-- the slot is written
abbrev pub IsOut : Way → Type 0
IsOut (In limit) = ⊥
IsOut (Out turn) = Unit {0}

-- the most bytes that a file read so may have
abbrev pub limit_in : Way → ℕ
limit_in (In limit) = limit
limit_in (Out turn) = 67108864

-- the place of an output in the order in which outputs are put, behind all of them for an input
abbrev pub turn_in : Way → ℕ
turn_in (In limit) = 5
turn_in (Out turn) = turn

-- an input whose file has more bytes than it may
abbrev pub IsLonger : Way → List ℕ → Type 0
IsLonger (In limit) text = limit < length text
IsLonger (Out turn) text = ⊥
