-- The first of the faults that hold of some input, for every command: the one with the least number, of these the one in the
-- file that is taken first, and of these the one at the least spot.
use Rattle.std.specs.Prelude.{◌≡◌, ℕ, List, [], ◌∷◌, Result, Ok, Err}
use Rattle.std.specs.Ordering.{nat_cmp}
use Rattle.std.specs.declared.cmp.Ordering.TheVariants.{Less}
use Rattle.std.specs.Cmp.Lexicographic.{slice_cmp}
use Rattle.base_types.specs.declared.fault.Fault.{Fault}
use Rattle.base_types.specs.declared.fault.FileKind.{FileKind}
use Rattle.base_types.specs.declared.fault.FileKind.TheVariants.{Table, Lef, Verilog, Def, Stil, NewVerilog, NewStil, Log, Words}
use Rattle.base_types.specs.declared.fault.ReadFault.{ReadFault}
use Rattle.base_types.specs.declared.fault.ReadFault.TheVariants as read_faults
use Rattle.base_types.specs.declared.fault.Spot.{Spot}
use Rattle.base_types.specs.declared.fault.Spot.TheVariants.{Line, Cell, Nowhere}
use Rattle.base_types.specs.Faults.{number_of}

-- the order in which the files are taken
abbrev pub file_number : FileKind → ℕ
file_number Table = 0
file_number Lef = 1
file_number Verilog = 2
file_number Def = 3
file_number Stil = 4
file_number NewVerilog = 5
file_number NewStil = 6
file_number Log = 7
file_number Words = 8

-- lines by their numbers, cells by the bytes of their names
abbrev pub spot_key : Spot → List ℕ
spot_key Nowhere = 0 ∷ []
spot_key (Line line) = 1 ∷ line ∷ []
spot_key (Cell name) = 2 ∷ name

-- what faults are compared by, number by number
abbrev pub fault_key : Fault → List ℕ
fault_key f = number_of f.kind ∷ file_number f.file ∷ spot_key f.spot

-- one fault comes before another
abbrev pub ComesBefore : Fault → Fault → Type 0
ComesBefore f g = slice_cmp nat_cmp (fault_key f) (fault_key g) ≡ Less

-- the fault holds, and none that holds comes before it
pub record IsFirstFault (Holds : Fault → Type 0) (f : Fault) : Type 0 where
  pub holds : Holds f
  pub least : (g : Fault) → Holds g → ComesBefore g f → ⊥

-- of two faults one comes before the other, or they are the same: so there is at most one first fault
abbrev pub FaultLaw : Type 0
FaultLaw = (f g : Fault) → (ComesBefore f g → ⊥) → (ComesBefore g f → ⊥) → f ≡ g

-- a call answers what is defined, unless memory ran out
abbrev pub Answers : {X : Type 0} → Result X ReadFault → Result X Fault → Type 0
Answers (Ok x) read = read ≡ Ok x
Answers (Err (read_faults.Fault f)) read = read ≡ Err f
Answers (Err read_faults.NoMemory) read = Unit {0}

-- where a call answers a fault, this holds of it
abbrev pub IfFault : {X : Type 0} → Result X ReadFault → (Fault → Type 0) → Type 0
IfFault (Ok x) P = Unit {0}
IfFault (Err (read_faults.Fault f)) P = P f
IfFault (Err read_faults.NoMemory) P = Unit {0}
