-- The bits of a path and their parities.
use Rattle.std.specs.Prelude.{◌≡◌, ℕ, ◌+◌, Bool, true, false, not, List, [], ◌∷◌, ◌++◌, Option, Some, None, IsSome}
use Rattle.std.specs.List.{flat_map}
use Rattle.netlist_core.specs.declared.netlist.Netlist.{Netlist}
use Rattle.cell_table.specs.declared.paths.ScanPath.{ScanPath}
use Rattle.cell_table.specs.declared.paths.OutPin.{OutPin}
use Rattle.cell_table.specs.Cells.{Cells}
use Rattle.chain_trace.specs.declared.path.Step.{Step}
use Rattle.chain_trace.specs.declared.path.BitId.{BitId}
use Rattle.chain_trace.specs.declared.path.PathBits.{PathBits}
use Rattle.chain_trace.specs.Paths.{scan_path_at, out_pin_at}

-- what shifts by on its way along a path: an inversion (or none), or a bit
pub data Mark : Type 0 where
  Turn : (inverted : Bool) → Mark
  Bit : (bit : BitId) → Mark

-- the bits of a scan path from the k-th on, each behind its inversion
abbrev pub bit_marks : ℕ → ℕ → ℕ → List Bool → List Mark
bit_marks instance path k [] = []
bit_marks instance path k (b ∷ bs) = Turn b ∷ Bit (record { instance = instance; path = path; index = k }) ∷ bit_marks instance path (k + 1) bs

-- a step: its scan path's bits, and the inversion of its out pin
abbrev pub entry_marks : Step → Option ScanPath → Option OutPin → List Mark
entry_marks step None out = []
entry_marks step (Some path) None = []
entry_marks step (Some path) (Some out) = bit_marks step.instance step.path 0 path.bits ++ Turn out.inverted ∷ []

-- the bits that one step brings
abbrev pub step_marks : Netlist → Cells → Step → List Mark
step_marks n cells step = entry_marks step (scan_path_at n cells step.instance step.path) (out_pin_at n cells step)

-- the bits of a path, from its input on
abbrev pub path_marks : Netlist → Cells → List Step → List Mark
path_marks n cells steps = flat_map (step_marks n cells) steps

-- the bits in order
abbrev pub bits_in : List Mark → List BitId
bits_in [] = []
bits_in (Turn inverted ∷ ms) = bits_in ms
bits_in (Bit bit ∷ ms) = bit ∷ bits_in ms

-- the sum modulo 2
abbrev pub plus : Bool → Bool → Bool
plus false b = b
plus true b = not b

-- the parity of some inversions
abbrev pub odd : List Bool → Bool
odd [] = false
odd (b ∷ bs) = plus b (odd bs)

-- the inversions on the way over a step: those before its bits, and that of its out pin
abbrev pub entry_inversions : Option ScanPath → Option OutPin → List Bool
entry_inversions None out = []
entry_inversions (Some path) None = []
entry_inversions (Some path) (Some out) = path.bits ++ out.inverted ∷ []

-- the inversions of one step: those of its bits and that of its out pin
abbrev pub step_inversions : Netlist → Cells → Step → List Bool
step_inversions n cells step = entry_inversions (scan_path_at n cells step.instance step.path) (out_pin_at n cells step)

-- whether the output shows the inverse of what the input gave
abbrev pub path_parity : Netlist → Cells → List Step → Bool
path_parity n cells steps = odd (flat_map (step_inversions n cells) steps)

-- for each bit the sum modulo 2 of the inversions since the bit before it, where so much stands before the first mark
abbrev pub parities : Bool → List Mark → List Bool
parities odd [] = []
parities odd (Turn inverted ∷ ms) = parities (plus odd inverted) ms
parities odd (Bit bit ∷ ms) = odd ∷ parities false ms

-- the sum since the last bit
abbrev pub last_parity : Bool → List Mark → Bool
last_parity odd [] = odd
last_parity odd (Turn inverted ∷ ms) = last_parity (plus odd inverted) ms
last_parity odd (Bit bit ∷ ms) = last_parity false ms

-- a path's bits with their parities, and the parity behind the last one
pub record AreBitsOf (n : Netlist) (cells : Cells) (steps : List Step) (result : PathBits) : Type 0 where
  pub bits : result.bits ≡ bits_in (path_marks n cells steps)
  pub parity : result.parity ≡ parities false (path_marks n cells steps)
  pub out_parity : result.out_parity ≡ last_parity false (path_marks n cells steps)

-- the parity of a path is the sum of its bits' parities and of that behind the last bit
abbrev pub ParityLaw : Type 0
ParityLaw = (n : Netlist) (cells : Cells) (steps : List Step) (all : PathBits) → AreBitsOf n cells steps all → path_parity n cells steps ≡ plus (odd all.parity) all.out_parity

-- the step names an entry of the table
abbrev pub NamesEntry : Netlist → Cells → Step → Type 0
NamesEntry n cells step = IsSome (out_pin_at n cells step)

-- one state of a path's bits goes on to another over some marks
pub record GoesOn (old new : PathBits) (ms : List Mark) : Type 0 where
  pub bits : new.bits ≡ old.bits ++ bits_in ms
  pub parity : (rest : List Mark) → old.parity ++ parities old.out_parity (ms ++ rest) ≡ new.parity ++ parities new.out_parity rest
  pub last : (rest : List Mark) → last_parity old.out_parity (ms ++ rest) ≡ last_parity new.out_parity rest
