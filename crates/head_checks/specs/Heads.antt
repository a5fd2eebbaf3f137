-- Which declarations of a STIL head don't fit the paths of a netlist.
use Rattle.std.specs.Prelude.{◌≡◌, ℕ, Bool, true, false, not, ◌==◌, List, [], replicate, Contains, Option, Some, None, is_some}
use Rattle.std.specs.List.{flat_map, list_any, slice_get, zip}
use Rattle.std.specs.Str.{bytes_eq}
use Rattle.base_types.specs.Faults.{at_line}
use Rattle.base_types.specs.declared.fault.Fault.{Fault}
use Rattle.base_types.specs.declared.fault.FileKind.TheVariants.{Stil}
use Rattle.base_types.specs.declared.kind.Kind.TheVariants.{WrongPort, LengthDiffers, InversionDiffers, CellsDiffer}
use Rattle.netlist_core.specs.declared.netlist.Instance.{Instance}
use Rattle.netlist_core.specs.declared.netlist.Netlist.{Netlist}
use Rattle.netlist_core.specs.Netlists.{plain_of}
use Rattle.cell_table.specs.Cells.{Cells}
use Rattle.chain_trace.specs.declared.path.Path.{Path}
use Rattle.chain_trace.specs.declared.path.Step.{Step}
use Rattle.chain_trace.specs.Parities.{plus, path_parity}
use Rattle.stil_types.specs.declared.head.ScanChainDecl.{ScanChainDecl}
use Rattle.stil_types.specs.declared.head.StilHead.{StilHead}
use Rattle.traced_paths.specs.Bits.{step_bits, path_bits}
use Rattle.head_checks.specs.CellNames.{name_each}

-- a declaration and the path of its ScanOut
abbrev pub Declared : Type 0
Declared = ScanChainDecl × Path

-- the path begins at another port than the declared ScanIn
abbrev pub begins_elsewhere : Netlist → Declared → Bool
begins_elsewhere n d = not (bytes_eq (plain_of n.nets d.1.input) d.0.scan_in)

-- the path's bits aren't ScanLength
abbrev pub has_other_length : Netlist → Cells → Declared → Bool
has_other_length n cells d = not (path_bits n cells d.1 == d.0.length)

-- the declared inversion stands there and is another
abbrev pub is_other : Bool → Option Bool → Bool
is_other parity None = false
is_other parity (Some inversion) = plus inversion parity

-- ScanInversion stands there and isn't the path's parity
abbrev pub has_other_inversion : Netlist → Cells → Declared → Bool
has_other_inversion n cells d = is_other (path_parity n cells d.1.steps) d.0.inversion

-- the name of an instance
abbrev pub name_of : Option Instance → List ℕ
name_of None = []
name_of (Some placed) = placed.name

-- the instance's name for each bit of a step
abbrev pub step_names : Netlist → Cells → Step → List (List ℕ)
step_names n cells step = replicate (step_bits n cells step) (name_of (slice_get n.instances step.instance))

-- the instance's name for each bit of a path, from its input on
abbrev pub bit_names : Netlist → Cells → Path → List (List ℕ)
bit_names n cells path = flat_map (step_names n cells) path.steps

-- the list doesn't name the bits in their order; where others have one, none isn't enough
abbrev pub differ : List ℕ → Bool → List (List ℕ) → Option (List (List ℕ)) → Bool
differ outer listed bits None = listed
differ outer listed bits (Some names) = not (name_each outer bits names)

-- some declaration has ScanCells
abbrev pub are_listed : List ScanChainDecl → Bool
are_listed chains = list_any (λ c. is_some c.cells) chains

-- some chains have ScanCells and this one hasn't, or its list doesn't name the path's bits in order
abbrev pub lists_others : Netlist → Cells → Bool → Declared → Bool
lists_others n cells listed d = differ n.«module» listed (bit_names n cells d.1) d.0.cells

-- the line of a declaration
abbrev pub line_of : Declared → ℕ
line_of d = d.0.line

-- a member fails the test, on this line
pub record FailsOn {X : Type 0} (test : X → Bool) (line_of : X → ℕ) (rows : List X) (line : ℕ) : Type 0 where
  pub row : X
  pub there : Contains rows row
  pub fails : test row ≡ true
  pub is : line ≡ line_of row

-- what may be wrong with the declarations of a head beside the paths of their ScanOuts
pub data HoldsInHeads (n : Netlist) (cells : Cells) (paths : List Path) (head : StilHead) : Fault → Type 0 where
  OfPort : (line : ℕ) → FailsOn (begins_elsewhere n) line_of (zip head.chains paths) line → HoldsInHeads n cells paths head (at_line WrongPort Stil line)
  OfLength : (line : ℕ) → FailsOn (has_other_length n cells) line_of (zip head.chains paths) line → HoldsInHeads n cells paths head (at_line LengthDiffers Stil line)
  OfInversion : (line : ℕ) → FailsOn (has_other_inversion n cells) line_of (zip head.chains paths) line → HoldsInHeads n cells paths head (at_line InversionDiffers Stil line)
  OfCells : (line : ℕ) → FailsOn (lists_others n cells (are_listed head.chains)) line_of (zip head.chains paths) line → HoldsInHeads n cells paths head (at_line CellsDiffer Stil line)
