-- Where the comparison of a cell stands in the calls on other chains (IEEE 1450-1999, Shift).
use Rattle.std.specs.Prelude.{◌≡◌, ◌⊎◌, ℕ, ◌+◌, ◌-◌, Option, None, Some, slice_index_or}
use Rattle.stil_types.specs.declared.statement.ScanCall.{ScanCall}
use Rattle.stil_tester.specs.declared.chains.Chains.{Chains}
use Rattle.retarget.specs.declared.home.Home.{Home}
use Rattle.retarget.specs.Places.{chain_bits}
use Rattle.retarget.specs.Judging.{exit_of}
use Rattle.retarget.specs.Homes.{home_of}
use Rattle.fail_map.specs.declared.line.LogLine.{LogLine}
use Rattle.fail_map.specs.Fails.{IsCompared}

-- the cell that comes out at a chain's scan output in a shift
abbrev pub cell_out : Chains → ℕ → ℕ → ℕ
cell_out chains chain index = slice_index_or (chain_bits chains chain).cells (exit_of chains chain index) 0

-- where the cell that comes out of the new chains there stands in the old ones
abbrev pub old_home : Chains → Chains → ℕ → ℕ → Home
old_home old new chain index = home_of old (cell_out new chain index)

-- the line that a line of the new patterns is carried back to: the same scan call, and where the same cell comes out of the old chains
abbrev pub carried : Chains → Chains → LogLine → LogLine
carried old new line =
    let home = old_home old new (line.chain - 1) line.index in
    record { pattern = line.pattern; scan = line.scan; chain = home.chain + 1; index = home.exit }

-- a line names a comparison of a scan call by its chain, from 1, and the index of the compare
pub record IsPlaceIn (chains : Chains) (call : ScanCall) (line : LogLine) : Type 0 where
  pub chain : ℕ
  pub chain_is : line.chain ≡ chain + 1
  pub compared : IsCompared chains call chain line.index

-- the line of the old patterns, where the line names a comparison of the new call
abbrev pub IsCarried : Chains → Chains → ScanCall → LogLine → Option LogLine → Type 0
IsCarried old new call line None = ¬ IsPlaceIn new call line
IsCarried old new call line (Some mapped) = IsPlaceIn new call line × (mapped ≡ carried old new line)

-- it stays as it was where the line names no comparison of the new call, and is that line where it does
abbrev pub IsTried : Chains → Chains → ScanCall → LogLine → Option LogLine → Option LogLine → Type 0
IsTried old new call line before after = ((¬ IsPlaceIn new call line) × (after ≡ before)) ⊎ (IsPlaceIn new call line × (after ≡ Some (carried old new line)))
