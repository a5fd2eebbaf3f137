-- When two scan calls do the same, cell by cell (IEEE 1450-1999, Shift).
use Rattle.std.specs.Prelude.{◌≡◌, ℕ, ◌<◌, ◌==◌, Bool, if◌then◌else◌, Option, None, Some}
use Rattle.stil_types.specs.declared.statement.ScanCall.{ScanCall}
use Rattle.stil_types.specs.Calls.{compare_at}
use Rattle.stil_tester.specs.declared.symbol.Symbol.{Symbol}
use Rattle.stil_tester.specs.declared.symbol.Expect.{Expect}
use Rattle.stil_tester.specs.declared.symbol.Expect.TheVariants.{Low, High, Any}
use Rattle.stil_tester.specs.declared.chains.Chains.{Chains}
use Rattle.stil_tester.specs.Symbols.{flip_if, symbol_of, expect_of}
use Rattle.retarget.specs.declared.home.Home.{Home}
use Rattle.retarget.specs.Judging.{load_at}
use Rattle.retarget.specs.Homes.{home_of}

-- Low and High are exchanged
abbrev pub flip_expect : Expect → Expect
flip_expect Low = High
flip_expect High = Low
flip_expect Any = Any

-- exchanged where the parity is 1
abbrev pub flip_expect_if : Bool → Expect → Expect
flip_expect_if parity expect = if parity then flip_expect expect else expect

-- what a call that shifts leaves in a cell that stands there
abbrev pub loaded_by : ScanCall → Home → Symbol
loaded_by call home = flip_if home.load (symbol_of (load_at call home.chain home.place))

-- what it expects of the cell as it was before
abbrev pub expected_by : ScanCall → Home → Expect
expected_by call home = flip_expect_if home.compare (expect_of (compare_at call home.chain home.exit))

-- what an accepted call does to a cell: nothing where it doesn't shift, else what it leaves in the cell and what it expects of it
abbrev pub effect_at : Chains → ScanCall → ℕ → Option (Symbol × Expect)
effect_at chains call cell = if call.shifts == 0 then None else Some (loaded_by call (home_of chains cell), expected_by call (home_of chains cell))

-- two calls do the same to a cell
abbrev pub IsSameAt : Chains → Chains → ScanCall → ScanCall → ℕ → Type 0
IsSameAt old new a b cell = effect_at old a cell ≡ effect_at new b cell

-- and so they do to each cell
abbrev pub AreSame : Chains → Chains → ScanCall → ScanCall → Type 0
AreSame old new a b = (cell : ℕ) → cell < old.cells → IsSameAt old new a b cell

-- the first cell to which they don't
pub record IsFirstDifference (old new : Chains) (a b : ScanCall) (cell : ℕ) : Type 0 where
  pub is_cell : cell < old.cells
  pub differs : ¬ IsSameAt old new a b cell
  pub before : (other : ℕ) → other < cell → IsSameAt old new a b other
