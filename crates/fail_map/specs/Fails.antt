-- Which comparisons of a scan call aren't met (IEEE 1450-1999, Shift).
use Rattle.std.specs.Prelude.{◌≡◌, ℕ, ◌<◌, false, IsTrue, List, length, slice_index_or, None}
use Rattle.stil_types.specs.declared.statement.ScanCall.{ScanCall}
use Rattle.stil_types.specs.Calls.{compare_at, is_expectation}
use Rattle.stil_tester.specs.declared.symbol.Symbol.{Symbol}
use Rattle.stil_tester.specs.declared.symbol.Symbol.TheVariants.{Unknown}
use Rattle.stil_tester.specs.declared.symbol.Expect.TheVariants.{Any}
use Rattle.stil_tester.specs.declared.chains.Chains.{Chains}
use Rattle.stil_tester.specs.Symbols.{meets, padded_compare}
use Rattle.stil_tester.specs.Shifting.{outputs_at}

-- in a shift of a call, from these cells, a chain's scan output isn't as expected
pub record Fails (chains : Chains) (cells : List Symbol) (call : ScanCall) (chain index : ℕ) : Type 0 where
  pub is_chain : chain < length chains.chains
  pub is_shift : index < call.shifts
  pub unmet : meets (slice_index_or (padded_compare call.shifts (slice_index_or call.compares chain None)) index Any) (slice_index_or (outputs_at chains cells call index) chain Unknown) ≡ false

-- a call compares a chain's scan output in a shift: L or H is expected there
pub record IsCompared (chains : Chains) (call : ScanCall) (chain index : ℕ) : Type 0 where
  pub is_chain : chain < length chains.chains
  pub expects : IsTrue (is_expectation (compare_at call chain index))
