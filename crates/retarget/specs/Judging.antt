-- The characters of a scan call by the bits that they belong to, and which calls are refused (IEEE 1450-1999, Shift).
use Rattle.std.specs.Prelude.{◌≡◌, ℕ, ◌-◌, ◌↔◌, IsTrue, List, reverse, slice_index_or, Option, None, Some}
use Rattle.stil_types.specs.declared.statement.ScanCall.{ScanCall}
use Rattle.stil_types.specs.Calls.{compare_at, IsShortLoadOn, IsLongCompareOn, IsAcceptedOn}
use Rattle.stil_tester.specs.declared.chains.Chains.{Chains}
use Rattle.stil_tester.specs.declared.symbol.Symbol.{Symbol}
use Rattle.stil_tester.specs.Symbols.{flip_if, Meets, symbol_of, expect_of}
use Rattle.stil_tester.specs.Shifting.{HasCells, bit_counts, cell_at, scan_call}
use Rattle.base_types.specs.declared.kind.Kind.{Kind}
use Rattle.base_types.specs.declared.kind.Kind.TheVariants.{ShortLoad, LongCompare}
use Rattle.retarget.specs.Places.{parity_to, parity_after, chain_bits, bits_at, StandsAt}

-- the character of a load that reaches the bit at a place: as many from the end; N (78) where there is none
abbrev pub load_character : Option (List ℕ) → ℕ → ℕ
load_character None place = 78
load_character (Some text) place = slice_index_or (reverse text) place 78

-- what a call loads into the bit at a place of a chain, before any flip
abbrev pub load_at : ScanCall → ℕ → ℕ → ℕ
load_at call chain place = load_character (slice_index_or call.loads chain None) place

-- the shift in which the bit at a place comes out, where it comes out as it was before the call
abbrev pub exit_of : Chains → ℕ → ℕ → ℕ
exit_of chains chain place = bits_at chains chain - 1 - place

-- the call shifts, and too seldom to reach every cell
abbrev pub IsShortLoad : Chains → ScanCall → Type 0
IsShortLoad chains call = IsShortLoadOn (bit_counts chains) call

-- the call expects something behind the bits of a chain
abbrev pub IsLongCompare : Chains → ScanCall → Type 0
IsLongCompare chains call = IsLongCompareOn (bit_counts chains) call

-- neither holds
abbrev pub IsAccepted : Chains → ScanCall → Type 0
IsAccepted chains call = IsAcceptedOn (bit_counts chains) call

-- why a call is refused: ShortLoad comes first
abbrev pub IsRefusal : Chains → ScanCall → Kind → Type 0
IsRefusal chains call ShortLoad = IsShortLoad chains call
IsRefusal chains call LongCompare = (¬ IsShortLoad chains call) × IsLongCompare chains call
IsRefusal chains call other = ⊥

-- after the call each cell holds its own character, flipped by the parities from the scan input, whatever it held before
abbrev pub LoadsCells : Chains → ScanCall → Type 0
LoadsCells chains call =
    (cells : List Symbol) → HasCells chains cells → (cell c i : ℕ) → StandsAt chains cell c i
    → cell_at (scan_call chains cells call).loaded cell ≡ flip_if (parity_to (chain_bits chains c) i) (symbol_of (load_at call c i))

-- the call passes exactly where each cell, as it was before and flipped by the parities to the scan output, meets its own character
abbrev pub ComparesCells : Chains → ScanCall → Type 0
ComparesCells chains call =
    (cells : List Symbol) → HasCells chains cells
    → IsTrue (scan_call chains cells call).passed
    ↔ ((cell c i : ℕ) → StandsAt chains cell c i → Meets (expect_of (compare_at call c (exit_of chains c i))) (flip_if (parity_after (chain_bits chains c) i) (cell_at cells cell)))
