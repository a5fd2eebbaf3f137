-- A whole scan call: which character each cell takes, and which cell each character of a compare is held against.
use Rattle.std.proofs.Common.{◌≡◌, ℕ, ◌+◌, ◌-◌, ◌<◌, ◌≤◌, List, [], ◌∷◌, length, take, drop, reverse, true, refl, sym, ap, ◌∙◌, arith, suc, zero, get_or, ⊎_elim, Option, Some, None, add-one}
use Rattle.std.proofs.lemmas.Bool.{cases_lt}
use Rattle.std.proofs.lemmas.List.{get_or-map, length-map, take_all}
use Rattle.std.proofs.lemmas.Option.{slice_get-get_or}
use Rattle.stil_types.specs.declared.statement.ScanCall.{ScanCall}
use Rattle.stil_types.specs.Calls.{string_length, longest_string, compare_at}
use Rattle.stil_tester.specs.declared.symbol.Symbol.{Symbol}
use Rattle.stil_tester.specs.declared.symbol.Symbol.TheVariants.{Unknown}
use Rattle.stil_tester.specs.declared.symbol.Expect.TheVariants.{Any}
use Rattle.stil_tester.specs.declared.chains.ChainBits.{ChainBits}
use Rattle.stil_tester.specs.declared.chains.Chains.{Chains}
use Rattle.stil_tester.specs.ChainCalls.{moved_all}
use Rattle.stil_tester.specs.Symbols.{flip_if, meets, symbol_of, expect_of, padded_load, differ, parity_of, text_of}
use Rattle.stil_tester.specs.Shifting.{AreChains, HasCells, IsChain, cell_at, held_by, IsCallFor, cells_before, outputs_at, scan_call, no_bits}
use Rattle.stil_tester.proofs.ChainCalls.{coming_out-held, get_or-padded_compare, get_or-padded_load, length-padded_load}
use Rattle.stil_tester.proofs.OneChain.{loaded_bit}
use Rattle.stil_tester.proofs.ShiftLaws.{passes_where_met}
use Rattle.stil_tester.proofs.WholeCalls.{held_before, output-is}
use Rattle.retarget.specs.Places.{parity_to, parity_after, chain_bits, bits_at, StandsAt}
use Rattle.retarget.specs.Judging.{load_character, load_at}
use Rattle.retarget.proofs.AllChains.{chain_is}

-- ---- the strings

pub string_within : (strings : List (Option (List ℕ))) (c : ℕ) → string_length (get_or strings c None) ≤ longest_string strings
string_within [] c = omega arith
string_within (s ∷ ss) zero = omega arith
string_within (s ∷ ss) (suc c) = omega (arith, string_within ss c)

pub load_is : (string : Option (List ℕ)) (place : ℕ) → load_character string place ≡ get_or (reverse (text_of string)) place 78
load_is None place = refl
load_is (Some text) place = refl

-- ---- the bits of each chain during the call

abbrev load_of : ScanCall → ℕ → List Symbol
load_of call c = padded_load call.shifts (get_or call.loads c None)

load_within : (chains : Chains) (call : ScanCall) → IsCallFor chains call → (c : ℕ) → string_length (get_or call.loads c None) ≤ call.shifts
load_within chains call fits c = omega (arith, string_within call.loads c, fits.shifts)

length-load_of : (chains : Chains) (call : ScanCall) → IsCallFor chains call → (c : ℕ) → length (load_of call c) ≡ call.shifts
length-load_of chains call fits c = length-padded_load call.shifts (get_or call.loads c None) (load_within chains call fits c)

-- the cell at a place holds what the chain holds there
cell_is : (chains : Chains) (cells : List Symbol) (cell c i : ℕ) → StandsAt chains cell c i → cell_at cells cell ≡ get_or (held_by (chain_bits chains c) cells) i Unknown
cell_is chains cells cell c i stands =
    ap (cell_at cells) (sym stands.is_there) ∙ sym (get_or-map (cell_at cells) (chain_bits chains c).cells i 0 Unknown stands.is_place)

-- each cell takes its character, flipped by the parities from the scan input
pub loaded_is : (chains : Chains) (cells : List Symbol) (call : ScanCall) → AreChains chains → HasCells chains cells → IsCallFor chains call → (cell c i : ℕ) → StandsAt chains cell c i → bits_at chains c ≤ call.shifts
    → cell_at (scan_call chains cells call).loaded cell ≡ flip_if (parity_to (chain_bits chains c) i) (symbol_of (load_at call c i))
loaded_is chains cells call good room fits cell c i stands long =
    let chain : ChainBits = chain_bits chains c in
    let same : length chain.parity ≡ length chain.cells = (chain_is chains good c stands.is_chain).parities in
    let n : length (load_of call c) ≡ call.shifts = length-load_of chains call fits c in
    cell_is chains (cells_before chains cells call call.shifts) cell c i stands
    ∙ ap (λ held. get_or held i Unknown)
    (held_before chains cells call good room fits c call.shifts chain (slice_get-get_or chains.chains c no_bits stands.is_chain) (omega arith)
    ∙ ap (λ ss. moved_all chain.parity ss (held_by chain cells)) (take_all call.shifts (load_of call c) (omega arith)))
    ∙ loaded_bit chain.parity (load_of call c) (held_by chain cells) i Unknown (length-map chain.cells (cell_at cells) ∙ sym same) (omega arith) (omega (arith, stands.is_place))
    ∙ ap (λ m. flip_if (parity_of (take m chain.parity)) (get_or (load_of call c) (length (load_of call c) - 1 - i) Unknown)) (sym (add-one i))
    ∙ ap (λ m. flip_if (parity_to chain i) (get_or (load_of call c) (m - 1 - i) Unknown)) n
    ∙ ap (flip_if (parity_to chain i))
    (get_or-padded_load call.shifts (get_or call.loads c None) i (load_within chains call fits c) (omega (arith, stands.is_place)) ∙ ap symbol_of (sym (load_is (get_or call.loads c None) i)))

-- ---- the outputs

-- what comes out in a shift below the chain's bits: the cell that many places before the last, as it was before the call
output_is : (chains : Chains) (cells : List Symbol) (call : ScanCall) → AreChains chains → HasCells chains cells → IsCallFor chains call → (cell c i k : ℕ) → StandsAt chains cell c i → k + i + 1 ≡ bits_at chains c → k ≤ call.shifts
    → get_or (outputs_at chains cells call k) c Unknown ≡ flip_if (parity_after (chain_bits chains c) i) (cell_at cells cell)
output_is chains cells call good room fits cell c i k stands at long =
    let chain : ChainBits = chain_bits chains c in
    let sound : IsChain chain = chain_is chains good c stands.is_chain in
    let behind : length chain.parity - k ≡ i + 1 = omega (arith, sound.parities) in
    let place : length chain.cells - 1 - k ≡ i = omega arith in
    output-is chains cells call good room fits k c long stands.is_chain
    ∙ coming_out-held chain cells (load_of call c) k sound (omega arith) (omega (arith, length-load_of chains call fits c))
    ∙ (λ j. flip_if (differ (parity_of (drop (behind j) chain.parity)) chain.out_parity) (cell_at cells (get_or chain.cells (place j) 0)))
    ∙ ap (λ v. flip_if (parity_after chain i) (cell_at cells v)) stands.is_there

-- ---- the verdict

-- each comparison below a chain's bits holds a cell against its character, flipped by the parities to the scan output
pub passed_at : (chains : Chains) (cells : List Symbol) (call : ScanCall) → AreChains chains → HasCells chains cells → IsCallFor chains call → (cell c i k : ℕ) → StandsAt chains cell c i → k + i + 1 ≡ bits_at chains c → k < call.shifts
    → (scan_call chains cells call).passed ≡ true → meets (expect_of (compare_at call c k)) (flip_if (parity_after (chain_bits chains c) i) (cell_at cells cell)) ≡ true
passed_at chains cells call good room fits cell c i k stands at long h =
    sym (λ j. meets (get_or-padded_compare call.shifts (get_or call.compares c None) k j) (output_is chains cells call good room fits cell c i k stands at (omega arith) j))
    ∙ (passes_where_met chains cells call fits).0 h k c long stands.is_chain

-- where nothing is expected beyond the chains' bits, the verdict is that of the cells
pub passed_from : (chains : Chains) (cells : List Symbol) (call : ScanCall) → AreChains chains → HasCells chains cells → IsCallFor chains call
    → ((c k : ℕ) → c < length chains.chains → bits_at chains c ≤ k → expect_of (compare_at call c k) ≡ Any)
    → ((cell c i k : ℕ) → StandsAt chains cell c i → k + i + 1 ≡ bits_at chains c → k < call.shifts → meets (expect_of (compare_at call c k)) (flip_if (parity_after (chain_bits chains c) i) (cell_at cells cell)) ≡ true)
    → (scan_call chains cells call).passed ≡ true
passed_from chains cells call good room fits quiet each =
    (passes_where_met chains cells call fits).1 (λ k c l n.
    ⊎_elim (λ (inside : k < bits_at chains c).
    let i : ℕ = bits_at chains c - 1 - k in
    let at : k + i + 1 ≡ bits_at chains c = omega arith in
    let stands : StandsAt chains (get_or (chain_bits chains c).cells i 0) c i = record { is_chain = n; is_place = omega arith; is_there = refl } in
    (λ j. meets (get_or-padded_compare call.shifts (get_or call.compares c None) k j) (output_is chains cells call good room fits (get_or (chain_bits chains c).cells i 0) c i k stands at (omega arith) j))
    ∙ each (get_or (chain_bits chains c).cells i 0) c i k stands at l)
    (λ (outside : bits_at chains c ≤ k).
    ap (λ e. meets e (get_or (outputs_at chains cells call k) c Unknown)) (get_or-padded_compare call.shifts (get_or call.compares c None) k ∙ quiet c k n outside))
    (cases_lt k (bits_at chains c)))
