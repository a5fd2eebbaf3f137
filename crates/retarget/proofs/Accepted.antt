-- What a call does that is refused for nothing.
use Rattle.std.proofs.Common.{◌≡◌, ℕ, ◌<◌, ◌≤◌, length, get_or, true, false, sym, ap, ◌∙◌, arith, ⊎_elim}
use Rattle.std.proofs.lemmas.Bool.{cases_lt, cases_Bool}
use Rattle.stil_types.specs.declared.statement.ScanCall.{ScanCall}
use Rattle.stil_tester.specs.declared.symbol.Expect.TheVariants.{Any}
use Rattle.stil_tester.specs.declared.chains.Chains.{Chains}
use Rattle.stil_tester.specs.Symbols.{flip_if, meets, expect_of}
use Rattle.std.proofs.lemmas.List.{get_or-map}
use Rattle.stil_tester.specs.declared.chains.ChainBits.{ChainBits}
use Rattle.stil_tester.specs.Shifting.{AreChains, bit_counts, cell_at, IsCallFor, no_bits}
use Rattle.stil_tester.proofs.Calls.{length-bit_counts}
use Rattle.retarget.specs.Places.{parity_after, chain_bits, bits_at, longest}
use Rattle.stil_types.specs.Calls.{compare_at, is_expectation}
use Rattle.retarget.specs.Judging.{exit_of, IsShortLoad, IsLongCompare, IsAccepted, LoadsCells, ComparesCells}
use Rattle.retarget.proofs.WholeCall.{loaded_is, passed_at, passed_from}
use Rattle.retarget.proofs.SameMeaning.{bits_within, expect_of_quiet}

-- an accepted call that shifts reaches every cell
pub long_enough : (chains : Chains) (call : ScanCall) → ¬ IsShortLoad chains call → 0 < call.shifts → longest chains ≤ call.shifts
long_enough chains call none some =
    ⊎_elim (λ (short : call.shifts < longest chains). absurd (none (record { shifts = some; short = short })))
    (λ (long : longest chains ≤ call.shifts). long)
    (cases_lt call.shifts (longest chains))

-- the bits of a chain
pub bits_are : (chains : Chains) (c : ℕ) → c < length chains.chains → get_or (bit_counts chains) c 0 ≡ bits_at chains c
bits_are chains c l = get_or-map (λ (chain : ChainBits). length chain.cells) chains.chains c no_bits 0 l

-- an L or H stands behind the bits of a chain
pub long_compare : (chains : Chains) (call : ScanCall) (c k : ℕ) → c < length chains.chains → bits_at chains c ≤ k → is_expectation (compare_at call c k) ≡ true → IsLongCompare chains call
long_compare chains call c k l g strict =
    record { chain = c; index = k; is_chain = omega (arith, length-bit_counts chains, l); beyond = omega (arith, bits_are chains c l, g); stands = strict }

-- and expects nothing behind the bits of a chain
pub quiet_from : (chains : Chains) (call : ScanCall) → ¬ IsLongCompare chains call → (c k : ℕ) → c < length chains.chains → bits_at chains c ≤ k → expect_of (compare_at call c k) ≡ Any
quiet_from chains call none c k l g =
    ⊎_elim (λ (strict : is_expectation (compare_at call c k) ≡ true). absurd (none (long_compare chains call c k l g strict)))
    (λ (quiet : is_expectation (compare_at call c k) ≡ false). expect_of_quiet (compare_at call c k) quiet)
    (cases_Bool (is_expectation (compare_at call c k)))

pub accepted_loads : (chains : Chains) (call : ScanCall) → AreChains chains → IsCallFor chains call → IsAccepted chains call → 0 < call.shifts → LoadsCells chains call
accepted_loads chains call good fits accepted some cells room cell c i stands =
    loaded_is chains cells call good room fits cell c i stands (omega (arith, bits_within chains c, long_enough chains call accepted.not_short some))

pub accepted_compares : (chains : Chains) (call : ScanCall) → AreChains chains → IsCallFor chains call → IsAccepted chains call → 0 < call.shifts → ComparesCells chains call
accepted_compares chains call good fits accepted some cells room =
    let long : longest chains ≤ call.shifts = long_enough chains call accepted.not_short some in (
      λ passed cell c i stands.
          passed_at chains cells call good room fits cell c i (exit_of chains c i) stands (omega (arith, stands.is_place)) (omega (arith, stands.is_place, bits_within chains c)) passed,
      λ each. passed_from chains cells call good room fits (quiet_from chains call accepted.not_long)
          (λ cell c i k stands at l.
          let e : exit_of chains c i ≡ k = omega arith in
          ap (λ m. meets (expect_of (compare_at call c m)) (flip_if (parity_after (chain_bits chains c) i) (cell_at cells cell))) (sym e) ∙ each cell c i stands),
    )
