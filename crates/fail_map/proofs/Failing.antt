-- A comparison of a cell isn't met exactly where the comparison of the same cell by a call that does the same isn't.
use Rattle.std.proofs.Common.{◌≡◌, ℕ, ◌+◌, ◌-◌, ◌<◌, ◌≤◌, List, length, Bool, true, false, cond, ◌||◌, ◌==◌, zero, suc, replicate, drop, refl, sym, ap, ◌∙◌, arith, get_or, ⊎_elim, Option, Some, None}
use Rattle.std.specs.Prelude.{◌↔◌}
use Rattle.std.proofs.lemmas.Bool.{cases_lt, cases_Bool, false≢true}
use Rattle.std.proofs.lemmas.List.{get_or_past, length-replicate}
use Rattle.stil_types.specs.declared.statement.ScanCall.{ScanCall}
use Rattle.stil_types.specs.Calls.{string_length, compare_character, compare_at, is_expectation}
use Rattle.stil_tester.specs.declared.symbol.Symbol.{Symbol}
use Rattle.stil_tester.specs.declared.symbol.Symbol.TheVariants.{Unknown}
use Rattle.stil_tester.specs.declared.symbol.Expect.{Expect}
use Rattle.stil_tester.specs.declared.symbol.Expect.TheVariants.{Low, High, Any}
use Rattle.stil_tester.specs.declared.chains.ChainBits.{ChainBits}
use Rattle.stil_tester.specs.declared.chains.Chains.{Chains}
use Rattle.stil_tester.specs.Symbols.{flip_if, meets, expect_of, padded_load, padded_compare, differ, parity_of}
use Rattle.stil_tester.specs.Shifting.{AreChains, HasCells, IsChain, IsCallFor, cell_at, outputs_at}
use Rattle.stil_tester.proofs.ChainCalls.{coming_out-held, get_or-padded_compare, length-padded_load}
use Rattle.stil_tester.proofs.WholeCalls.{output-is}
use Rattle.retarget.specs.declared.home.Home.{Home}
use Rattle.retarget.specs.Places.{parity_after, chain_bits, bits_at, StandsAt}
use Rattle.retarget.specs.Homes.{home_of}
use Rattle.retarget.specs.Judging.{exit_of, IsAccepted}
use Rattle.retarget.specs.Retargeting.{HaveSameCells}
use Rattle.retarget.proofs.AllChains.{chain_is}
use Rattle.retarget.proofs.WholeCall.{string_within}
use Rattle.retarget.proofs.SameMeaning.{bits_within, cell_within, expect_of_quiet}
use Rattle.retarget.proofs.Accepted.{long_enough, long_compare}
use Rattle.retarget.proofs.Placed.{home_where}
use Rattle.scan_verify.specs.Sameness.{expected_by}
use Rattle.scan_verify.proofs.Same.{AreAccepted, meets-flip_expect_if, shown_cells, at_same, differs_at, other_differs_at}
use Rattle.fail_map.specs.Fails.{Fails, IsCompared}
use Rattle.fail_map.specs.Blocks.{AreSameCalls}

-- ---- where something is expected

expects_within : (string : Option (List ℕ)) (k : ℕ) → is_expectation (compare_character string k) ≡ true → k < string_length string
expects_within None k h = absurd (false≢true h)
expects_within (Some text) k h =
    ⊎_elim (λ (l : k < length text). l)
    (λ (g : length text ≤ k). absurd (false≢true (sym (ap is_expectation (get_or_past text k 88 g)) ∙ h)))
    (cases_lt k (length text))

-- an L or H stands below the shifts of its call
pub expects_in_call : (chains : Chains) (call : ScanCall) → IsCallFor chains call → (c k : ℕ) → is_expectation (compare_at call c k) ≡ true → k < call.shifts
expects_in_call chains call fits c k h = omega (arith, expects_within (get_or call.compares c None) k h, string_within call.compares c, fits.shifts)

-- and below the bits of its chain
pub expects_in_chain : (chains : Chains) (call : ScanCall) → IsAccepted chains call → (c k : ℕ) → c < length chains.chains → is_expectation (compare_at call c k) ≡ true → k < bits_at chains c
expects_in_chain chains call accepted c k l h =
    ⊎_elim (λ (m : k < bits_at chains c). m) (λ (g : bits_at chains c ≤ k). absurd (accepted.not_long (long_compare chains call c k l g h))) (cases_lt k (bits_at chains c))

-- what isn't met is an L or H
pub unmet_expects : (chains : Chains) (cells : List Symbol) (call : ScanCall) (c k : ℕ) → Fails chains cells call c k → is_expectation (compare_at call c k) ≡ true
unmet_expects chains cells call c k fails =
    ⊎_elim (λ (strict : is_expectation (compare_at call c k) ≡ true). strict)
    (λ (quiet : is_expectation (compare_at call c k) ≡ false).
    let none : expect_of (compare_at call c k) ≡ Any = expect_of_quiet (compare_at call c k) quiet in
    let met : meets (get_or (padded_compare call.shifts (get_or call.compares c None)) k Any) (get_or (outputs_at chains cells call k) c Unknown) ≡ true
    = ap (λ e. meets e (get_or (outputs_at chains cells call k) c Unknown)) (get_or-padded_compare call.shifts (get_or call.compares c None) k ∙ none) in
    absurd (false≢true (sym fails.unmet ∙ met)))
    (cases_Bool (is_expectation (compare_at call c k)))

-- so it is compared
pub fail_compared : (chains : Chains) (cells : List Symbol) (call : ScanCall) (c k : ℕ) → Fails chains cells call c k → IsCompared chains call c k
fail_compared chains cells call c k fails = record { is_chain = fails.is_chain; expects = unmet_expects chains cells call c k fails }

-- ---- one comparison

-- what comes out in the shift of a place: its cell, as it was before the call
comes_out : (chains : Chains) (cells : List Symbol) (call : ScanCall) → AreChains chains → HasCells chains cells → IsCallFor chains call → (v c i k : ℕ) → StandsAt chains v c i → k + i + 1 ≡ bits_at chains c → k ≤ call.shifts
    → get_or (outputs_at chains cells call k) c Unknown ≡ flip_if (parity_after (chain_bits chains c) i) (cell_at cells v)
comes_out chains cells call good room fits v c i k stands at long =
    let chain : ChainBits = chain_bits chains c in
    let load : List Symbol = padded_load call.shifts (get_or call.loads c None) in
    let sound : IsChain chain = chain_is chains good c stands.is_chain in
    let n : length load ≡ call.shifts = length-padded_load call.shifts (get_or call.loads c None) (omega (arith, string_within call.loads c, fits.shifts)) in
    let behind : length chain.parity - k ≡ i + 1 = omega (arith, sound.parities) in
    let place : length chain.cells - 1 - k ≡ i = omega arith in
    output-is chains cells call good room fits k c long stands.is_chain
    ∙ coming_out-held chain cells load k sound (omega arith) (omega (arith, n))
    ∙ (λ j. flip_if (differ (parity_of (drop (behind j) chain.parity)) chain.out_parity) (cell_at cells (get_or chain.cells (place j) 0)))
    ∙ ap (λ w. flip_if (parity_after chain i) (cell_at cells w)) stands.is_there

-- a comparison is that of the cell that comes out
pub comparison_is : (chains : Chains) (cells : List Symbol) (call : ScanCall) → AreChains chains → HasCells chains cells → IsCallFor chains call → (v c i : ℕ) → StandsAt chains v c i → exit_of chains c i < call.shifts
    → meets (get_or (padded_compare call.shifts (get_or call.compares c None)) (exit_of chains c i) Any) (get_or (outputs_at chains cells call (exit_of chains c i)) c Unknown) ≡ meets (expected_by call (home_of chains v)) (cell_at cells v)
comparison_is chains cells call good room fits v c i stands long =
    (λ k. meets (get_or-padded_compare call.shifts (get_or call.compares c None) (exit_of chains c i) k)
    (comes_out chains cells call good room fits v c i (exit_of chains c i) stands (omega (arith, stands.is_place)) (omega arith) k))
    ∙ sym (meets-flip_expect_if (parity_after (chain_bits chains c) i) (expect_of (compare_at call c (exit_of chains c i))) (cell_at cells v))
    ∙ ap (λ (h : Home). meets (expected_by call h) (cell_at cells v)) (sym (home_where chains v c i good stands))

-- what holds Unknown meets no L and no H
flip_unknown : (p : Bool) → flip_if p Unknown ≡ Unknown
flip_unknown true = refl
flip_unknown false = refl

unknown_unmet : (p q : Bool) → (p || q) ≡ true → meets (cond p Low (cond q High Any)) Unknown ≡ false
unknown_unmet true q h = refl
unknown_unmet false true h = refl
unknown_unmet false false h = absurd (false≢true h)

unknown_cell : (n v : ℕ) → cell_at (replicate n Unknown) v ≡ Unknown
unknown_cell zero v = refl
unknown_cell (suc n) zero = refl
unknown_cell (suc n) (suc v) = unknown_cell n v

-- so where nothing is known, each L and H isn't met
unknown_fails : (chains : Chains) (call : ScanCall) → AreChains chains → IsCallFor chains call → (v c i : ℕ) → StandsAt chains v c i → IsCompared chains call c (exit_of chains c i) → Fails chains (replicate chains.cells Unknown) call c (exit_of chains c i)
unknown_fails chains call good fits v c i here compared =
    let k : ℕ = exit_of chains c i in
    let qs : List Symbol = replicate chains.cells Unknown in
    let room : HasCells chains qs = omega (arith, length-replicate chains.cells Unknown) in
    let within : k < call.shifts = expects_in_call chains call fits c k compared.expects in
    record {
      is_chain = here.is_chain;
      is_shift = within;
      unmet = (λ j. meets (get_or-padded_compare call.shifts (get_or call.compares c None) k j) (comes_out chains qs call good room fits v c i k here (omega (arith, here.is_place)) (omega (arith, within)) j))
          ∙ ap (λ x. meets (expect_of (compare_at call c k)) (flip_if (parity_after (chain_bits chains c) i) x)) (unknown_cell chains.cells v)
          ∙ ap (meets (expect_of (compare_at call c k))) (flip_unknown (parity_after (chain_bits chains c) i))
          ∙ unknown_unmet (compare_at call c k == 76) (compare_at call c k == 72) compared.expects;
    }

-- ---- the same comparison

pub accepted_both : (old new : Chains) (a b : ScanCall) → AreSameCalls old new a b → AreAccepted old new a b
accepted_both old new a b same = record { old_call = same.old_call; old_accepted = same.old_accepted; new_call = same.new_call; new_accepted = same.new_accepted }

-- both calls shift, or neither does
shifts_too : (old new : Chains) (a b : ScanCall) → HaveSameCells old new → AreSameCalls old new a b → (v c i : ℕ) → StandsAt old v c i → 0 < a.shifts → 0 < b.shifts
shifts_too old new a b cells same v c i here some =
    ⊎_elim (λ (l : 0 < b.shifts). l)
    (λ (g : b.shifts ≤ 0).
    let none : b.shifts ≡ 0 = omega arith in
    absurd (other_differs_at old new a b v some none (shown_cells old new a b cells (accepted_both old new a b same) same.same v (cell_within old cells.old_chains v c i here))))
    (cases_lt 0 b.shifts)

shifts_back : (old new : Chains) (a b : ScanCall) → HaveSameCells old new → AreSameCalls old new a b → (v c i : ℕ) → StandsAt old v c i → 0 < b.shifts → 0 < a.shifts
shifts_back old new a b cells same v c i here some =
    ⊎_elim (λ (l : 0 < a.shifts). l)
    (λ (g : a.shifts ≤ 0).
    let none : a.shifts ≡ 0 = omega arith in
    absurd (differs_at old new a b v none some (shown_cells old new a b cells (accepted_both old new a b same) same.same v (cell_within old cells.old_chains v c i here))))
    (cases_lt 0 a.shifts)

-- each cell comes out in a call that shifts
comes_within : (chains : Chains) (call : ScanCall) → IsAccepted chains call → 0 < call.shifts → (v c i : ℕ) → StandsAt chains v c i → exit_of chains c i < call.shifts
comes_within chains call accepted some v c i here = omega (arith, here.is_place, bits_within chains c, long_enough chains call accepted.not_short some)

module _ (old new : Chains) (a b : ScanCall) (cells : HaveSameCells old new) (same : AreSameCalls old new a b) where
  -- both expect the same of a cell
  expected_alike : (v c i : ℕ) → StandsAt old v c i → 0 < a.shifts → 0 < b.shifts → expected_by a (home_of old v) ≡ expected_by b (home_of new v)
  expected_alike v c i here m n =
      (at_same old new a b v m n (shown_cells old new a b cells (accepted_both old new a b same) same.same v (cell_within old cells.old_chains v c i here))).1

  -- both comparisons of a cell are met, or neither is
  met_alike : (qs : List Symbol) → HasCells old qs → (v c i d j : ℕ) → StandsAt old v c i → StandsAt new v d j → 0 < a.shifts → 0 < b.shifts
      → meets (get_or (padded_compare a.shifts (get_or a.compares c None)) (exit_of old c i) Any) (get_or (outputs_at old qs a (exit_of old c i)) c Unknown)
      ≡ meets (get_or (padded_compare b.shifts (get_or b.compares d None)) (exit_of new d j) Any) (get_or (outputs_at new qs b (exit_of new d j)) d Unknown)
  met_alike qs room v c i d j here there m n =
      comparison_is old qs a cells.old_chains room same.old_call v c i here (comes_within old a same.old_accepted m v c i here)
      ∙ ap (λ (e : Expect). meets e (cell_at qs v)) (expected_alike v c i here m n)
      ∙ sym (comparison_is new qs b cells.new_chains (omega (arith, room, cells.cells)) same.new_call v d j there (comes_within new b same.new_accepted n v d j there))

  pub fails_alike : (qs : List Symbol) → HasCells old qs → (v c i d j : ℕ) → StandsAt old v c i → StandsAt new v d j → Fails old qs a c (exit_of old c i) ↔ Fails new qs b d (exit_of new d j)
  fails_alike qs room v c i d j here there = (
    λ f.
        let m : 0 < a.shifts = omega (arith, f.is_shift) in
        let n : 0 < b.shifts = shifts_too old new a b cells same v c i here m in
        record { is_chain = there.is_chain; is_shift = comes_within new b same.new_accepted n v d j there; unmet = sym (met_alike qs room v c i d j here there m n) ∙ f.unmet },
    λ f.
        let n : 0 < b.shifts = omega (arith, f.is_shift) in
        let m : 0 < a.shifts = shifts_back old new a b cells same v c i here n in
        record { is_chain = here.is_chain; is_shift = comes_within old a same.old_accepted m v c i here; unmet = met_alike qs room v c i d j here there m n ∙ f.unmet },
  )

  -- where the one call compares a cell, the other does
  pub compared_alike : (v c i d j : ℕ) → StandsAt old v c i → StandsAt new v d j → IsCompared new b d (exit_of new d j) → IsCompared old a c (exit_of old c i)
  compared_alike v c i d j here there compared =
      let qs : List Symbol = replicate new.cells Unknown in
      let room : HasCells old qs = omega (arith, length-replicate new.cells Unknown, cells.cells) in
      fail_compared old qs a c (exit_of old c i) ((fails_alike qs room v c i d j here there).1 (unknown_fails new b cells.new_chains same.new_call v d j there compared))
