-- A call that keeps the loads and the compares of all cells does on the new chains what the old one does on the old ones.
use Rattle.std.proofs.Common.{◌≡◌, ℕ, ◌+◌, ◌<◌, ◌≤◌, List, [], ◌∷◌, length, map, Bool, true, false, cond, refl, sym, ap, ◌∙◌, arith, suc, zero, get_or, ⊎_elim, subst, eqb}
use Rattle.std.proofs.lemmas.Bool.{cases_lt, cases_eq, ne_eqb, or_parts}
use Rattle.std.proofs.lemmas.List.{ext_get_or}
use Rattle.base_types.proofs.TruthValues.{same_truth}
use Rattle.stil_types.specs.declared.statement.ScanCall.{ScanCall}
use Rattle.stil_tester.specs.declared.symbol.Symbol.{Symbol}
use Rattle.stil_tester.specs.declared.symbol.Symbol.TheVariants.{Zero, One, Unknown}
use Rattle.stil_tester.specs.declared.symbol.Expect.{Expect}
use Rattle.stil_tester.specs.declared.symbol.Expect.TheVariants.{Low, High, Any}
use Rattle.stil_tester.specs.declared.chains.ChainBits.{ChainBits}
use Rattle.stil_tester.specs.declared.chains.Chains.{Chains}
use Rattle.stil_tester.specs.Symbols.{flip, flip_if, meets, symbol_of, expect_of, differ}
use Rattle.stil_tester.specs.Shifting.{AreChains, HasCells, cell_at, IsCallFor, cells_before, met_before, scan_call, no_bits}
use Rattle.retarget.specs.Places.{parity_to, parity_after, chain_bits, bits_at, StandsAt, longest}
use Rattle.stil_types.specs.Calls.{compare_at, is_expectation, most_bits}
use Rattle.retarget.specs.Judging.{load_at, exit_of}
use Rattle.lane_kernels.specs.Kernels.{flipped}
use Rattle.retarget.specs.Retargeting.{flip_character_if, HaveSameCells, KeepsLoads, KeepsCompares}
use Rattle.stil_tester.proofs.Lengths.{length-cells_before}
use Rattle.stil_tester.proofs.OneChain.{flip-flip}
use Rattle.stil_tester.proofs.WholeCalls.{other_cell}
use Rattle.retarget.proofs.AllChains.{standing, start_of, number_at, number_within}
use Rattle.retarget.proofs.WholeCall.{loaded_is, passed_at, passed_from}

-- ---- characters

pub symbol_of-flip_character : (ch : ℕ) → symbol_of (flipped ch) ≡ flip (symbol_of ch)
symbol_of-flip_character ch =
    ⊎_elim (λ (e : ch ≡ 48). subst (λ (x : ℕ). symbol_of (flipped x) ≡ flip (symbol_of x)) (sym e) refl)
    (λ (n0 : ch ≡ 48 → ⊥). ⊎_elim (λ (e : ch ≡ 49). subst (λ (x : ℕ). symbol_of (flipped x) ≡ flip (symbol_of x)) (sym e) refl)
    (λ (n1 : ch ≡ 49 → ⊥). ⊎_elim (λ (e : ch ≡ 76). subst (λ (x : ℕ). symbol_of (flipped x) ≡ flip (symbol_of x)) (sym e) refl)
    (λ (n2 : ch ≡ 76 → ⊥). ⊎_elim (λ (e : ch ≡ 72). subst (λ (x : ℕ). symbol_of (flipped x) ≡ flip (symbol_of x)) (sym e) refl)
    (λ (n3 : ch ≡ 72 → ⊥).
    let a : eqb ch 48 ≡ false = ne_eqb ch 48 n0 in
    let b : eqb ch 49 ≡ false = ne_eqb ch 49 n1 in
    let c : eqb ch 76 ≡ false = ne_eqb ch 76 n2 in
    let d : eqb ch 72 ≡ false = ne_eqb ch 72 n3 in
    let stays : flipped ch ≡ ch = λ i. cond (a i) 49 (cond (b i) 48 (cond (c i) 72 (cond (d i) 76 ch))) in
    let none : symbol_of ch ≡ Unknown = λ i. cond (a i) Zero (cond (b i) One Unknown) in
    ap symbol_of stays ∙ none ∙ sym (ap flip none))
    (cases_eq ch 72)) (cases_eq ch 76)) (cases_eq ch 49)) (cases_eq ch 48)

abbrev pub flip_expect : Expect → Expect
flip_expect Low = High
flip_expect High = Low
flip_expect Any = Any

pub expect_of-flip_character : (ch : ℕ) → expect_of (flipped ch) ≡ flip_expect (expect_of ch)
expect_of-flip_character ch =
    ⊎_elim (λ (e : ch ≡ 48). subst (λ (x : ℕ). expect_of (flipped x) ≡ flip_expect (expect_of x)) (sym e) refl)
    (λ (n0 : ch ≡ 48 → ⊥). ⊎_elim (λ (e : ch ≡ 49). subst (λ (x : ℕ). expect_of (flipped x) ≡ flip_expect (expect_of x)) (sym e) refl)
    (λ (n1 : ch ≡ 49 → ⊥). ⊎_elim (λ (e : ch ≡ 76). subst (λ (x : ℕ). expect_of (flipped x) ≡ flip_expect (expect_of x)) (sym e) refl)
    (λ (n2 : ch ≡ 76 → ⊥). ⊎_elim (λ (e : ch ≡ 72). subst (λ (x : ℕ). expect_of (flipped x) ≡ flip_expect (expect_of x)) (sym e) refl)
    (λ (n3 : ch ≡ 72 → ⊥).
    let a : eqb ch 48 ≡ false = ne_eqb ch 48 n0 in
    let b : eqb ch 49 ≡ false = ne_eqb ch 49 n1 in
    let c : eqb ch 76 ≡ false = ne_eqb ch 76 n2 in
    let d : eqb ch 72 ≡ false = ne_eqb ch 72 n3 in
    let stays : flipped ch ≡ ch = λ i. cond (a i) 49 (cond (b i) 48 (cond (c i) 72 (cond (d i) 76 ch))) in
    let none : expect_of ch ≡ Any = λ i. cond (c i) Low (cond (d i) High Any) in
    ap expect_of stays ∙ none ∙ sym (ap flip_expect none))
    (cases_eq ch 72)) (cases_eq ch 76)) (cases_eq ch 49)) (cases_eq ch 48)

-- what is neither L nor H expects nothing
pub expect_of_quiet : (ch : ℕ) → is_expectation ch ≡ false → expect_of ch ≡ Any
expect_of_quiet ch h =
    let parts : (eqb ch 76 ≡ false) × (eqb ch 72 ≡ false) = or_parts (eqb ch 76) (eqb ch 72) h in
    λ i. cond (parts.0 i) Low (cond (parts.1 i) High Any)

-- a flipped character behind other parities gives the same value
pub same_value : (p q : Bool) (ch : ℕ) → flip_if q (symbol_of (flip_character_if (differ p q) ch)) ≡ flip_if p (symbol_of ch)
same_value true true ch = refl
same_value true false ch = symbol_of-flip_character ch
same_value false true ch = ap flip (symbol_of-flip_character ch) ∙ flip-flip (symbol_of ch)
same_value false false ch = refl

meets-flip : (e : Expect) (x : Symbol) → meets (flip_expect e) (flip x) ≡ meets e x
meets-flip Low Zero = refl
meets-flip Low One = refl
meets-flip Low Unknown = refl
meets-flip High Zero = refl
meets-flip High One = refl
meets-flip High Unknown = refl
meets-flip Any x = refl

meets-flip_right : (e : Expect) (x : Symbol) → meets (flip_expect e) x ≡ meets e (flip x)
meets-flip_right e x = ap (meets (flip_expect e)) (sym (flip-flip x)) ∙ meets-flip e (flip x)

-- and a flipped expectation is met by the same cells
pub same_comparison : (p q : Bool) (ch : ℕ) (x : Symbol) → meets (expect_of (flip_character_if (differ p q) ch)) (flip_if q x) ≡ meets (expect_of ch) (flip_if p x)
same_comparison true true ch x = refl
same_comparison true false ch x = ap (λ e. meets e x) (expect_of-flip_character ch) ∙ meets-flip_right (expect_of ch) x
same_comparison false true ch x = ap (λ e. meets e (flip x)) (expect_of-flip_character ch) ∙ meets-flip (expect_of ch) x
same_comparison false false ch x = refl

-- ---- lengths

pub length_within : (chains : List ChainBits) (c : ℕ) → length (get_or chains c no_bits).cells ≤ most_bits (map (λ (chain : ChainBits). length chain.cells) chains)
length_within [] c = omega arith
length_within (chain ∷ chains) zero = omega arith
length_within (chain ∷ chains) (suc c) = omega (arith, length_within chains c)

pub bits_within : (chains : Chains) (c : ℕ) → bits_at chains c ≤ longest chains
bits_within chains c = length_within chains.chains c

pub cell_within : (chains : Chains) → AreChains chains → (cell c i : ℕ) → StandsAt chains cell c i → cell < chains.cells
cell_within chains good cell c i stands =
    omega (
      arith,
      stands.is_there,
      number_at chains.chains c i stands.is_chain stands.is_place,
      good.others (start_of chains.chains c + i) 0 (number_within chains.chains c i stands.is_chain stands.is_place),
    )

-- ---- the call

pub same_loaded : (old new : Chains) (call written : ScanCall) → HaveSameCells old new → IsCallFor old call → IsCallFor new written → longest old ≤ call.shifts → longest new ≤ written.shifts → KeepsLoads old new call written
    → (cells : List Symbol) → HasCells old cells → (scan_call new cells written).loaded ≡ (scan_call old cells call).loaded
same_loaded old new call written same fits fits' long long' keeps cells room =
    let after : List Symbol = (scan_call old cells call).loaded in
    let after' : List Symbol = (scan_call new cells written).loaded in
    ext_get_or Unknown after' after (length-cells_before new cells written written.shifts ∙ sym (length-cells_before old cells call call.shifts)) (λ v l.
    ⊎_elim (λ (inside : v < old.cells).
    let here : (c : ℕ) × (i : ℕ) × StandsAt old v c i = standing old same.old_chains v inside in
    let there : (d : ℕ) × (j : ℕ) × StandsAt new v d j = standing new same.new_chains v (omega (arith, same.cells)) in
    loaded_is new cells written same.new_chains (omega (arith, same.cells)) fits' v there.0 there.1 there.2 (omega (arith, bits_within new there.0))
    ∙ ap (λ ch. flip_if (parity_to (chain_bits new there.0) there.1) (symbol_of ch)) (keeps.cells v here.0 here.1 there.0 there.1 here.2 there.2)
    ∙ same_value (parity_to (chain_bits old here.0) here.1) (parity_to (chain_bits new there.0) there.1) (load_at call here.0 here.1)
    ∙ sym (loaded_is old cells call same.old_chains room fits v here.0 here.1 here.2 (omega (arith, bits_within old here.0))))
    (λ (outside : old.cells ≤ v).
    other_cell new cells written same.new_chains v written.shifts (omega (arith, same.cells))
    ∙ sym (other_cell old cells call same.old_chains v call.shifts outside))
    (cases_lt v old.cells))

pub same_passed : (old new : Chains) (call written : ScanCall) → HaveSameCells old new → IsCallFor old call → IsCallFor new written → longest old ≤ call.shifts → longest new ≤ written.shifts → ((c k : ℕ) → c < length old.chains → bits_at old c ≤ k → expect_of (compare_at call c k) ≡ Any) → KeepsCompares old new call written
    → (cells : List Symbol) → HasCells old cells → (scan_call new cells written).passed ≡ (scan_call old cells call).passed
same_passed old new call written same fits fits' long long' quiet keeps cells room =
    same_truth (scan_call new cells written).passed (scan_call old cells call).passed
    (λ h. passed_from old cells call same.old_chains room fits quiet (λ cell c i k stands at l.
    let there : (d : ℕ) × (j : ℕ) × StandsAt new cell d j = standing new same.new_chains cell (omega (arith, same.cells, cell_within old same.old_chains cell c i stands)) in
    let e : exit_of old c i ≡ k = omega arith in
    sym (same_comparison (parity_after (chain_bits old c) i) (parity_after (chain_bits new there.0) there.1) (compare_at call c k) (cell_at cells cell))
    ∙ ap (λ m. meets (expect_of (flip_character_if (differ (parity_after (chain_bits old c) i) (parity_after (chain_bits new there.0) there.1)) (compare_at call c m))) (flip_if (parity_after (chain_bits new there.0) there.1) (cell_at cells cell))) (sym e)
    ∙ ap (λ ch. meets (expect_of ch) (flip_if (parity_after (chain_bits new there.0) there.1) (cell_at cells cell))) (sym (keeps.cells cell c i there.0 there.1 stands there.2))
    ∙ passed_at new cells written same.new_chains (omega (arith, same.cells)) fits' cell there.0 there.1 (exit_of new there.0 there.1) there.2
    (omega (arith, there.2.is_place)) (omega (arith, there.2.is_place, bits_within new there.0)) h))
    (λ h. passed_from new cells written same.new_chains (omega (arith, same.cells)) fits' (λ d k l g. ap expect_of (keeps.others d k l g)) (λ cell d j k stands at l.
    let here : (c : ℕ) × (i : ℕ) × StandsAt old cell c i = standing old same.old_chains cell (omega (arith, same.cells, cell_within new same.new_chains cell d j stands)) in
    let e : exit_of new d j ≡ k = omega arith in
    ap (λ m. meets (expect_of (compare_at written d m)) (flip_if (parity_after (chain_bits new d) j) (cell_at cells cell))) (sym e)
    ∙ ap (λ ch. meets (expect_of ch) (flip_if (parity_after (chain_bits new d) j) (cell_at cells cell))) (keeps.cells cell here.0 here.1 d j here.2 stands)
    ∙ same_comparison (parity_after (chain_bits old here.0) here.1) (parity_after (chain_bits new d) j) (compare_at call here.0 (exit_of old here.0 here.1)) (cell_at cells cell)
    ∙ passed_at old cells call same.old_chains room fits cell here.0 here.1 (exit_of old here.0 here.1) here.2
    (omega (arith, here.2.is_place)) (omega (arith, here.2.is_place, bits_within old here.0)) h))

pub same_call : (old new : Chains) (call written : ScanCall) → HaveSameCells old new → IsCallFor old call → IsCallFor new written → longest old ≤ call.shifts → longest new ≤ written.shifts → ((c k : ℕ) → c < length old.chains → bits_at old c ≤ k → expect_of (compare_at call c k) ≡ Any) → KeepsLoads old new call written → KeepsCompares old new call written
    → (cells : List Symbol) → HasCells old cells → scan_call new cells written ≡ scan_call old cells call
same_call old new call written same fits fits' long long' quiet loads compares cells room =
    λ i. record {
      loaded = same_loaded old new call written same fits fits' long long' loads cells room i;
      passed = same_passed old new call written same fits fits' long long' quiet compares cells room i;
    }

-- a call that doesn't shift changes no cell and compares nothing, whatever the chains
pub still_call : (chains : Chains) (call : ScanCall) → call.shifts ≡ 0 → (cells : List Symbol) → scan_call chains cells call ≡ record { loaded = cells; passed = true }
still_call chains call e cells = λ i. record { loaded = cells_before chains cells call (e i); passed = met_before chains cells call (e i) }
