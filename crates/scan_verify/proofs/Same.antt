-- Two calls show the same exactly where they do the same to each cell.
use Rattle.std.proofs.Common.{◌≡◌, ◌≢◌, ℕ, ◌<◌, ◌≤◌, List, [], ◌∷◌, length, map, Bool, true, false, cond, refl, sym, ap, ◌∙◌, arith, get_or, ⊎_elim, inl, inr, ◌⊎◌, eq-eqb, Option, Some, None, replicate}
use Rattle.std.specs.Prelude.{◌↔◌, MatchOption, not}
use Rattle.std.specs.List.{range_with_len}
use Rattle.std.specs.Option.{is_some, unwrap_or}
use Rattle.std.proofs.lemmas.Bool.{cases_lt, false≢true, ne_eqb}
use Rattle.std.proofs.lemmas.List.{ext_get_or, get_or-replicate, length-replicate}
use Rattle.std.proofs.lemmas.List.FromFn.{get_or-map-range_with_len, length-map-range_with_len}
use Rattle.base_types.proofs.TruthValues.{same_truth}
use Rattle.stil_types.specs.declared.statement.ScanCall.{ScanCall}
use Rattle.stil_types.specs.Calls.{longest_string, compare_at}
use Rattle.stil_tester.specs.declared.symbol.Symbol.{Symbol}
use Rattle.stil_tester.specs.declared.symbol.Symbol.TheVariants.{Zero, One, Unknown}
use Rattle.stil_tester.specs.declared.symbol.Expect.{Expect}
use Rattle.stil_tester.specs.declared.symbol.Expect.TheVariants.{Low, High, Any}
use Rattle.stil_tester.specs.declared.chains.Chains.{Chains}
use Rattle.stil_tester.specs.declared.results.ScanResult.{ScanResult}
use Rattle.stil_tester.specs.Symbols.{flip, flip_if, meets, expect_of}
use Rattle.stil_tester.specs.Shifting.{AreChains, HasCells, IsCallFor, cell_at, scan_call}
use Rattle.stil_tester.specs.Meaning.{ShowSame}
use Rattle.stil_tester.proofs.Calls.{length-loads, length-compares}
use Rattle.stil_tester.proofs.Lengths.{length-scan_call}
use Rattle.stil_tester.proofs.WholeCalls.{other_cell}
use Rattle.retarget.specs.declared.home.Home.{Home}
use Rattle.retarget.specs.Places.{parity_after, chain_bits, StandsAt, chain_of, place_of}
use Rattle.retarget.specs.Homes.{home_in, home_of}
use Rattle.retarget.specs.Judging.{exit_of, IsAccepted}
use Rattle.retarget.specs.Retargeting.{HaveSameCells}
use Rattle.retarget.proofs.AllChains.{chain_is}
use Rattle.retarget.proofs.SameMeaning.{cell_within, still_call}
use Rattle.retarget.proofs.Accepted.{accepted_loads, accepted_compares}
use Rattle.retarget.proofs.Placed.{at_home, home_where}
use Rattle.scan_verify.specs.Sameness.{flip_expect, flip_expect_if, loaded_by, expected_by, effect_at, IsSameAt, AreSame, IsFirstDifference}

-- ---- expectations

meets-flip_expect : (e : Expect) (x : Symbol) → meets (flip_expect e) x ≡ meets e (flip x)
meets-flip_expect Low Zero = refl
meets-flip_expect Low One = refl
meets-flip_expect Low Unknown = refl
meets-flip_expect High Zero = refl
meets-flip_expect High One = refl
meets-flip_expect High Unknown = refl
meets-flip_expect Any x = refl

pub meets-flip_expect_if : (p : Bool) (e : Expect) (x : Symbol) → meets (flip_expect_if p e) x ≡ meets e (flip_if p x)
meets-flip_expect_if true e x = meets-flip_expect e x
meets-flip_expect_if false e x = refl

-- a symbol that meets the expectation, and Unknown where nothing is expected
abbrev pub answer : Expect → Symbol
answer Low = Zero
answer High = One
answer Any = Unknown

answer_meets : (e : Expect) → meets e (answer e) ≡ true
answer_meets Low = refl
answer_meets High = refl
answer_meets Any = refl

-- two expectations that meet each other's answers are equal
answers_tell : (e f : Expect) → meets e (answer f) ≡ true → meets f (answer e) ≡ true → e ≡ f
answers_tell Low Low h g = refl
answers_tell Low High h g = absurd (false≢true h)
answers_tell Low Any h g = absurd (false≢true h)
answers_tell High Low h g = absurd (false≢true h)
answers_tell High High h g = refl
answers_tell High Any h g = absurd (false≢true h)
answers_tell Any Low h g = absurd (false≢true g)
answers_tell Any High h g = absurd (false≢true g)
answers_tell Any Any h g = refl

-- ---- a call that shifts, by the homes

-- a call on chains that shifts and isn't refused
pub record IsShifting (chains : Chains) (call : ScanCall) : Type 0 where
  pub good : AreChains chains
  pub fits : IsCallFor chains call
  pub accepted : IsAccepted chains call
  pub shifts : 0 < call.shifts

loaded_is_by : (chains : Chains) (call : ScanCall) → IsShifting chains call → (cells : List Symbol) → HasCells chains cells → (v : ℕ) → v < chains.cells
    → cell_at (scan_call chains cells call).loaded v ≡ loaded_by call (home_of chains v)
loaded_is_by chains call is cells room v l =
    accepted_loads chains call is.good is.fits is.accepted is.shifts cells room v (chain_of chains v) (place_of chains v) (at_home chains v is.good l)

-- what is expected of the cell at a place
expected_at : (chains : Chains) (call : ScanCall) (home : Home) (c i : ℕ) (x : Symbol) → home ≡ home_in c (chain_bits chains c) i
    → meets (expected_by call home) x ≡ meets (expect_of (compare_at call c (exit_of chains c i))) (flip_if (parity_after (chain_bits chains c) i) x)
expected_at chains call home c i x e =
    ap (λ h. meets (expected_by call h) x) e
    ∙ meets-flip_expect_if (parity_after (chain_bits chains c) i) (expect_of (compare_at call c (exit_of chains c i))) x

passed_at_homes : (chains : Chains) (call : ScanCall) → IsShifting chains call → (cells : List Symbol) → HasCells chains cells
    → (scan_call chains cells call).passed ≡ true → (v : ℕ) → v < chains.cells → meets (expected_by call (home_of chains v)) (cell_at cells v) ≡ true
passed_at_homes chains call is cells room passed v l =
    expected_at chains call (home_of chains v) (chain_of chains v) (place_of chains v) (cell_at cells v) refl
    ∙ (accepted_compares chains call is.good is.fits is.accepted is.shifts cells room).0 passed v (chain_of chains v) (place_of chains v) (at_home chains v is.good l)

passed_from_homes : (chains : Chains) (call : ScanCall) → IsShifting chains call → (cells : List Symbol) → HasCells chains cells
    → ((v : ℕ) → v < chains.cells → meets (expected_by call (home_of chains v)) (cell_at cells v) ≡ true) → (scan_call chains cells call).passed ≡ true
passed_from_homes chains call is cells room each =
    (accepted_compares chains call is.good is.fits is.accepted is.shifts cells room).1 (λ v c i stands.
    sym (expected_at chains call (home_of chains v) c i (cell_at cells v) (home_where chains v c i is.good stands))
    ∙ each v (cell_within chains is.good v c i stands))

-- ---- the same to each cell: the same for all

-- two calls that shift leave the same in a cell, and expect the same of it
record HaveSameEffect (old new : Chains) (a b : ScanCall) (v : ℕ) : Type 0 where
  loads : loaded_by a (home_of old v) ≡ loaded_by b (home_of new v)
  expects : expected_by a (home_of old v) ≡ expected_by b (home_of new v)

same_shown : (old new : Chains) (a b : ScanCall) → new.cells ≡ old.cells → IsShifting old a → IsShifting new b → ((v : ℕ) → v < old.cells → HaveSameEffect old new a b v) → ShowSame old new a b
same_shown old new a b e is is' same cells room =
    let room' : HasCells new cells = omega (arith, e) in
    let loaded : (scan_call old cells a).loaded ≡ (scan_call new cells b).loaded =
    ext_get_or Unknown (scan_call old cells a).loaded (scan_call new cells b).loaded
    (length-scan_call old cells a ∙ sym (length-scan_call new cells b)) (λ v l.
    ⊎_elim (λ (inside : v < old.cells).
    loaded_is_by old a is cells room v inside
    ∙ (same v inside).loads
    ∙ sym (loaded_is_by new b is' cells room' v (omega (arith, e, inside))))
    (λ (outside : old.cells ≤ v).
    other_cell old cells a is.good v a.shifts outside
    ∙ sym (other_cell new cells b is'.good v b.shifts (omega (arith, e, outside))))
    (cases_lt v old.cells)) in
    let passed : (scan_call old cells a).passed ≡ (scan_call new cells b).passed =
    same_truth (scan_call old cells a).passed (scan_call new cells b).passed
    (λ h. passed_from_homes new b is' cells room' (λ v l.
    ap (λ x. meets x (cell_at cells v)) (sym (same v (omega (arith, e, l))).expects)
    ∙ passed_at_homes old a is cells room h v (omega (arith, e, l))))
    (λ h. passed_from_homes old a is cells room (λ v l.
    ap (λ x. meets x (cell_at cells v)) (same v l).expects
    ∙ passed_at_homes new b is' cells room' h v (omega (arith, e, l)))) in
    λ i. record { loaded = loaded i; passed = passed i }

-- ---- the same for all: the same to each cell

-- cells that meet all that a call expects
abbrev answers_to : Chains → ScanCall → List Symbol
answers_to chains call = map (λ v. answer (expected_by call (home_of chains v))) (range_with_len 0 chains.cells)

answers_to_at : (chains : Chains) (call : ScanCall) (v : ℕ) → v < chains.cells → cell_at (answers_to chains call) v ≡ answer (expected_by call (home_of chains v))
answers_to_at chains call v l = get_or-map-range_with_len (λ (w : ℕ). answer (expected_by call (home_of chains w))) 0 chains.cells v v Unknown l (omega arith)

length-answers_to : (chains : Chains) (call : ScanCall) → length (answers_to chains call) ≡ chains.cells
length-answers_to chains call = length-map-range_with_len (λ (w : ℕ). answer (expected_by call (home_of chains w))) 0 chains.cells

-- what meets all that the one call expects meets all that the other one expects
met_by_other : (old new : Chains) (a b : ScanCall) → new.cells ≡ old.cells → IsShifting old a → IsShifting new b → ShowSame old new a b
    → (v : ℕ) → v < old.cells → meets (expected_by b (home_of new v)) (answer (expected_by a (home_of old v))) ≡ true
met_by_other old new a b e is is' show v l =
    let cells : List Symbol = answers_to old a in
    let room : HasCells old cells = omega (arith, length-answers_to old a) in
    let room' : HasCells new cells = omega (arith, e, length-answers_to old a) in
    let passed : (scan_call old cells a).passed ≡ true =
    passed_from_homes old a is cells room (λ w m.
    ap (meets (expected_by a (home_of old w))) (answers_to_at old a w m)
    ∙ answer_meets (expected_by a (home_of old w))) in
    let passed' : (scan_call new cells b).passed ≡ true = sym (ap (λ (r : ScanResult). r.passed) (show cells room)) ∙ passed in
    sym (ap (meets (expected_by b (home_of new v))) (answers_to_at old a v l))
    ∙ passed_at_homes new b is' cells room' passed' v (omega (arith, e, l))

turned : (old new : Chains) (a b : ScanCall) → new.cells ≡ old.cells → ShowSame old new a b → ShowSame new old b a
turned old new a b e show cells room = sym (show cells (omega (arith, e, room)))

shown_same : (old new : Chains) (a b : ScanCall) → new.cells ≡ old.cells → IsShifting old a → IsShifting new b → ShowSame old new a b → (v : ℕ) → v < old.cells → HaveSameEffect old new a b v
shown_same old new a b e is is' show v l =
    let cells : List Symbol = answers_to old a in
    let room : HasCells old cells = omega (arith, length-answers_to old a) in
    let room' : HasCells new cells = omega (arith, e, length-answers_to old a) in
    record {
      loads = sym (loaded_is_by old a is cells room v l)
          ∙ ap (λ (r : ScanResult). cell_at r.loaded v) (show cells room)
          ∙ loaded_is_by new b is' cells room' v (omega (arith, e, l));
      expects = answers_tell (expected_by a (home_of old v)) (expected_by b (home_of new v))
          (met_by_other new old b a (sym e) is' is (turned old new a b e show) v (omega (arith, e, l)))
          (met_by_other old new a b e is is' show v l);
    }

-- ---- calls that don't shift

none_given : (strings : List (Option (List ℕ))) → length strings ≡ 0 → longest_string strings ≡ 0
none_given [] e = refl
none_given (s ∷ ss) e = absurd (omega arith)

-- a call that shifts has a cell
pub first_cell : (chains : Chains) (call : ScanCall) → AreChains chains → IsCallFor chains call → 0 < call.shifts → 0 < chains.cells
first_cell chains call good fits some =
    ⊎_elim (λ (l : 0 < length chains.chains).
    let v : ℕ = get_or (chain_bits chains 0).cells 0 0 in
    let stands : StandsAt chains v 0 0 = record { is_chain = l; is_place = (chain_is chains good 0 l).some; is_there = refl } in
    let within : v < chains.cells = cell_within chains good v 0 0 stands in
    let has : 0 < chains.cells = omega (arith, within) in
    has)
    (λ (g : length chains.chains ≤ 0).
    let loads : longest_string call.loads ≡ 0 = none_given call.loads (omega (arith, length-loads chains call fits, g)) in
    let compares : longest_string call.compares ≡ 0 = none_given call.compares (omega (arith, length-compares chains call fits, g)) in
    absurd (omega (arith, fits.shifts, loads, compares, some)))
    (cases_lt 0 (length chains.chains))

-- a call that doesn't shift leaves what was there, and one that shifts doesn't
never_same : (old new : Chains) (a b : ScanCall) → new.cells ≡ old.cells → a.shifts ≡ 0 → IsShifting new b → ShowSame old new a b → ⊥
never_same old new a b e still is show =
    let first : 0 < new.cells = first_cell new b is.good is.fits is.shifts in
    let each : (x : Symbol) → x ≡ loaded_by b (home_of new 0) = λ x.
    let cells : List Symbol = replicate new.cells x in
    let room : HasCells old cells = omega (arith, e, length-replicate new.cells x) in
    let room' : HasCells new cells = omega (arith, length-replicate new.cells x) in
    sym (get_or-replicate new.cells 0 x Unknown first)
    ∙ ap (λ (r : ScanResult). cell_at r.loaded 0) (sym (still_call old a still cells) ∙ show cells room)
    ∙ loaded_is_by new b is cells room' 0 first in
    false≢true (sym (ap (meets Low) (each Zero ∙ sym (each One))))

-- two calls that don't shift leave what was there, and pass
still_same : (old new : Chains) (a b : ScanCall) → a.shifts ≡ 0 → b.shifts ≡ 0 → ShowSame old new a b
still_same old new a b e f cells room = still_call old a e cells ∙ sym (still_call new b f cells)

-- ---- what a call does to a cell

still_effect : (chains : Chains) (call : ScanCall) (v : ℕ) → call.shifts ≡ 0 → effect_at chains call v ≡ None
still_effect chains call v e = ap (λ (b : Bool). cond b None (Some (loaded_by call (home_of chains v), expected_by call (home_of chains v)))) (eq-eqb call.shifts 0 e)

shifting_effect : (chains : Chains) (call : ScanCall) (v : ℕ) → 0 < call.shifts → effect_at chains call v ≡ Some (loaded_by call (home_of chains v), expected_by call (home_of chains v))
shifting_effect chains call v some = ap (λ (b : Bool). cond b None (Some (loaded_by call (home_of chains v), expected_by call (home_of chains v)))) (ne_eqb call.shifts 0 (λ e. omega arith))

pub still_at : (old new : Chains) (a b : ScanCall) (v : ℕ) → a.shifts ≡ 0 → b.shifts ≡ 0 → IsSameAt old new a b v
still_at old new a b v e f = still_effect old a v e ∙ sym (still_effect new b v f)

pub same_at : (old new : Chains) (a b : ScanCall) (v : ℕ) → 0 < a.shifts → 0 < b.shifts
    → (loaded_by a (home_of old v) ≡ loaded_by b (home_of new v)) × (expected_by a (home_of old v) ≡ expected_by b (home_of new v)) → IsSameAt old new a b v
same_at old new a b v m n same = shifting_effect old a v m ∙ (λ i. Some (same.0 i, same.1 i)) ∙ sym (shifting_effect new b v n)

pub at_same : (old new : Chains) (a b : ScanCall) (v : ℕ) → 0 < a.shifts → 0 < b.shifts → IsSameAt old new a b v
    → (loaded_by a (home_of old v) ≡ loaded_by b (home_of new v)) × (expected_by a (home_of old v) ≡ expected_by b (home_of new v))
at_same old new a b v m n same =
    let both : ◌≡◌ {A = Option (Symbol × Expect)} (Some (loaded_by a (home_of old v), expected_by a (home_of old v))) (Some (loaded_by b (home_of new v), expected_by b (home_of new v)))
    = sym (shifting_effect old a v m) ∙ same ∙ shifting_effect new b v n in (
      ap (λ (o : Option (Symbol × Expect)). (unwrap_or o (Unknown, Any)).0) both,
      ap (λ (o : Option (Symbol × Expect)). (unwrap_or o (Unknown, Any)).1) both,
    )

pub differs_at : (old new : Chains) (a b : ScanCall) (v : ℕ) → a.shifts ≡ 0 → 0 < b.shifts → IsSameAt old new a b v → ⊥
differs_at old new a b v e n same = false≢true (ap (λ (o : Option (Symbol × Expect)). is_some o) (sym (still_effect old a v e) ∙ same ∙ shifting_effect new b v n))

pub other_differs_at : (old new : Chains) (a b : ScanCall) (v : ℕ) → 0 < a.shifts → b.shifts ≡ 0 → IsSameAt old new a b v → ⊥
other_differs_at old new a b v m f same = false≢true (ap (λ (o : Option (Symbol × Expect)). is_some o) (sym (still_effect new b v f) ∙ sym same ∙ shifting_effect old a v m))

-- where one of two calls shifts and the other doesn't, they differ in the first cell
pub still_first : (old new : Chains) (a b : ScanCall) → HaveSameCells old new → IsCallFor new b → a.shifts ≡ 0 → 0 < b.shifts → IsFirstDifference old new a b 0
still_first old new a b same fits e n = record {
  is_cell = omega (arith, same.cells, first_cell new b same.new_chains fits n);
  differs = differs_at old new a b 0 e n;
  before = λ other l. absurd (omega arith);
}

pub other_still_first : (old new : Chains) (a b : ScanCall) → HaveSameCells old new → IsCallFor old a → 0 < a.shifts → b.shifts ≡ 0 → IsFirstDifference old new a b 0
other_still_first old new a b same fits m f = record {
  is_cell = first_cell old a same.old_chains fits m;
  differs = other_differs_at old new a b 0 m f;
  before = λ other l. absurd (omega arith);
}

-- ---- both

-- two calls on the same cells that aren't refused
pub record AreAccepted (old new : Chains) (a b : ScanCall) : Type 0 where
  pub old_call : IsCallFor old a
  pub old_accepted : IsAccepted old a
  pub new_call : IsCallFor new b
  pub new_accepted : IsAccepted new b

-- shifting or not
cases_shifts : (call : ScanCall) → (call.shifts ≡ 0) ⊎ (0 < call.shifts)
cases_shifts call =
    ⊎_elim (λ (some : 0 < call.shifts). inr some) (λ (none : call.shifts ≤ 0). let e : call.shifts ≡ 0 = omega arith in inl e) (cases_lt 0 call.shifts)

module _ (old new : Chains) (a b : ScanCall) (same : HaveSameCells old new) (calls : AreAccepted old new a b) where
  old_shifts : 0 < a.shifts → IsShifting old a
  old_shifts some = record { good = same.old_chains; fits = calls.old_call; accepted = calls.old_accepted; shifts = some }

  new_shifts : 0 < b.shifts → IsShifting new b
  new_shifts some = record { good = same.new_chains; fits = calls.new_call; accepted = calls.new_accepted; shifts = some }

  -- calls that do the same to each cell show the same
  pub cells_show : AreSame old new a b → ShowSame old new a b
  cells_show each =
      elim (cases_shifts a) [
        | inl e ↦ elim (cases_shifts b) [
          | inl f ↦ still_same old new a b e f
          | inr n ↦ absurd (differs_at old new a b 0 e n (each 0 (omega (arith, same.cells, first_cell new b same.new_chains calls.new_call n))))
        ]
        | inr m ↦ elim (cases_shifts b) [
          | inl f ↦ absurd (other_differs_at old new a b 0 m f (each 0 (first_cell old a same.old_chains calls.old_call m)))
          | inr n ↦ same_shown old new a b same.cells (old_shifts m) (new_shifts n) (λ v l. let here = at_same old new a b v m n (each v l) in record { loads = here.0; expects = here.1 })
        ]
      ]

  -- calls that show the same do the same to each cell
  pub shown_cells : ShowSame old new a b → AreSame old new a b
  shown_cells show v l =
      elim (cases_shifts a) [
        | inl e ↦ elim (cases_shifts b) [
          | inl f ↦ still_at old new a b v e f
          | inr n ↦ absurd (never_same old new a b same.cells e (new_shifts n) show)
        ]
        | inr m ↦ elim (cases_shifts b) [
          | inl f ↦ absurd (never_same new old b a (sym same.cells) f (old_shifts m) (turned old new a b same.cells show))
          | inr n ↦
              let here : HaveSameEffect old new a b v = shown_same old new a b same.cells (old_shifts m) (new_shifts n) show v l in
              same_at old new a b v m n (here.loads, here.expects)
        ]
      ]

-- no cell differs exactly where the calls show the same
pub none_where_shown : (old new : Chains) (a b : ScanCall) → HaveSameCells old new → AreAccepted old new a b → (cell : Option ℕ) (none : Bool) → not none ≡ is_some cell
    → MatchOption cell (AreSame old new a b) (IsFirstDifference old new a b) → (none ≡ true) ↔ ShowSame old new a b
none_where_shown old new a b same calls None true e each = (λ h. cells_show old new a b same calls each, λ show. refl)
none_where_shown old new a b same calls None false e each = absurd (false≢true (sym e))
none_where_shown old new a b same calls (Some v) true e first = absurd (false≢true e)
none_where_shown old new a b same calls (Some v) false e first =
    (λ h. absurd (false≢true h), λ show. absurd (first.differs (shown_cells old new a b same calls show v first.is_cell)))
