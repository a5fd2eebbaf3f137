-- A whole scan call, chain by chain: it is what the shifts of all chains at once do.
use Rattle.std.proofs.Common.{◌≡◌, ℕ, ◌+◌, ◌-◌, ◌<◌, ◌≤◌, List, [], ◌∷◌, length, take, map, Bool, true, false, refl, sym, ap, ◌∙◌, arith, suc, zero, get_or, ⊎_elim, Option, Some, None, subst, cond}
use Rattle.std.specs.Prelude.{All, IsTrue, ◌↔◌, nat_eq, slice_get}
use Rattle.std.proofs.lemmas.Bool.{cases_lt, cases_eq, ne_eqb, and_parts, and_from}
use Rattle.std.proofs.lemmas.List.{get_or-map, length-map, take_all, take_more, same_lists, get_or_default, get_or_past}
use Rattle.std.proofs.lemmas.Option.{slice_get-get_or, slice_get_within, get_or_from_slice_get}
use Rattle.base_types.proofs.TruthValues.{same_truth}
use Rattle.stil_types.specs.declared.statement.ScanCall.{ScanCall}
use Rattle.stil_types.specs.Calls.{string_length, longest_string}
use Rattle.stil_tester.specs.declared.symbol.Symbol.{Symbol}
use Rattle.stil_tester.specs.declared.symbol.Symbol.TheVariants.{Unknown}
use Rattle.stil_tester.specs.declared.symbol.Expect.TheVariants.{Any}
use Rattle.stil_tester.specs.declared.chains.ChainBits.{ChainBits}
use Rattle.stil_tester.specs.declared.chains.Chains.{Chains}
use Rattle.stil_tester.specs.Symbols.{expect_of, flip_if, meets, padded_load, padded_compare}
use Rattle.stil_tester.specs.Shifting.{AllMet, AreChains, HasCells, IsCallFor, all_moved_on, cell_at, cells_before, held_by, inputs_at, moved_on, numbers_of, output_of, outputs_at, scan_call, with_symbols, no_bits}
use Rattle.stil_tester.specs.ChainCalls.{after_chain, after_each, all_below, coming_out, met_at, met_on, moved_all}
use Rattle.stil_tester.proofs.Calls.{length-loads, length-compares}
use Rattle.stil_tester.proofs.ChainCalls.{get_or-padded_compare, length-moved_all, length-padded_load}
use Rattle.stil_tester.proofs.OneChain.{moved_all-push}
use Rattle.stil_tester.proofs.Lengths.{length-cells_before, length-with_symbols}
use Rattle.stil_tester.proofs.ShiftLaws.{held-shift_step, held-written, passes_where_met}
use Rattle.stil_tester.proofs.Shifts.{AreApart, HaveParities, count_of, count_of-append, count_of-cons, held-with_symbols}
use Rattle.stil_tester.proofs.Strings.{string_length-longest}
use Rattle.stil_tester.proofs.WellFormed.{All-left, All-right, apart_of, count_of-chain, count_of-none, once_of, parities_of}

-- ---- where a number stands

abbrev one_if : Bool → ℕ
one_if b = cond b 1 0

-- a number that is counted stands somewhere
pub found : (v : ℕ) (ns : List ℕ) → 0 < count_of v ns → (i : ℕ) × (i < length ns) × (get_or ns i 0 ≡ v)
found v [] h = absurd (omega arith)
found v (n ∷ ns) h =
    ⊎_elim (λ (e : v ≡ n). (0, omega arith, sym e))
    (λ (ne : v ≡ n → ⊥).
    let other : one_if (nat_eq v n) ≡ 0 = ap one_if (ne_eqb v n ne) in
    let rest : (i : ℕ) × (i < length ns) × (get_or ns i 0 ≡ v) = found v ns (omega (arith, count_of-cons v n ns, other)) in
    (suc rest.0, omega (arith, rest.1), rest.2))
    (cases_eq v n)

-- a number that is counted stands at some place of some chain
pub found_in : (v : ℕ) (chains : List ChainBits) → 0 < count_of v (numbers_of chains)
    → (c : ℕ) × (i : ℕ) × (c < length chains) × (i < length (get_or chains c no_bits).cells) × (get_or (get_or chains c no_bits).cells i 0 ≡ v)
found_in v [] h = absurd (omega arith)
found_in v (chain ∷ chains) h =
    ⊎_elim (λ (here : 0 < count_of v chain.cells).
    let at : (i : ℕ) × (i < length chain.cells) × (get_or chain.cells i 0 ≡ v) = found v chain.cells here in
    (0, at.0, omega arith, at.1, at.2))
    (λ (none : count_of v chain.cells ≤ 0).
    let rest : (c : ℕ) × (i : ℕ) × (c < length chains) × (i < length (get_or chains c no_bits).cells) × (get_or (get_or chains c no_bits).cells i 0 ≡ v) = found_in v chains (omega (arith, count_of-append v chain.cells (numbers_of chains))) in
    (suc rest.0, rest.1, omega (arith, rest.2), rest.3, rest.4))
    (cases_lt 0 (count_of v chain.cells))

-- ---- the cells after each chain's shifts

length-after_each : (chains : List ChainBits) (shifts : ℕ) (loads : List (Option (List ℕ))) (cells : List Symbol) → length (after_each chains shifts loads cells) ≡ length cells
length-after_each [] shifts loads cells = refl
length-after_each (chain ∷ chains) shifts [] cells = refl
length-after_each (chain ∷ chains) shifts (load ∷ loads) cells =
    length-after_each chains shifts loads (after_chain chain shifts load cells)
    ∙ length-with_symbols chain.cells (moved_all chain.parity (padded_load shifts load) (held_by chain cells)) cells

-- cells that stand in none of the chains stay
held-elsewhere : (chains : List ChainBits) (shifts : ℕ) (loads : List (Option (List ℕ))) (ms : List ℕ) (cells : List Symbol) → AreApart (numbers_of chains) ms
    → map (cell_at (after_each chains shifts loads cells)) ms ≡ map (cell_at cells) ms
held-elsewhere [] shifts loads ms cells h = refl
held-elsewhere (chain ∷ chains) shifts [] ms cells h = refl
held-elsewhere (chain ∷ chains) shifts (load ∷ loads) ms cells h =
    let first : AreApart chain.cells ms = record { once = λ n. omega (arith, h.once n, count_of-append n chain.cells (numbers_of chains)) } in
    let rest : AreApart (numbers_of chains) ms = record { once = λ n. omega (arith, h.once n, count_of-append n chain.cells (numbers_of chains)) } in
    held-elsewhere chains shifts loads ms (after_chain chain shifts load cells) rest
    ∙ held-with_symbols chain.cells ms (moved_all chain.parity (padded_load shifts load) (held_by chain cells)) cells first

-- each chain holds what its own shifts leave
held-after_each : (chains : List ChainBits) (shifts : ℕ) (loads : List (Option (List ℕ))) (cells : List Symbol) (k : ℕ) (chain : ChainBits) → AreApart [] (numbers_of chains) → HaveParities chains → length loads ≡ length chains
    → All (λ n. n < length cells) (numbers_of chains) → slice_get chains k ≡ Some chain
    → held_by chain (after_each chains shifts loads cells) ≡ moved_all chain.parity (padded_load shifts (get_or loads k None)) (held_by chain cells)
held-after_each [] shifts loads cells k chain h p e b g = absurd (cc)
held-after_each (c ∷ chains) shifts [] cells k chain h p e b g = absurd (omega arith)
held-after_each (c ∷ chains) shifts (load ∷ loads) cells zero chain h p e b g =
    let xs : List Symbol = moved_all c.parity (padded_load shifts load) (held_by c cells) in
    let after : List Symbol = with_symbols c.cells xs cells in
    let here : AreApart [] c.cells = record { once = λ n. omega (arith, h.once n, count_of-append n c.cells (numbers_of chains)) } in
    let apart : AreApart (numbers_of chains) c.cells = record { once = λ n. omega (arith, h.once n, count_of-append n c.cells (numbers_of chains)) } in
    let held : length (held_by c cells) ≡ length c.cells = length-map c.cells (cell_at cells) in
    let all : held_by c (after_each chains shifts loads after) ≡ xs =
    held-elsewhere chains shifts loads c.cells after apart
    ∙ held-written c.cells xs cells here (All-left (λ n. n < length cells) c.cells (numbers_of chains) b) (length-moved_all c.parity (padded_load shifts load) (held_by c cells) (p.0 ∙ sym held) ∙ held) in
    let same : c ≡ chain = cc in
    subst (λ (x : ChainBits). held_by x (after_each chains shifts loads after) ≡ moved_all x.parity (padded_load shifts load) (held_by x cells)) same all
held-after_each (c ∷ chains) shifts (load ∷ loads) cells (suc k) chain h p e b g =
    let xs : List Symbol = moved_all c.parity (padded_load shifts load) (held_by c cells) in
    let after : List Symbol = with_symbols c.cells xs cells in
    let later : AreApart [] (numbers_of chains) = record { once = λ n. omega (arith, h.once n, count_of-append n c.cells (numbers_of chains)) } in
    let apart : AreApart c.cells chain.cells = record { once = λ n. omega (arith, h.once n, count_of-append n c.cells (numbers_of chains), subst (λ (x : ChainBits). count_of n x.cells ≤ count_of n (numbers_of chains)) (get_or_from_slice_get chains k chain chain g) (count_of-chain n chains k chain (slice_get_within chains k chain g))) } in
    let below : All (λ n. n < length after) (numbers_of chains) = λ j d l. omega (arith, All-right (λ n. n < length cells) c.cells (numbers_of chains) b j d l, length-with_symbols c.cells xs cells) in
    held-after_each chains shifts loads after k chain later p.1 (omega arith) below g
    ∙ ap (moved_all chain.parity (padded_load shifts (get_or loads k None))) (held-with_symbols c.cells chain.cells xs cells apart)

-- ---- the same by shifts of all chains at once

-- no string is longer than the longest, wherever it is looked for
short_of : (strings : List (Option (List ℕ))) (c : ℕ) → c < length strings → string_length (get_or strings c None) ≤ longest_string strings
short_of strings c l = string_length-longest strings c None l

-- before shift k each chain holds what k shifts of it alone leave
pub held_before : (chains : Chains) (cells : List Symbol) (call : ScanCall) → AreChains chains → HasCells chains cells → IsCallFor chains call → (c k : ℕ) (chain : ChainBits) → slice_get chains.chains c ≡ Some chain → k ≤ call.shifts
    → held_by chain (cells_before chains cells call k) ≡ moved_all chain.parity (take k (padded_load call.shifts (get_or call.loads c None))) (held_by chain cells)
held_before chains cells call good room fits c zero chain g m = refl
held_before chains cells call good room fits c (suc k) chain g m =
    let ps : List Bool = chain.parity in
    let held : List Symbol = held_by chain cells in
    let before : List Symbol = cells_before chains cells call k in
    let within : c < length call.loads = omega (arith, slice_get_within chains.chains c chain g, length-loads chains call fits) in
    let ss : List Symbol = padded_load call.shifts (get_or call.loads c None) in
    let n : length ss ≡ call.shifts = length-padded_load call.shifts (get_or call.loads c None) (omega (arith, short_of call.loads c within, fits.shifts)) in
    held-shift_step chains before (inputs_at call k) c chain good (omega (arith, length-cells_before chains cells call k))
    (length-map call.loads (λ load. get_or (padded_load call.shifts load) k Unknown) ∙ length-loads chains call fits) g
    ∙ ap (λ x. moved_on ps x (held_by chain before)) (get_or-map (λ load. get_or (padded_load call.shifts load) k Unknown) call.loads c None Unknown within)
    ∙ ap (moved_on ps (get_or ss k Unknown)) (held_before chains cells call good room fits c k chain g (omega arith))
    ∙ sym (moved_all-push ps (take k ss) (get_or ss k Unknown) held)
    ∙ ap (λ ys. moved_all ps ys held) (sym (take_more ss k Unknown (omega arith)) ∙ ap (λ t. take t ss) (let e : k + 1 ≡ suc k = omega arith in e))

-- numbers that stand in no chain stay
other_before : (chains : Chains) (cells : List Symbol) (call : ScanCall) (k : ℕ) (ms : List ℕ) → AreApart (numbers_of chains.chains) ms → map (cell_at (cells_before chains cells call k)) ms ≡ map (cell_at cells) ms
other_before chains cells call zero ms h = refl
other_before chains cells call (suc k) ms h =
    let before : List Symbol = cells_before chains cells call k in
    held-with_symbols (numbers_of chains.chains) ms (all_moved_on chains.chains (inputs_at call k) before) before h ∙ other_before chains cells call k ms h

at_most_one : (b : Bool) → one_if b ≤ 1
at_most_one true = omega arith
at_most_one false = omega arith

-- a number that is no cell's stands in no chain
beyond_apart : (chains : Chains) → AreChains chains → (v : ℕ) → chains.cells ≤ v → AreApart (numbers_of chains.chains) (v ∷ [])
beyond_apart chains good v g =
    let none : count_of v (numbers_of chains.chains) ≡ 0 = count_of-none v chains.cells (numbers_of chains.chains) good.others g in
    record {
      once = λ u. ⊎_elim (λ (e : u ≡ v). omega (arith, subst (λ w. count_of w (numbers_of chains.chains) ≡ 0) (sym e) none, count_of-cons u v [], at_most_one (nat_eq u v)))
          (λ (ne : u ≡ v → ⊥). omega (arith, count_of-cons u v [], ap one_if (ne_eqb u v ne), once_of chains good u))
          (cases_eq u v);
    }

-- what is no cell of a chain stays
pub other_cell : (chains : Chains) (cells : List Symbol) (call : ScanCall) → AreChains chains → (v k : ℕ) → chains.cells ≤ v → cell_at (cells_before chains cells call k) v ≡ cell_at cells v
other_cell chains cells call good v k g = ap (λ hs. get_or hs 0 Unknown) (other_before chains cells call k (v ∷ []) (beyond_apart chains good v g))

-- all cells
pub after_each-is : (chains : Chains) (cells : List Symbol) (call : ScanCall) → AreChains chains → HasCells chains cells → IsCallFor chains call
    → after_each chains.chains call.shifts call.loads cells ≡ cells_before chains cells call call.shifts
after_each-is chains cells call good room fits =
    let a : List Symbol = after_each chains.chains call.shifts call.loads cells in
    let b : List Symbol = cells_before chains cells call call.shifts in
    let n : length a ≡ length cells = length-after_each chains.chains call.shifts call.loads cells in
    let m : length b ≡ length cells = length-cells_before chains cells call call.shifts in
    let below : All (λ v. v < length cells) (numbers_of chains.chains) = λ j d l. omega (arith, good.others j d l) in
    let at : (v : ℕ) → cell_at a v ≡ cell_at b v = λ v.
    ⊎_elim (λ (l : v < chains.cells).
    let place : (c : ℕ) × (i : ℕ) × (c < length chains.chains) × (i < length (get_or chains.chains c no_bits).cells) × (get_or (get_or chains.chains c no_bits).cells i 0 ≡ v)
    = found_in v chains.chains (omega (arith, good.once v l)) in
    let c : ℕ = place.0 in
    let i : ℕ = place.1 in
    let chain : ChainBits = get_or chains.chains c no_bits in
    let g : slice_get chains.chains c ≡ Some chain = slice_get-get_or chains.chains c no_bits place.2 in
    let within : c < length call.loads = omega (arith, place.2, length-loads chains call fits) in
    let ss : List Symbol = padded_load call.shifts (get_or call.loads c None) in
    let long : length ss ≡ call.shifts = length-padded_load call.shifts (get_or call.loads c None) (omega (arith, short_of call.loads c within, fits.shifts)) in
    let same : held_by chain a ≡ held_by chain b =
    held-after_each chains.chains call.shifts call.loads cells c chain (apart_of chains good) (parities_of chains.chains good.each) (length-loads chains call fits) below g
    ∙ ap (λ ys. moved_all chain.parity ys (held_by chain cells)) (sym (take_all call.shifts ss (omega arith)))
    ∙ sym (held_before chains cells call good room fits c call.shifts chain g (omega arith)) in
    ap (cell_at a) (sym place.4)
    ∙ sym (get_or-map (cell_at a) chain.cells i 0 Unknown place.3)
    ∙ ap (λ hs. get_or hs i Unknown) same
    ∙ get_or-map (cell_at b) chain.cells i 0 Unknown place.3
    ∙ ap (cell_at b) place.4)
    (λ (g : chains.cells ≤ v).
    ap (λ hs. get_or hs 0 Unknown) (held-elsewhere chains.chains call.shifts call.loads (v ∷ []) cells (beyond_apart chains good v g))
    ∙ sym (other_cell chains cells call good v call.shifts g))
    (cases_lt v chains.cells) in
    same_lists a b (n ∙ sym m) (λ k d l. get_or_default a k d Unknown l ∙ at k ∙ get_or_default b k Unknown d (omega arith))

-- ---- the verdict

all_below-each : (n : ℕ) (test : ℕ → Bool) (k : ℕ) → all_below n test ≡ true → k < n → test k ≡ true
all_below-each zero test k h l = absurd (omega arith)
all_below-each (suc n) test k h l =
    let both : (all_below n test ≡ true) × (test n ≡ true) = and_parts (all_below n test) (test n) h in
    ⊎_elim (λ (m : k < n). all_below-each n test k both.0 m) (λ (m : n ≤ k). let e : n ≡ k = omega arith in subst (λ i. test i ≡ true) e both.1) (cases_lt k n)

all_below-from : (n : ℕ) (test : ℕ → Bool) → ((k : ℕ) → k < n → test k ≡ true) → all_below n test ≡ true
all_below-from zero test h = refl
all_below-from (suc n) test h = and_from (all_below n test) (test n) (all_below-from n test (λ k l. h k (omega arith))) (h n (omega arith))

-- what comes out where all chains shift at once is what comes out of each alone
pub output-is : (chains : Chains) (cells : List Symbol) (call : ScanCall) → AreChains chains → HasCells chains cells → IsCallFor chains call → (k n : ℕ) → k ≤ call.shifts → n < length chains.chains
    → get_or (outputs_at chains cells call k) n Unknown ≡ coming_out (get_or chains.chains n no_bits) (padded_load call.shifts (get_or call.loads n None)) (held_by (get_or chains.chains n no_bits) cells) k
output-is chains cells call good room fits k n l m =
    let chain : ChainBits = get_or chains.chains n no_bits in
    let g : slice_get chains.chains n ≡ Some chain = slice_get-get_or chains.chains n no_bits m in
    get_or-map (output_of (cells_before chains cells call k)) chains.chains n no_bits Unknown m
    ∙ ap (λ hs. flip_if chain.out_parity (get_or hs (length chain.cells - 1) Unknown)) (held_before chains cells call good room fits n k chain g l)

-- a comparison by shifts of all chains at once is that of the chain alone
comparison-is : (chains : Chains) (cells : List Symbol) (call : ScanCall) → AreChains chains → HasCells chains cells → IsCallFor chains call → (k n : ℕ) → k < call.shifts → n < length chains.chains
    → meets (get_or (padded_compare call.shifts (get_or call.compares n None)) k Any) (get_or (outputs_at chains cells call k) n Unknown)
    ≡ met_at (get_or chains.chains n no_bits) cells call.shifts (get_or call.loads n None) (get_or call.compares n None) k
comparison-is chains cells call good room fits k n l m =
    λ i. meets (get_or-padded_compare call.shifts (get_or call.compares n None) k i) (output-is chains cells call good room fits k n (omega arith) m i)

-- nothing is expected behind a compare
met_behind : (chain : ChainBits) (cells : List Symbol) (shifts : ℕ) (load compare : Option (List ℕ)) (k : ℕ) → string_length compare ≤ k → met_at chain cells shifts load compare k ≡ true
met_behind chain cells shifts load None k l = refl
met_behind chain cells shifts load (Some text) k l =
    ap (λ t. meets (expect_of t) (coming_out chain (padded_load shifts load) (held_by chain cells) k)) (get_or_past text k 88 l)

pub verdict-is : (chains : Chains) (cells : List Symbol) (call : ScanCall) → AreChains chains → HasCells chains cells → IsCallFor chains call
    → all_below (length chains.chains) (met_on chains.chains cells call) ≡ (scan_call chains cells call).passed
verdict-is chains cells call good room fits =
    let law : IsTrue (scan_call chains cells call).passed ↔ AllMet chains cells call = passes_where_met chains cells call fits in
    let all : Bool = all_below (length chains.chains) (met_on chains.chains cells call) in
    let short : (n : ℕ) → n < length chains.chains → string_length (get_or call.compares n None) ≤ call.shifts
    = λ n m. omega (arith, string_length-longest call.compares n None (omega (arith, length-compares chains call fits)), fits.shifts) in
    same_truth all (scan_call chains cells call).passed
    (λ met. law.1 (λ k n l m.
    let chain : ChainBits = get_or chains.chains n no_bits in
    let load : Option (List ℕ) = get_or call.loads n None in
    let compare : Option (List ℕ) = get_or call.compares n None in
    comparison-is chains cells call good room fits k n l m
    ∙ ⊎_elim (λ (inside : k < string_length compare).
    all_below-each (string_length compare) (met_at chain cells call.shifts load compare) k (all_below-each (length chains.chains) (met_on chains.chains cells call) n met m) inside)
    (λ (outside : string_length compare ≤ k). met_behind chain cells call.shifts load compare k outside)
    (cases_lt k (string_length compare))))
    (λ passed. all_below-from (length chains.chains) (met_on chains.chains cells call) (λ n m.
    let compare : Option (List ℕ) = get_or call.compares n None in
    all_below-from (string_length compare) (met_at (get_or chains.chains n no_bits) cells call.shifts (get_or call.loads n None) compare) (λ k inside.
    let l : k < call.shifts = omega (arith, short n m) in
    sym (comparison-is chains cells call good room fits k n l m) ∙ law.0 passed k n l m)))
