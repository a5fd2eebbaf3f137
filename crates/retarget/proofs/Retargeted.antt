-- A call whose strings were moved to the new chains is the retargeted call.
use Rattle.std.proofs.Common.{◌≡◌, ℕ, ◌-◌, ◌<◌, ◌≤◌, List, [], ◌∷◌, length, reverse, Bool, true, false, refl, sym, ap, ◌∙◌, arith, suc, get_or, inl, ⊎_elim, Option, Some, None, subst, eqb, Result, Ok, Err}
use Rattle.std.specs.Prelude.{max, All, IsSome, IfSome, IfOk, ◌||◌}
use Rattle.std.proofs.lemmas.Bool.{cases_lt, eqb-true, or_cases, false≢true}
use Rattle.std.proofs.lemmas.List.{get_or_past, get_or_default, get_or-reverse, length-reverse}
use Rattle.stil_types.specs.declared.statement.ScanCall.{ScanCall}
use Rattle.stil_tester.specs.declared.symbol.Symbol.{Symbol}
use Rattle.stil_tester.specs.declared.chains.Chains.{Chains}
use Rattle.stil_types.specs.Calls.{string_length, longest_string, is_load_character, is_compare_character, IsStringOf, compare_character, compare_at, is_expectation}
use Rattle.stil_tester.specs.Shifting.{HasCells, IsCallFor, scan_call}
use Rattle.retarget.specs.declared.side.Side.TheVariants.{Load, Compare}
use Rattle.stil_tester.proofs.Calls.{length-bit_counts, length-loads, length-compares}
use Rattle.retarget.specs.Places.{parity_to, parity_after, chain_bits, bits_at, StandsAt, longest}
use Rattle.stil_tester.specs.Symbols.{differ, text_of}
use Rattle.retarget.specs.Judging.{load_character, load_at, exit_of, IsAccepted}
use Rattle.lane_kernels.specs.Kernels.{flipped}
use Rattle.retarget.specs.Retargeting.{flip_character_if, HaveSameCells, KeepsLoads, KeepsCompares, WritesLoads, WritesCompares, AreFull}
use Rattle.retarget.proofs.Moved.{AreMoved}
use Rattle.retarget.proofs.AllChains.{standing}
use Rattle.retarget.proofs.WholeCall.{load_is, string_within}
use Rattle.retarget.proofs.SameMeaning.{cell_within, same_call}
use Rattle.retarget.proofs.Accepted.{long_enough, quiet_from, bits_are}

-- ---- the characters

pub compare_is : (string : Option (List ℕ)) (index : ℕ) → compare_character string index ≡ get_or (text_of string) index 88
compare_is None index = refl
compare_is (Some text) index = refl

pub keeps_loads : (old new : Chains) (call written : ScanCall) (shifts : ℕ) → AreMoved Load old new shifts call.loads written.loads → KeepsLoads old new call written
keeps_loads old new call written shifts moved = record {
  cells = λ cell c i d j here there.
      load_is (get_or written.loads d None) j
      ∙ (moved.each d there.is_chain).bits cell c i j here there
      ∙ ap (flip_character_if (differ (parity_to (chain_bits old c) i) (parity_to (chain_bits new d) j))) (sym (load_is (get_or call.loads c None) i));
  others = λ d j l. (moved.each d l).others j;
}

pub keeps_compares : (old new : Chains) (call written : ScanCall) (shifts : ℕ) → AreMoved Compare old new shifts call.compares written.compares → KeepsCompares old new call written
keeps_compares old new call written shifts moved = record {
  cells = λ cell c i d j here there.
      compare_is (get_or written.compares d None) (exit_of new d j)
      ∙ (moved.each d there.is_chain).bits cell c i j here there
      ∙ ap (flip_character_if (differ (parity_after (chain_bits old c) i) (parity_after (chain_bits new d) j))) (sym (compare_is (get_or call.compares c None) (exit_of old c i)));
  others = λ d k l. (moved.each d l).others k;
}

full_strings : (strings : List (Option (List ℕ))) (shifts n : ℕ) → length strings ≡ n → ((d : ℕ) → d < n → IfSome (get_or strings d None) (λ text. length text ≡ shifts)) → (d : ℕ) → IfSome (get_or strings d None) (λ text. length text ≡ shifts)
full_strings strings shifts n e each d =
    ⊎_elim (λ (inside : d < n). each d inside)
    (λ (outside : n ≤ d). subst (λ (s : Option (List ℕ)). IfSome s (λ text. length text ≡ shifts)) (sym (get_or_past strings d None (omega arith))) tt)
    (cases_lt d n)

pub are_full : (old new : Chains) (call written : ScanCall) (shifts : ℕ) → AreMoved Load old new shifts call.loads written.loads → AreMoved Compare old new shifts call.compares written.compares → AreFull written shifts
are_full old new call written shifts loads compares = record {
  loads = full_strings written.loads shifts (length new.chains) loads.long (λ d l. (loads.each d l).full);
  compares = full_strings written.compares shifts (length new.chains) compares.long (λ d l. (compares.each d l).full);
}

-- ---- the alphabets

-- a character is in an alphabet that a flip doesn't leave
flips_within : (test : ℕ → Bool) → ((ch : ℕ) → test ch ≡ true → test (flipped ch) ≡ true) → (p : Bool) (ch : ℕ) → test ch ≡ true → test (flip_character_if p ch) ≡ true
flips_within test closed true ch h = closed ch h
flips_within test closed false ch h = h

load_flips : (ch : ℕ) → is_load_character ch ≡ true → is_load_character (flipped ch) ≡ true
load_flips ch h =
    ⊎_elim (λ (digit : (eqb ch 48 || eqb ch 49) ≡ true).
    ⊎_elim (λ (e : eqb ch 48 ≡ true). subst (λ (x : ℕ). is_load_character (flipped x) ≡ true) (sym (eqb-true ch 48 e)) refl)
    (λ (e : eqb ch 49 ≡ true). subst (λ (x : ℕ). is_load_character (flipped x) ≡ true) (sym (eqb-true ch 49 e)) refl)
    (or_cases (eqb ch 48) (eqb ch 49) digit))
    (λ (e : eqb ch 78 ≡ true). subst (λ (x : ℕ). is_load_character (flipped x) ≡ true) (sym (eqb-true ch 78 e)) refl)
    (or_cases (eqb ch 48 || eqb ch 49) (eqb ch 78) h)

compare_flips : (ch : ℕ) → is_compare_character ch ≡ true → is_compare_character (flipped ch) ≡ true
compare_flips ch h =
    ⊎_elim (λ (letter : (eqb ch 76 || eqb ch 72) ≡ true).
    ⊎_elim (λ (e : eqb ch 76 ≡ true). subst (λ (x : ℕ). is_compare_character (flipped x) ≡ true) (sym (eqb-true ch 76 e)) refl)
    (λ (e : eqb ch 72 ≡ true). subst (λ (x : ℕ). is_compare_character (flipped x) ≡ true) (sym (eqb-true ch 72 e)) refl)
    (or_cases (eqb ch 76) (eqb ch 72) letter))
    (λ (e : eqb ch 88 ≡ true). subst (λ (x : ℕ). is_compare_character (flipped x) ≡ true) (sym (eqb-true ch 88 e)) refl)
    (or_cases (eqb ch 76 || eqb ch 72) (eqb ch 88) h)

load_valid : (string : Option (List ℕ)) → IsStringOf is_load_character string → (j : ℕ) → is_load_character (load_character string j) ≡ true
load_valid None h j = refl
load_valid (Some text) h j =
    ⊎_elim (λ (inside : j < length text). ap is_load_character (get_or-reverse text j 78 inside) ∙ h (length text - 1 - j) 78 (omega arith))
    (λ (outside : length text ≤ j). ap is_load_character (get_or_past (reverse text) j 78 (omega (arith, length-reverse text))))
    (cases_lt j (length text))

compare_valid : (string : Option (List ℕ)) → IsStringOf is_compare_character string → (k : ℕ) → is_compare_character (compare_character string k) ≡ true
compare_valid None h k = refl
compare_valid (Some text) h k =
    ⊎_elim (λ (inside : k < length text). h k 88 inside)
    (λ (outside : length text ≤ k). ap is_compare_character (get_or_past text k 88 outside))
    (cases_lt k (length text))

load_string : (string : Option (List ℕ)) → ((j : ℕ) → is_load_character (load_character string j) ≡ true) → IsStringOf is_load_character string
load_string None h = tt
load_string (Some text) h = λ k e l.
    let back : length text - 1 - (length text - 1 - k) ≡ k = omega arith in
    ap is_load_character (get_or_default text k e 78 l ∙ ap (λ m. get_or text m 78) (sym back) ∙ sym (get_or-reverse text (length text - 1 - k) 78 (omega arith)))
    ∙ h (length text - 1 - k)

compare_string : (string : Option (List ℕ)) → ((k : ℕ) → is_compare_character (compare_character string k) ≡ true) → IsStringOf is_compare_character string
compare_string None h = tt
compare_string (Some text) h = λ k e l. ap is_compare_character (get_or_default text k e 88 l) ∙ h k

strings_at : (test : ℕ → Bool) (strings : List (Option (List ℕ))) → All (IsStringOf test) strings → (c : ℕ) → IsStringOf test (get_or strings c None)
strings_at test strings each c =
    ⊎_elim (λ (inside : c < length strings). each c None inside)
    (λ (outside : length strings ≤ c). subst (λ (s : Option (List ℕ)). IsStringOf test s) (sym (get_or_past strings c None outside)) tt)
    (cases_lt c (length strings))

strings_from : (test : ℕ → Bool) (strings : List (Option (List ℕ))) → ((c : ℕ) → c < length strings → IsStringOf test (get_or strings c None)) → All (IsStringOf test) strings
strings_from test strings each c d l = subst (λ (s : Option (List ℕ)). IsStringOf test s) (get_or_default strings c None d l) (each c l)

-- the bit at a place is that of a cell, which stands in the old chains too
pub record HasPlaces (old new : Chains) (d j : ℕ) : Type 0 where
  pub cell : ℕ
  pub c : ℕ
  pub i : ℕ
  pub here : StandsAt old cell c i
  pub there : StandsAt new cell d j

pub places_of : (old new : Chains) → HaveSameCells old new → (d j : ℕ) → d < length new.chains → j < bits_at new d → HasPlaces old new d j
places_of old new same d j l m =
    let v : ℕ = get_or (chain_bits new d).cells j 0 in
    let there : StandsAt new v d j = record { is_chain = l; is_place = m; is_there = refl } in
    let here : (c : ℕ) × (i : ℕ) × StandsAt old v c i = standing old same.old_chains v (omega (arith, same.cells, cell_within new same.new_chains v d j there)) in
    record { cell = v; c = here.0; i = here.1; here = here.2; there = there }

written_loads_valid : (old new : Chains) (call written : ScanCall) → HaveSameCells old new → All (IsStringOf is_load_character) call.loads → KeepsLoads old new call written → (d j : ℕ) → d < length new.chains → is_load_character (load_at written d j) ≡ true
written_loads_valid old new call written same each keeps d j l =
    ⊎_elim (λ (inside : j < bits_at new d).
    let at : HasPlaces old new d j = places_of old new same d j l inside in
    ap is_load_character (keeps.cells at.cell at.c at.i d j at.here at.there)
    ∙ flips_within is_load_character load_flips (differ (parity_to (chain_bits old at.c) at.i) (parity_to (chain_bits new d) j)) (load_at call at.c at.i)
    (load_valid (get_or call.loads at.c None) (strings_at is_load_character call.loads each at.c) at.i))
    (λ (outside : bits_at new d ≤ j). ap is_load_character (keeps.others d j l outside))
    (cases_lt j (bits_at new d))

written_exit_valid : (old new : Chains) (call written : ScanCall) → HaveSameCells old new → All (IsStringOf is_compare_character) call.compares → KeepsCompares old new call written → (d j : ℕ) → d < length new.chains → j < bits_at new d
    → is_compare_character (compare_at written d (exit_of new d j)) ≡ true
written_exit_valid old new call written same each keeps d j l m =
    let at : HasPlaces old new d j = places_of old new same d j l m in
    ap is_compare_character (keeps.cells at.cell at.c at.i d j at.here at.there)
    ∙ flips_within is_compare_character compare_flips (differ (parity_after (chain_bits old at.c) at.i) (parity_after (chain_bits new d) j)) (compare_at call at.c (exit_of old at.c at.i))
    (compare_valid (get_or call.compares at.c None) (strings_at is_compare_character call.compares each at.c) (exit_of old at.c at.i))

written_compares_valid : (old new : Chains) (call written : ScanCall) → HaveSameCells old new → All (IsStringOf is_compare_character) call.compares → KeepsCompares old new call written → (d k : ℕ) → d < length new.chains → is_compare_character (compare_at written d k) ≡ true
written_compares_valid old new call written same each keeps d k l =
    ⊎_elim (λ (inside : k < bits_at new d).
    let back : exit_of new d (exit_of new d k) ≡ k = omega arith in
    let valid : is_compare_character (compare_at written d (exit_of new d (exit_of new d k))) ≡ true = written_exit_valid old new call written same each keeps d (exit_of new d k) l (omega arith) in
    subst (λ (m : ℕ). is_compare_character (compare_at written d m) ≡ true) back valid)
    (λ (outside : bits_at new d ≤ k). ap is_compare_character (keeps.others d k l outside))
    (cases_lt k (bits_at new d))

-- ---- the lengths

pub some_longest : (strings : List (Option (List ℕ))) → 0 < longest_string strings → (d : ℕ) × (d < length strings) × IsSome (get_or strings d None)
some_longest [] h = absurd (omega arith)
some_longest (None ∷ strings) h =
    let rest : (d : ℕ) × (d < length strings) × IsSome (get_or strings d None) = some_longest strings (omega arith) in
    (suc rest.0, omega (arith, rest.1), rest.2)
some_longest (Some text ∷ strings) h = (0, omega arith, refl)

most_longest : (strings : List (Option (List ℕ))) (shifts : ℕ) → ((d : ℕ) → IfSome (get_or strings d None) (λ text. length text ≡ shifts)) → longest_string strings ≤ shifts
most_longest [] shifts h = omega arith
most_longest (None ∷ strings) shifts h = omega (arith, most_longest strings shifts (λ d. h (suc d)))
most_longest (Some text ∷ strings) shifts h = let e : length text ≡ shifts = h 0 in omega (arith, most_longest strings shifts (λ d. h (suc d)))

length_some : (string : Option (List ℕ)) (shifts : ℕ) → IsSome string → IfSome string (λ text. length text ≡ shifts) → string_length string ≡ shifts
length_some None shifts some h = absurd (false≢true some)
length_some (Some text) shifts some h = h

least_longest : (strings : List (Option (List ℕ))) (shifts d : ℕ) → IsSome (get_or strings d None) → IfSome (get_or strings d None) (λ text. length text ≡ shifts) → shifts ≤ longest_string strings
least_longest strings shifts d some h = omega (arith, string_within strings d, length_some (get_or strings d None) shifts some h)

-- ---- the call

-- all that is said of the written call
pub record IsRetargeted (old new : Chains) (call written : ScanCall) : Type 0 where
  pub meaning : (cells : List Symbol) → HasCells old cells → scan_call new cells written ≡ scan_call old cells call
  pub well_formed : IsCallFor new written
  pub accepted : IsAccepted new written
  pub shifts : written.shifts ≡ longest new
  pub loads : KeepsLoads old new call written
  pub compares : KeepsCompares old new call written
  pub writes_loads : WritesLoads new call written
  pub writes_compares : WritesCompares new call written
  pub full : AreFull written (longest new)

written_shifts : (old new : Chains) (call written : ScanCall) (shifts : ℕ) → HaveSameCells old new → IsCallFor old call → 0 < call.shifts
    → AreMoved Load old new shifts call.loads written.loads → AreMoved Compare old new shifts call.compares written.compares → shifts ≡ max (longest_string written.loads) (longest_string written.compares)
written_shifts old new call written shifts same fits some loads compares =
    let full : AreFull written shifts = are_full old new call written shifts loads compares in
    let at_most : longest_string written.loads ≤ shifts = most_longest written.loads shifts full.loads in
    let at_most' : longest_string written.compares ≤ shifts = most_longest written.compares shifts full.compares in
    ⊎_elim (λ (load : 0 < longest_string call.loads).
    let one : (d : ℕ) × (d < length call.loads) × IsSome (get_or call.loads d None) = some_longest call.loads load in
    let l : one.0 < length new.chains = omega (arith, one.1, length-loads old call fits, same.chains) in
    omega (arith, least_longest written.loads shifts one.0 ((loads.each one.0 l).stands.1 (inl one.2)) (full.loads one.0)))
    (λ (none : longest_string call.loads ≤ 0).
    let one : (d : ℕ) × (d < length call.compares) × IsSome (get_or call.compares d None) = some_longest call.compares (omega (arith, fits.shifts)) in
    let l : one.0 < length new.chains = omega (arith, one.1, length-compares old call fits, same.chains) in
    omega (arith, least_longest written.compares shifts one.0 ((compares.each one.0 l).stands.1 (inl one.2)) (full.compares one.0)))
    (cases_lt 0 (longest_string call.loads))

pub retargeted : (a b : Chains) (shifts : ℕ) (call written : ScanCall) → HaveSameCells a b → shifts ≡ longest b → IsCallFor a call → IsAccepted a call → 0 < call.shifts → written.shifts ≡ shifts
    → AreMoved Load a b shifts call.loads written.loads → AreMoved Compare a b shifts call.compares written.compares → IsRetargeted a b call written
retargeted a b shifts call written same long fits accepted some e loads compares =
    let keeps : KeepsLoads a b call written = keeps_loads a b call written shifts loads in
    let keeps' : KeepsCompares a b call written = keeps_compares a b call written shifts compares in
    let well_formed : IsCallFor b written = record {
      loads = loads.long ∙ sym (length-bit_counts b);
      compares = compares.long ∙ sym (length-bit_counts b);
      load_characters = strings_from is_load_character written.loads (λ d l. load_string (get_or written.loads d None) (λ j. written_loads_valid a b call written same fits.load_characters keeps d j (omega (arith, loads.long))));
      compare_characters = strings_from is_compare_character written.compares (λ d l. compare_string (get_or written.compares d None) (λ k. written_compares_valid a b call written same fits.compare_characters keeps' d k (omega (arith, compares.long))));
      shifts = e ∙ written_shifts a b call written shifts same fits some loads compares;
    } in
    record {
      meaning = same_call a b call written same fits well_formed (long_enough a call accepted.not_short some) (omega (arith, e, long)) (quiet_from a call accepted.not_long) keeps keeps';
      well_formed = well_formed;
      accepted = record {
        not_short = λ short. omega (arith, short.short, e, long);
        not_long = λ past_bits.
            let l : past_bits.chain < length b.chains = omega (arith, length-bit_counts b, past_bits.is_chain) in
            let past : bits_at b past_bits.chain ≤ past_bits.index = omega (arith, bits_are b past_bits.chain l, past_bits.beyond) in
            false≢true (sym (ap is_expectation (keeps'.others past_bits.chain past_bits.index l past)) ∙ past_bits.stands);
      };
      shifts = e ∙ long;
      loads = keeps;
      compares = keeps';
      writes_loads = λ d l. (loads.each d l).stands;
      writes_compares = λ d l. (compares.each d l).stands;
      full = subst (λ (n : ℕ). AreFull written n) long (are_full a b call written shifts loads compares);
    }

-- a call that doesn't shift is well-formed beside the new chains too, and accepted
pub still_fits : (old new : Chains) (call : ScanCall) → HaveSameCells old new → IsCallFor old call → IsCallFor new call
still_fits old new call same fits = record {
  loads = length-loads old call fits ∙ (sym same.chains ∙ sym (length-bit_counts new));
  compares = length-compares old call fits ∙ (sym same.chains ∙ sym (length-bit_counts new));
  load_characters = fits.load_characters;
  compare_characters = fits.compare_characters;
  shifts = fits.shifts;
}

compare_past : (string : Option (List ℕ)) (k : ℕ) → string_length string ≤ k → compare_character string k ≡ 88
compare_past None k h = refl
compare_past (Some text) k h = get_or_past text k 88 h

pub still_accepted : (old new : Chains) (call : ScanCall) → IsCallFor old call → call.shifts ≡ 0 → IsAccepted new call
still_accepted old new call fits e = record {
  not_short = λ short. omega (arith, short.shifts);
  not_long = λ long. false≢true (sym (ap is_expectation (compare_past (get_or call.compares long.chain None) long.index (omega (arith, string_within call.compares long.chain, fits.shifts)))) ∙ long.stands);
}

pub some_shifts : (n : ℕ) → (n ≡ 0 → ⊥) → 0 < n
some_shifts n h = omega arith

-- a call that doesn't shift may be copied
pub still_if_ok : {E : Type 0} (old : Chains) (new : Chains) (call : ScanCall) (result : Result ScanCall E) → IsCallFor old call → call.shifts ≡ 0 → IfOk result (λ copy. copy ≡ call) → IfOk result (λ copy. IsAccepted new copy)
still_if_ok old new call (Err refused) fits e same = tt
still_if_ok old new call (Ok copy) fits e same = subst (λ (c : ScanCall). IsAccepted new c) (sym same) (still_accepted old new call fits e)
