-- The strings of the moved call hold for each cell what the read ones hold, and no other strings do.
use Rattle.std.proofs.Common.{◌≡◌, ◌≢◌, ℕ, ◌-◌, ◌<◌, ◌≤◌, List, [], ◌∷◌, length, reverse, replicate, Bool, true, false, not, cond, refl, sym, ap, ◌∙◌, arith, suc, zero, get_or, inl, inr, ⊎_elim, Option, Some, None, subst, eqb, Result, Ok, Err}
use Rattle.std.specs.Prelude.{IsSome, IfSome, IfOk, is_some, ◌||◌}
use Rattle.std.specs.List.{list_any}
use Rattle.std.proofs.lemmas.Bool.{cases_lt, cases_Bool, eq-eqb, eqb-true, ne_eqb, eqb-false, false≢true, not-true, not-false, or_cases, or_parts}
use Rattle.std.proofs.lemmas.List.{ext_get_or, get_or-append_right, get_or_append_left, get_or-replicate, get_or-reverse, get_or_past, length-append, length-replicate, length-reverse, reverse-reverse}
use Rattle.std.proofs.lemmas.List.FromFn.{get_or-map-range_with_len, length-map-range_with_len}
use Rattle.stil_types.specs.declared.statement.ScanCall.{ScanCall}
use Rattle.stil_tester.specs.declared.chains.Chains.{Chains}
use Rattle.stil_tester.specs.Shifting.{IsCallFor}
use Rattle.stil_tester.proofs.Calls.{length-loads, length-compares}
use Rattle.stil_types.specs.Calls.{longest_string}
use Rattle.retarget.specs.declared.route.Route.{Route}
use Rattle.retarget.specs.declared.side.Side.{Side}
use Rattle.retarget.specs.declared.side.Side.TheVariants.{Load, Compare}
use Rattle.retarget.specs.Places.{chain_bits, bits_at, StandsAt, chain_of, place_of, longest}
use Rattle.stil_tester.specs.Symbols.{differ, text_of}
use Rattle.retarget.specs.Judging.{IsAccepted}
use Rattle.retarget.specs.Retargeting.{flip_character_if, HaveSameCells}
use Rattle.retarget.specs.Exits.{IsMap}
use Rattle.retarget.specs.Sides.{filler_of, parity_at, character_in, character_at}
use Rattle.retarget.proofs.Moved.{raw_at, IsMoved, AreMoved}
use Rattle.retarget.specs.Moved.{moved_character, moved_characters, full_string, moved_string, moved_strings, moved_call, StandsFor}
use Rattle.retarget.proofs.AllChains.{chain_is}
use Rattle.retarget.proofs.SameMeaning.{bits_within, still_call}
use Rattle.retarget.proofs.Standing.{chain_is_of, place_is_of}
use Rattle.retarget.proofs.Retargeted.{IsRetargeted, retargeted, still_fits, still_accepted, some_shifts, some_longest}

-- ---- characters as a string

get_or-fillers : (n k filler : ℕ) → get_or (replicate n filler) k filler ≡ filler
get_or-fillers n k filler =
    ⊎_elim (λ (l : k < n). get_or-replicate n k filler filler l) (λ (g : n ≤ k). get_or_past (replicate n filler) k filler (omega (arith, length-replicate n filler))) (cases_lt k n)

pub length-full_string : (side : Side) (shifts : ℕ) (characters : List ℕ) → length characters ≤ shifts → length (full_string side shifts characters) ≡ shifts
length-full_string Load shifts characters h =
    omega (arith, length-append {A = ℕ} (replicate (shifts - length characters) 78) (reverse characters), length-replicate {A = ℕ} (shifts - length characters) 78, length-reverse characters)
length-full_string Compare shifts characters h =
    omega (arith, length-append {A = ℕ} (reverse characters) (replicate (shifts - length characters) 88), length-replicate {A = ℕ} (shifts - length characters) 88, length-reverse characters)

-- the last bit's character stands first
from_end : (characters : List ℕ) (j d : ℕ) → j < length characters → get_or (reverse characters) (length characters - 1 - j) d ≡ get_or characters j d
from_end characters j d l =
    let back : length characters - 1 - (length characters - 1 - j) ≡ j = omega arith in
    get_or-reverse characters (length characters - 1 - j) d (omega arith) ∙ ap (λ n. get_or characters n d) back

-- the character for a bit
character_in-full_string : (side : Side) (shifts : ℕ) (characters : List ℕ) (j : ℕ) → length characters ≤ shifts → j < length characters
    → character_in side (full_string side shifts characters) (length characters) j ≡ get_or characters j (filler_of side)
character_in-full_string Load shifts characters j h l =
    let text : List ℕ = full_string Load shifts characters in
    let long : length text ≡ shifts = length-full_string Load shifts characters h in
    let before : ℕ = shifts - length characters in
    let at : length text - 1 - j - before ≡ length characters - 1 - j = omega arith in
    get_or-reverse text j 78 (omega arith)
    ∙ get_or-append_right {X = ℕ} (replicate before 78) (reverse characters) before (length text - 1 - j) 78 (length-replicate {A = ℕ} before 78) (omega arith)
    ∙ ap (λ n. get_or (reverse characters) n 78) at
    ∙ from_end characters j 78 l
character_in-full_string Compare shifts characters j h l =
    get_or_append_left {A = ℕ} (reverse characters) (replicate (shifts - length characters) 88) 88 (length characters - 1 - j) (omega (arith, length-reverse characters))
    ∙ from_end characters j 88 l

-- and the fillers
raw_at-full_string : (side : Side) (shifts : ℕ) (characters : List ℕ) (k : ℕ) → length characters ≤ shifts → length characters ≤ k → raw_at side (Some (full_string side shifts characters)) k ≡ filler_of side
raw_at-full_string Load shifts characters k h g =
    let text : List ℕ = full_string Load shifts characters in
    let long : length text ≡ shifts = length-full_string Load shifts characters h in
    let before : ℕ = shifts - length characters in
    ⊎_elim (λ (inside : k < shifts).
    get_or-reverse text k 78 (omega arith)
    ∙ get_or_append_left {A = ℕ} (replicate before 78) (reverse characters) 78 (length text - 1 - k) (omega (arith, length-replicate {A = ℕ} before 78))
    ∙ get_or-fillers before (length text - 1 - k) 78)
    (λ (outside : shifts ≤ k). get_or_past (reverse text) k 78 (omega (arith, length-reverse text)))
    (cases_lt k shifts)
raw_at-full_string Compare shifts characters k h g =
    get_or-append_right {X = ℕ} (reverse characters) (replicate (shifts - length characters) 88) (length characters) k 88 (length-reverse characters) g
    ∙ get_or-fillers (shifts - length characters) (k - length characters) 88

-- the character for a bit is one of the string
raw_from : (side : Side) (text : List ℕ) (bits j : ℕ) → (k : ℕ) × (raw_at side (Some text) k ≡ character_in side text bits j)
raw_from Load text bits j = (j, refl)
raw_from Compare text bits j = (bits - 1 - j, refl)

none_at : (side : Side) (bits j : ℕ) → character_in side [] bits j ≡ filler_of side
none_at Load bits j = refl
none_at Compare bits j = refl

none_raw : (side : Side) (k : ℕ) → raw_at side None k ≡ filler_of side
none_raw Load k = refl
none_raw Compare k = refl

-- ---- whether a string says something

abbrev pub says : Side → ℕ → Bool
says side character = not (eqb character (filler_of side))

pub says_at : (side : Side) (characters : List ℕ) → list_any (says side) characters ≡ true → (j : ℕ) × (j < length characters) × (get_or characters j (filler_of side) ≢ filler_of side)
says_at side [] h = absurd (false≢true h)
says_at side (character ∷ characters) h =
    ⊎_elim (λ (here : says side character ≡ true). (0, omega arith, λ e. eqb-false character (filler_of side) (not-true (eqb character (filler_of side)) here) e))
    (λ (there : list_any (says side) characters ≡ true).
    let rest : (j : ℕ) × (j < length characters) × (get_or characters j (filler_of side) ≢ filler_of side) = says_at side characters there in
    (suc rest.0, omega (arith, rest.1), rest.2))
    (or_cases (says side character) (list_any (says side) characters) h)

says_none : (side : Side) (characters : List ℕ) → list_any (says side) characters ≡ false → (j : ℕ) → get_or characters j (filler_of side) ≡ filler_of side
says_none side [] h j = refl
says_none side (character ∷ characters) h zero =
    eqb-true character (filler_of side) (not-false (eqb character (filler_of side)) (or_parts (says side character) (list_any (says side) characters) h).0)
says_none side (character ∷ characters) h (suc j) = says_none side characters (or_parts (says side character) (list_any (says side) characters) h).1 j

-- ---- one string of the moved call

module _ (side : Side) (old new : Chains) (strings : List (Option (List ℕ))) (same : HaveSameCells old new) (d : ℕ) where
  abbrev characters : List ℕ
  characters = moved_characters side old new strings d

  abbrev given : Bool
  given = is_some (get_or strings d None)

  length-characters : length characters ≡ bits_at new d
  length-characters = length-map-range_with_len (moved_character side old new strings d) 0 (bits_at new d)

  -- the character for a bit is that of its cell's old place
  character_is : (cell c i j : ℕ) → StandsAt old cell c i → StandsAt new cell d j
      → get_or characters j (filler_of side) ≡ flip_character_if (differ (parity_at side (chain_bits old c) i) (parity_at side (chain_bits new d) j)) (character_at side old strings c i)
  character_is cell c i j here there =
      get_or-map-range_with_len (moved_character side old new strings d) 0 (bits_at new d) j j (filler_of side) there.is_place (omega arith)
      ∙ ap (λ (v : ℕ). flip_character_if (differ (parity_at side (chain_bits old (chain_of old v)) (place_of old v)) (parity_at side (chain_bits new d) j)) (character_at side old strings (chain_of old v) (place_of old v))) there.is_there
      ∙ ap (λ (b : ℕ). flip_character_if (differ (parity_at side (chain_bits old b) (place_of old cell)) (parity_at side (chain_bits new d) j)) (character_at side old strings b (place_of old cell))) (chain_is_of old cell c i same.old_chains here)
      ∙ ap (λ (p : ℕ). flip_character_if (differ (parity_at side (chain_bits old c) p) (parity_at side (chain_bits new d) j)) (character_at side old strings c p)) (place_is_of old cell c i same.old_chains here)

  some_moved : (given || list_any (says side) characters) ≡ true → IsMoved side old new (longest new) strings d (Some (full_string side (longest new) characters))
  some_moved why =
      let within : length characters ≤ longest new = omega (arith, length-characters, bits_within new d) in
      let text : List ℕ = full_string side (longest new) characters in
      let at : (j : ℕ) → j < bits_at new d → character_in side text (bits_at new d) j ≡ get_or characters j (filler_of side)
      = λ j l. ap (λ (n : ℕ). character_in side text n j) (sym length-characters) ∙ character_in-full_string side (longest new) characters j within (omega (arith, length-characters)) in
      record {
        bits = λ cell c i j here there. at j there.is_place ∙ character_is cell c i j here there;
        others = λ k l. raw_at-full_string side (longest new) characters k within (omega (arith, length-characters));
        stands = (
          λ _. ⊎_elim (λ (yes : given ≡ true). inl yes)
              (λ (some : list_any (says side) characters ≡ true).
              let one : (j : ℕ) × (j < length characters) × (get_or characters j (filler_of side) ≢ filler_of side) = says_at side characters some in
              let raw : (k : ℕ) × (raw_at side (Some text) k ≡ character_in side text (bits_at new d) one.0) = raw_from side text (bits_at new d) one.0 in
              inr (raw.0, λ e. one.2 (sym (at one.0 (omega (arith, one.1, length-characters))) ∙ sym raw.1 ∙ e)))
              (or_cases given (list_any (says side) characters) why),
          λ _. refl,
        );
        full = length-full_string side (longest new) characters within;
      }

  none_moved : (given || list_any (says side) characters) ≡ false → IsMoved side old new (longest new) strings d None
  none_moved why =
      let parts : (given ≡ false) × (list_any (says side) characters ≡ false) = or_parts given (list_any (says side) characters) why in
      record {
        bits = λ cell c i j here there. none_at side (bits_at new d) j ∙ sym (says_none side characters parts.1 j) ∙ character_is cell c i j here there;
        others = λ k l. none_raw side k;
        stands = (
          λ some. absurd (false≢true some),
          λ reason. ⊎_elim (λ (yes : given ≡ true). absurd (false≢true (sym parts.0 ∙ yes)))
              (λ (there : (k : ℕ) × (raw_at side None k ≢ filler_of side)). absurd (there.1 (none_raw side there.0))) reason,
        );
        full = tt;
      }

  string_moved : IsMoved side old new (longest new) strings d (moved_string side old new strings d)
  string_moved =
      let says_it : Bool = given || list_any (says side) characters in
      ⊎_elim (λ (yes : says_it ≡ true).
      subst (λ (b : Bool). IsMoved side old new (longest new) strings d (cond b (Some (full_string side (longest new) characters)) None)) (sym yes) (some_moved yes))
      (λ (no : says_it ≡ false).
      subst (λ (b : Bool). IsMoved side old new (longest new) strings d (cond b (Some (full_string side (longest new) characters)) None)) (sym no) (none_moved no))
      (cases_Bool says_it)

-- all of them
pub moved_are : (side : Side) (old new : Chains) (strings : List (Option (List ℕ))) → HaveSameCells old new → AreMoved side old new (longest new) strings (moved_strings side old new strings)
moved_are side old new strings same = record {
  long = length-map-range_with_len (moved_string side old new strings) 0 (length new.chains);
  each = λ d l. subst (λ (s : Option (List ℕ)). IsMoved side old new (longest new) strings d s)
      (sym (get_or-map-range_with_len (moved_string side old new strings) 0 (length new.chains) d d None l (omega arith)))
      (string_moved side old new strings same d);
}

-- ---- the call

pub still : (old new : Chains) (call : ScanCall) → call.shifts ≡ 0 → moved_call old new call ≡ call
unfolding moved_call
still old new call e =
    ap (λ (b : Bool). cond b call (record { shifts = longest new; loads = moved_strings Load old new call.loads; compares = moved_strings Compare old new call.compares })) (eq-eqb call.shifts 0 e)

pub shifting : (old new : Chains) (call : ScanCall) → 0 < call.shifts → moved_call old new call ≡ record { shifts = longest new; loads = moved_strings Load old new call.loads; compares = moved_strings Compare old new call.compares }
unfolding moved_call
shifting old new call some =
    ap (λ (b : Bool). cond b call (record { shifts = longest new; loads = moved_strings Load old new call.loads; compares = moved_strings Compare old new call.compares })) (ne_eqb call.shifts 0 (λ e. omega arith))

-- all that is said of a call that shifts
retargeted_call : (old new : Chains) (call : ScanCall) → HaveSameCells old new → IsCallFor old call → IsAccepted old call → 0 < call.shifts → IsRetargeted old new call (moved_call old new call)
retargeted_call old new call same fits accepted some =
    let made : ScanCall = record { shifts = longest new; loads = moved_strings Load old new call.loads; compares = moved_strings Compare old new call.compares } in
    subst (λ (w : ScanCall). IsRetargeted old new call w) (sym (shifting old new call some))
    (retargeted old new (longest new) call made same refl fits accepted some refl (moved_are Load old new call.loads same) (moved_are Compare old new call.compares same))

-- where a call shifts there is a chain
longest_some : (old new : Chains) (call : ScanCall) → HaveSameCells old new → IsCallFor old call → 0 < call.shifts → 0 < longest new
longest_some old new call same fits some =
    ⊎_elim (λ (load : 0 < longest_string call.loads).
    let one : (d : ℕ) × (d < length call.loads) × IsSome (get_or call.loads d None) = some_longest call.loads load in
    let l : one.0 < length new.chains = omega (arith, one.1, length-loads old call fits, same.chains) in
    omega (arith, (chain_is new same.new_chains one.0 l).some, bits_within new one.0))
    (λ (none : longest_string call.loads ≤ 0).
    let one : (d : ℕ) × (d < length call.compares) × IsSome (get_or call.compares d None) = some_longest call.compares (omega (arith, fits.shifts)) in
    let l : one.0 < length new.chains = omega (arith, one.1, length-compares old call fits, same.chains) in
    omega (arith, (chain_is new same.new_chains one.0 l).some, bits_within new one.0))
    (cases_lt 0 (longest_string call.loads))

-- the moved call stands for the read one
pub stands_for : (old new : Chains) (call : ScanCall) → HaveSameCells old new → IsCallFor old call → IsAccepted old call → StandsFor old new call (moved_call old new call)
stands_for old new call same fits accepted =
    ⊎_elim (λ (some : 0 < call.shifts).
    let is : IsRetargeted old new call (moved_call old new call) = retargeted_call old new call same fits accepted some in
    let stands : StandsFor old new call (moved_call old new call) = record {
      shows = λ cells room. sym (is.meaning cells room);
      fits = is.well_formed;
      accepted = is.accepted;
      stays = λ e. absurd (omega arith);
      shifts = λ _. omega (arith, is.shifts, longest_some old new call same fits some);
    } in
    stands)
    (λ (none : call.shifts ≤ 0).
    let e : call.shifts ≡ 0 = omega arith in
    let stands : StandsFor old new call call = record {
      shows = λ cells room. still_call old call e cells ∙ sym (still_call new call e cells);
      fits = still_fits old new call same fits;
      accepted = still_accepted old new call fits e;
      stays = λ _. refl;
      shifts = λ some. absurd (omega arith);
    } in
    subst (λ (w : ScanCall). StandsFor old new call w) (sym (still old new call e)) stands)
    (cases_lt 0 call.shifts)

-- the same of a call that may have refused, where the map is seen as a pair of chains
pub value_if_ok : {E : Type 0} (old new : Chains) (call : ScanCall) (chains : Chains × Chains) (result : Result ScanCall E)
    → ◌≡◌ {A = Chains × Chains} (old, new) chains → IfOk result (λ written. written ≡ moved_call old new call) → IfOk result (λ written. written ≡ moved_call chains.0 chains.1 call)
value_if_ok old new call chains (Err refused) seen value = tt
value_if_ok old new call chains (Ok written) seen value = subst (λ (m : Chains × Chains). written ≡ moved_call m.0 m.1 call) seen value

pub retargeted_if_ok : {E : Type 0} (old new : Chains) (shifts : ℕ) (route : Route) (call : ScanCall) (chains : Chains × Chains) (result : Result ScanCall E)
    → ◌≡◌ {A = Chains × Chains} (old, new) chains → IsMap old new shifts route → IsCallFor chains.0 call → IsAccepted chains.0 call → (call.shifts ≡ 0 → ⊥)
    → IfOk result (λ written. written ≡ moved_call old new call) → IfOk result (λ written. IsRetargeted chains.0 chains.1 call written)
retargeted_if_ok old new shifts route call chains (Err refused) seen map fits accepted some value = tt
retargeted_if_ok old new shifts route call chains (Ok written) seen map fits accepted some value =
    subst (λ (m : Chains × Chains). IsRetargeted m.0 m.1 call written) seen
    (subst (λ (w : ScanCall). IsRetargeted old new call w) (sym value)
    (retargeted_call old new call map.same
    (subst (λ (m : Chains × Chains). IsCallFor m.0 call) (sym seen) fits)
    (subst (λ (m : Chains × Chains). IsAccepted m.0 call) (sym seen) accepted)
    (some_shifts call.shifts some)))

pub still_value : {E : Type 0} (old new : Chains) (call : ScanCall) (result : Result ScanCall E) → call.shifts ≡ 0 → IfOk result (λ copy. copy ≡ call) → IfOk result (λ copy. copy ≡ moved_call old new call)
still_value old new call (Err refused) e same = tt
still_value old new call (Ok copy) e same = same ∙ sym (still old new call e)
