-- The strings that are made of moved characters are those of the moved call.
use Rattle.std.proofs.Common.{◌≡◌, ℕ, ◌+◌, ◌-◌, ◌<◌, ◌≤◌, List, [], ◌∷◌, ◌++◌, length, map, take, drop, reverse, replicate, Bool, true, false, cond, not, refl, sym, ap, ◌∙◌, arith, append_assoc, suc, zero, get_or, Option, Some, None, subst, eqb, inl, inr}
use Rattle.std.specs.Prelude.{◌||◌, ◌≢◌, ◌↔◌, All, IsTrue, is_some}
use Rattle.std.specs.Int.{from_bool}
use Rattle.std.specs.List.{list_any, range_with_len}
use Rattle.std.proofs.lemmas.Bool.{ne_eqb}
use Rattle.std.proofs.lemmas.List.{append-nil, drop_all, drop_more, drop-drop, ext_get_or, get_or-drop, get_or-map, get_or-reverse, get_or-take, get_or_default, length-append, length-drop, length-map, length-reverse, length-take-le}
use Rattle.std.proofs.lemmas.List.Folds.{list_any_at}
use Rattle.std.proofs.lemmas.List.FromFn.{get_or-map-range_with_len, length-map-range_with_len}
use Rattle.std.proofs.lemmas.List.Sorted.{IsPermutation-reverse, list_any-IsPermutation}
use Rattle.std.proofs.lemmas.Simd.{get_or-zip2, length-zip2}
use Rattle.base_types.proofs.TruthValues.{same_truth}
use Rattle.lane_kernels.specs.Kernels.{flipped_where}
use Rattle.stil_tester.specs.declared.chains.ChainBits.{ChainBits}
use Rattle.stil_tester.specs.declared.chains.Chains.{Chains}
use Rattle.stil_tester.specs.Symbols.{differ}
use Rattle.stil_tester.specs.Shifting.{numbers_of, no_bits}
use Rattle.retarget.specs.declared.route.Route.{Route}
use Rattle.retarget.specs.declared.side.Side.{Side}
use Rattle.retarget.specs.declared.side.Side.TheVariants.{Load, Compare}
use Rattle.retarget.specs.Places.{chain_bits, bits_at, StandsAt, chain_of, place_of, longest}
use Rattle.retarget.specs.Retargeting.{flip_character_if, HaveSameCells}
use Rattle.retarget.specs.Sides.{filler_of, parity_at, character_in, character_at}
use Rattle.retarget.specs.Exits.{IsRoute, exit_cells, exit_characters, exit_parities, flips_from, flips_on, moved_by, padded, string_from, strings_from}
use Rattle.retarget.specs.Moved.{moved_character, moved_characters, full_string, moved_string, moved_strings}
use Rattle.retarget.proofs.AllChains.{chain_is, number_within, standing, start_of}
use Rattle.retarget.proofs.ExitOrder.{exit_cell, exit_character, exit_parity, length-exit_cells, length-exit_characters}
use Rattle.retarget.proofs.MovedCalls.{says, says_at}
use Rattle.retarget.proofs.Routes.{exits_apart, one_place}
use Rattle.retarget.proofs.SameMeaning.{bits_within, cell_within}
use Rattle.retarget.proofs.Standing.{stands_there}

-- ---- one character

flip_by : (p : Bool) (character : ℕ) → flipped_where character (from_bool p) ≡ flip_character_if p character
flip_by true character = refl
flip_by false character = refl

flips_are : (side : Side) (old new : Chains) (route : Route) → IsRoute old new route → flips_on side route ≡ flips_from route.sources (exit_parities side old.chains) (exit_parities side new.chains)
flips_are Load old new route is = is.loads
flips_are Compare old new route is = is.compares

pub length-flips_on : (side : Side) (old new : Chains) (route : Route) → IsRoute old new route → length (flips_on side route) ≡ length route.sources
length-flips_on side old new route is =
    ap length (flips_are side old new route is)
    ∙ length-map-range_with_len (λ (k : ℕ). from_bool (differ (get_or (exit_parities side old.chains) (get_or route.sources k 0) false) (get_or (exit_parities side new.chains) k false))) 0 (length route.sources)

-- how many there are
pub moved_long : (side : Side) (old new : Chains) (route : Route) (strings : List (Option (List ℕ))) → IsRoute old new route → (characters : List ℕ) → characters ≡ moved_by route.sources (flips_on side route) (exit_characters side old.chains strings) → length characters ≡ length (numbers_of new.chains)
moved_long side old new route strings is characters e =
    let before : List ℕ = exit_characters side old.chains strings in
    ap length e
    ∙ length-zip2 flipped_where (map (λ source. get_or before source 0) route.sources) (flips_on side route) (length-map route.sources (λ source. get_or before source 0) ∙ sym (length-flips_on side old new route is))
    ∙ length-map route.sources (λ source. get_or before source 0)
    ∙ is.long
    ∙ length-exit_cells new.chains

module _ (side : Side) (old new : Chains) (route : Route) (strings : List (Option (List ℕ))) (same : HaveSameCells old new) (is : IsRoute old new route) (fits : length strings ≡ length old.chains) where
  abbrev before : List ℕ
  before = exit_characters side old.chains strings

  abbrev moved : List ℕ
  moved = moved_by route.sources (flips_on side route) before

  -- the character for a bit of a new chain is that of its cell's old place
  moved_at : (d k : ℕ) → d < length new.chains → k < bits_at new d → get_or moved (start_of new.chains d + k) 0 ≡ moved_character side old new strings d (bits_at new d - 1 - k)
  moved_at d k l m =
      let at : ℕ = start_of new.chains d + k in
      let j : ℕ = bits_at new d - 1 - k in
      let cell : ℕ = get_or (chain_bits new d).cells j 0 in
      let c : ℕ = chain_of old cell in
      let i : ℕ = place_of old cell in
      let there : StandsAt new cell d j = record { is_chain = l; is_place = omega arith; is_there = refl } in
      let some : (b : ℕ) × (h : ℕ) × StandsAt old cell b h = standing old same.old_chains cell (omega (arith, same.cells, cell_within new same.new_chains cell d j there)) in
      let here : StandsAt old cell c i = stands_there old cell some.0 some.1 some.2 in
      let from : ℕ = start_of old.chains c + (bits_at old c - 1 - i) in
      let source : ℕ = get_or route.sources at 0 in
      let last : bits_at old c - 1 - i < bits_at old c = omega (arith, here.is_place) in
      let back : bits_at old c - 1 - (bits_at old c - 1 - i) ≡ i = omega (arith, here.is_place) in
      let inside : at < length route.sources = omega (arith, is.long, length-exit_cells new.chains, number_within new.chains d k l m) in
      let stands : get_or (exit_cells old.chains) from 0 ≡ cell = exit_cell old.chains c (bits_at old c - 1 - i) here.is_chain last ∙ ap (λ n. get_or (chain_bits old c).cells n 0) back ∙ here.is_there in
      let source_is : source ≡ from = one_place (exit_cells old.chains) source from (exits_apart old same.old_chains) (is.within at inside)
      (omega (arith, length-exit_cells old.chains, number_within old.chains c (bits_at old c - 1 - i) here.is_chain last)) (is.same at inside ∙ exit_cell new.chains d k l m ∙ sym stands) in
      let parity : get_or (exit_parities side old.chains) source false ≡ parity_at side (chain_bits old c) i =
      ap (λ s. get_or (exit_parities side old.chains) s false) source_is ∙ exit_parity side old.chains c (bits_at old c - 1 - i) here.is_chain last ∙ ap (parity_at side (chain_bits old c)) back in
      let flip : get_or (flips_on side route) at 0 ≡ from_bool (differ (parity_at side (chain_bits old c) i) (parity_at side (chain_bits new d) j)) =
      ap (λ q. get_or q at 0) (flips_are side old new route is)
      ∙ get_or-map-range_with_len (λ (n : ℕ). from_bool (differ (get_or (exit_parities side old.chains) (get_or route.sources n 0) false) (get_or (exit_parities side new.chains) n false))) 0 (length route.sources) at at 0 inside (omega arith)
      ∙ (λ t. from_bool (differ (parity t) (exit_parity side new.chains d k l m t))) in
      let character : get_or (map (λ s. get_or before s 0) route.sources) at 0 ≡ character_at side old strings c i =
      get_or-map (λ s. get_or before s 0) route.sources at 0 0 inside
      ∙ ap (λ s. get_or before s 0) source_is
      ∙ exit_character side old.chains strings c (bits_at old c - 1 - i) 0 fits here.is_chain last
      ∙ ap (λ n. character_at side old strings c n) back in
      get_or-zip2 flipped_where (map (λ s. get_or before s 0) route.sources) (flips_on side route) at 0 0 0 (omega (arith, length-map route.sources (λ s. get_or before s 0))) (omega (arith, length-flips_on side old new route is))
      ∙ (λ t. flipped_where (character t) (flip t))
      ∙ flip_by (differ (parity_at side (chain_bits old c) i) (parity_at side (chain_bits new d) j)) (character_at side old strings c i)

  -- ---- the characters of one chain

  end_within : (d : ℕ) → d < length new.chains → start_of new.chains d + bits_at new d ≤ length (numbers_of new.chains)
  end_within d l =
      let some : 0 < bits_at new d = (chain_is new same.new_chains d l).some in
      omega (arith, number_within new.chains d (bits_at new d - 1) l (omega arith))

  chain_moved : (d : ℕ) → d < length new.chains → take (bits_at new d) (drop (start_of new.chains d) moved) ≡ reverse (moved_characters side old new strings d)
  chain_moved d l =
      let bits : ℕ = bits_at new d in
      let start : ℕ = start_of new.chains d in
      let all : List ℕ = moved_characters side old new strings d in
      let n : length all ≡ bits = length-map-range_with_len (moved_character side old new strings d) 0 bits in
      let m : length (take bits (drop start moved)) ≡ bits = length-take-le bits (drop start moved) (omega (arith, length-drop start moved, moved_long side old new route strings is moved refl, end_within d l)) in
      ext_get_or 0 (take bits (drop start moved)) (reverse all) (m ∙ sym n ∙ sym (length-reverse all)) (λ k h.
      let inside : k < bits = omega arith in
      get_or-take bits (drop start moved) k 0 inside
      ∙ get_or-drop start moved k 0
      ∙ moved_at d k l inside
      ∙ sym (get_or-map-range_with_len (moved_character side old new strings d) 0 bits (bits - 1 - k) (bits - 1 - k) 0 (omega arith) (omega arith))
      ∙ ap (λ b. get_or all (b - 1 - k) 0) (sym n)
      ∙ sym (get_or-reverse all k 0 (omega arith)))

-- ---- one string

padded_is : (side : Side) (shifts : ℕ) (characters : List ℕ) → padded side (reverse characters) (shifts - length (reverse characters)) ≡ full_string side shifts characters
padded_is Load shifts characters = ap (λ n. replicate (shifts - n) (filler_of Load) ++ reverse characters) (length-reverse characters)
padded_is Compare shifts characters = ap (λ n. reverse characters ++ replicate (shifts - n) (filler_of Compare)) (length-reverse characters)

string_is : (side : Side) (old new : Chains) (strings : List (Option (List ℕ))) (d : ℕ) → string_from side (longest new) (is_some (get_or strings d None)) (reverse (moved_characters side old new strings d)) ≡ moved_string side old new strings d
string_is side old new strings d =
    let all : List ℕ = moved_characters side old new strings d in
    let any : list_any (says side) (reverse all) ≡ list_any (says side) all = sym (list_any-IsPermutation (says side) all (reverse all) (IsPermutation-reverse all)) in
    λ t. cond (is_some (get_or strings d None) || any t) (Some (padded_is side (longest new) all t)) None

-- whether it says something
pub says_is : (side : Side) (characters : List ℕ) (answer : Bool) → IsTrue answer ↔ ((k : ℕ) × (k < length characters) × (get_or characters k (filler_of side) ≢ filler_of side)) → answer ≡ list_any (says side) characters
says_is side characters answer law =
    same_truth answer (list_any (says side) characters)
    (λ yes.
    let at : (k : ℕ) × (k < length characters) × (get_or characters k (filler_of side) ≢ filler_of side) = law.0 yes in
    list_any_at (says side) characters at.0 (filler_of side) at.1 (ap not (ne_eqb (get_or characters at.0 (filler_of side)) (filler_of side) at.2)))
    (λ yes. law.1 (says_at side characters yes))

-- ---- all strings

-- one string more
pub strings_more : (side : Side) (shifts : ℕ) (chains : List ChainBits) (given : List (Option (List ℕ))) (all rest : List ℕ) (n : ℕ) (before after : List (Option (List ℕ))) (string : Option (List ℕ)) → n < length chains → n < length given
    → string ≡ string_from side shifts (is_some (get_or given n None)) (take (length (get_or chains n no_bits).cells) rest) → after ≡ before ++ string ∷ []
    → before ++ strings_from side shifts (drop n chains) (drop n given) rest ≡ strings_from side shifts chains given all
    → after ++ strings_from side shifts (drop (n + 1) chains) (drop (n + 1) given) (drop (length (get_or chains n no_bits).cells) rest) ≡ strings_from side shifts chains given all
strings_more side shifts chains given all rest n before after string l m at is has =
    let behind : List (Option (List ℕ)) = strings_from side shifts (drop (n + 1) chains) (drop (n + 1) given) (drop (length (get_or chains n no_bits).cells) rest) in
    ap (λ ss. ss ++ behind) is
    ∙ append_assoc before (string ∷ []) behind
    ∙ ap (λ s. before ++ s ∷ behind) at
    ∙ ap (λ ss. before ++ ss) (λ i. strings_from side shifts (sym (drop_more chains n no_bits l) i) (sym (drop_more given n None m) i) rest)
    ∙ has

pub strings_all : (side : Side) (shifts : ℕ) (chains : List ChainBits) (given : List (Option (List ℕ))) (all rest : List ℕ) (n : ℕ) (strings : List (Option (List ℕ))) → length chains ≤ n
    → strings ++ strings_from side shifts (drop n chains) (drop n given) rest ≡ strings_from side shifts chains given all → strings ≡ strings_from side shifts chains given all
strings_all side shifts chains given all rest n strings l has =
    sym (append-nil strings) ∙ ap (λ (cs : List ChainBits). strings ++ strings_from side shifts cs (drop n given) rest) (sym (drop_all n chains l)) ∙ has

-- how many bits are left behind one chain
pub bits_more : (chains : List ChainBits) (n : ℕ) → n < length chains → length (numbers_of (drop n chains)) ≡ length (get_or chains n no_bits).cells + length (numbers_of (drop (n + 1) chains))
bits_more chains n l =
    ap (λ (cs : List ChainBits). length (numbers_of cs)) (drop_more chains n no_bits l) ∙ length-append (get_or chains n no_bits).cells (numbers_of (drop (n + 1) chains))

length-strings_from : (side : Side) (shifts : ℕ) (chains : List ChainBits) (given : List (Option (List ℕ))) (all : List ℕ) → length given ≡ length chains → length (strings_from side shifts chains given all) ≡ length chains
length-strings_from side shifts [] given all e = refl
length-strings_from side shifts (chain ∷ chains) [] all e = absurd (omega arith)
length-strings_from side shifts (chain ∷ chains) (string ∷ given) all e = ap suc (length-strings_from side shifts chains given (drop (length chain.cells) all) (omega arith))

strings_at : (side : Side) (shifts : ℕ) (chains : List ChainBits) (given : List (Option (List ℕ))) (all : List ℕ) (d : ℕ) → length given ≡ length chains → d < length chains
    → get_or (strings_from side shifts chains given all) d None ≡ string_from side shifts (is_some (get_or given d None)) (take (length (get_or chains d no_bits).cells) (drop (start_of chains d) all))
strings_at side shifts [] given all d e l = absurd (omega arith)
strings_at side shifts (chain ∷ chains) [] all d e l = absurd (omega arith)
strings_at side shifts (chain ∷ chains) (string ∷ given) all zero e l = refl
strings_at side shifts (chain ∷ chains) (string ∷ given) all (suc d) e l =
    strings_at side shifts chains given (drop (length chain.cells) all) d (omega arith) (omega arith)
    ∙ ap (λ cs. string_from side shifts (is_some (get_or given d None)) (take (length (get_or chains d no_bits).cells) cs))
    (drop-drop (start_of chains d) (length chain.cells) all ∙ ap (λ n. drop n all) (sym (length-append chain.cells (numbers_of (take d chains)))))

pub strings_are : (side : Side) (old new : Chains) (route : Route) (strings : List (Option (List ℕ))) → HaveSameCells old new → IsRoute old new route → length strings ≡ length old.chains
    → strings_from side (longest new) new.chains strings (moved_by route.sources (flips_on side route) (exit_characters side old.chains strings)) ≡ moved_strings side old new strings
strings_are side old new route strings same is fits =
    let moved : List ℕ = moved_by route.sources (flips_on side route) (exit_characters side old.chains strings) in
    let as_many : length strings ≡ length new.chains = fits ∙ sym same.chains in
    let n : length (strings_from side (longest new) new.chains strings moved) ≡ length new.chains = length-strings_from side (longest new) new.chains strings moved as_many in
    ext_get_or None (strings_from side (longest new) new.chains strings moved) (moved_strings side old new strings) (n ∙ sym (length-map-range_with_len (moved_string side old new strings) 0 (length new.chains))) (λ d h.
    let l : d < length new.chains = omega arith in
    strings_at side (longest new) new.chains strings moved d as_many l
    ∙ ap (string_from side (longest new) (is_some (get_or strings d None))) (chain_moved side old new route strings same is fits d l)
    ∙ string_is side old new strings d
    ∙ sym (get_or-map-range_with_len (moved_string side old new strings) 0 (length new.chains) d d None l (omega arith)))

pub no_longer : (new : Chains) (shifts : ℕ) → shifts ≡ longest new → All (λ (chain : ChainBits). length chain.cells ≤ shifts) new.chains
no_longer new shifts e k d l =
    subst (λ (chain : ChainBits). length chain.cells ≤ shifts) (get_or_default new.chains k no_bits d l) (omega (arith, bits_within new k))
