-- The scan call that one on old chains becomes on new chains of the same cells (IEEE 1450-1999, Shift).
use Rattle.std.specs.Prelude.{◌≡◌, ℕ, ◌-◌, ◌<◌, ◌==◌, ◌||◌, ◌++◌, if◌then◌else◌, not, List, length, map, replicate, reverse, slice_index_or, is_some, Option, None, Some}
use Rattle.std.specs.List.{list_any, range_with_len}
use Rattle.stil_types.specs.declared.statement.ScanCall.{ScanCall}
use Rattle.stil_tester.specs.declared.chains.Chains.{Chains}
use Rattle.stil_tester.specs.Meaning.{ShowSame}
use Rattle.stil_tester.specs.Shifting.{IsCallFor}
use Rattle.retarget.specs.declared.side.Side.{Side}
use Rattle.retarget.specs.declared.side.Side.TheVariants.{Load, Compare}
use Rattle.retarget.specs.Places.{chain_bits, bits_at, chain_of, place_of, longest}
use Rattle.stil_tester.specs.Symbols.{differ}
use Rattle.retarget.specs.Judging.{IsAccepted}
use Rattle.retarget.specs.Retargeting.{flip_character_if, HaveSameCells}
use Rattle.retarget.specs.Sides.{filler_of, parity_at, character_at}

-- the character for the cell of a bit of the new chains, by the strings of the old ones: that of its old place, flipped where the parities of both places differ
abbrev pub moved_character : Side → Chains → Chains → List (Option (List ℕ)) → ℕ → ℕ → ℕ
moved_character side old new strings number place =
    let cell = slice_index_or (chain_bits new number).cells place 0 in
    let before = chain_bits old (chain_of old cell) in
    flip_character_if (differ (parity_at side before (place_of old cell)) (parity_at side (chain_bits new number) place)) (character_at side old strings (chain_of old cell) (place_of old cell))

-- the characters for the bits of a new chain, the first bit first
abbrev pub moved_characters : Side → Chains → Chains → List (Option (List ℕ)) → ℕ → List ℕ
moved_characters side old new strings number = map (moved_character side old new strings number) (range_with_len 0 (bits_at new number))

-- characters as a string of so many: that of the last bit first, after the fillers of a load, and before those of a compare
abbrev pub full_string : Side → ℕ → List ℕ → List ℕ
full_string Load shifts characters = replicate (shifts - length characters) (filler_of Load) ++ reverse characters
full_string Compare shifts characters = reverse characters ++ replicate (shifts - length characters) (filler_of Compare)

-- the string of a new chain; none where none was given and it would say nothing
abbrev pub moved_string : Side → Chains → Chains → List (Option (List ℕ)) → ℕ → Option (List ℕ)
moved_string side old new strings number =
    let characters = moved_characters side old new strings number in
    if is_some (slice_index_or strings number None) || list_any (λ character. not (character == filler_of side)) characters then Some (full_string side (longest new) characters) else None

-- the strings of all new chains
abbrev pub moved_strings : Side → Chains → Chains → List (Option (List ℕ)) → List (Option (List ℕ))
moved_strings side old new strings = map (moved_string side old new strings) (range_with_len 0 (length new.chains))

-- the call, where it shifts as often as the longest new chain has bits; a call that doesn't shift stays
unfoldable pub moved_call : Chains → Chains → ScanCall → ScanCall
moved_call old new call =
    if call.shifts == 0 then call else record { shifts = longest new; loads = moved_strings Load old new call.loads; compares = moved_strings Compare old new call.compares }

-- a call that stands for another one on new chains: it shows the same, fits and is accepted there, and shifts where the other one does
pub record StandsFor (old new : Chains) (call moved : ScanCall) : Type 0 where
  pub shows : ShowSame old new call moved
  pub fits : IsCallFor new moved
  pub accepted : IsAccepted new moved
  pub stays : call.shifts ≡ 0 → moved ≡ call
  pub shifts : 0 < call.shifts → 0 < moved.shifts

-- the moved call stands for each accepted call
abbrev pub MovedLaw : Type 0
MovedLaw = (old new : Chains) (call : ScanCall) → HaveSameCells old new → IsCallFor old call → IsAccepted old call → StandsFor old new call (moved_call old new call)
