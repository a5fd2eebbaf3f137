-- The bits of chains in the order in which they come out at the scan outputs, chain after chain: the words of the private functions of
-- src/exits.rt, src/route.rt and src/strings.rt. A string at full length holds the characters for its bits in this order.
use Rattle.std.specs.Prelude.{◌≡◌, ◌≢◌, ℕ, ◌-◌, ◌<◌, ◌==◌, ◌||◌, ◌++◌, if◌then◌else◌, not, Bool, false, List, [], ◌∷◌, length, map, take, drop, replicate, reverse, slice_index_or, is_some, Option, None, Some}
use Rattle.std.specs.Int.{from_bool}
use Rattle.std.specs.List.{flat_map, list_any, range_with_len}
use Rattle.std.specs.Simd.Lanes.{zip2}
use Rattle.lane_kernels.specs.Kernels.{flipped_where}
use Rattle.stil_tester.specs.declared.chains.ChainBits.{ChainBits}
use Rattle.stil_tester.specs.declared.chains.Chains.{Chains}
use Rattle.stil_tester.specs.Symbols.{differ, text_of}
use Rattle.retarget.specs.declared.route.Route.{Route}
use Rattle.retarget.specs.declared.side.Side.{Side}
use Rattle.retarget.specs.declared.side.Side.TheVariants.{Load, Compare}
use Rattle.retarget.specs.Places.{longest}
use Rattle.retarget.specs.Retargeting.{HaveSameCells}
use Rattle.retarget.specs.Sides.{filler_of, parity_at}

-- the cells of the bits
abbrev pub exit_cells : List ChainBits → List ℕ
exit_cells chains = flat_map (λ chain. reverse chain.cells) chains

-- the parities between the bits of a chain and the port of these strings
abbrev pub chain_parities : Side → ChainBits → List Bool
chain_parities side chain = map (λ k. parity_at side chain (length chain.cells - 1 - k)) (range_with_len 0 (length chain.cells))

-- and of all chains
abbrev pub exit_parities : Side → List ChainBits → List Bool
exit_parities side chains = flat_map (chain_parities side) chains

-- characters with so many fillers, which stand in front of a load and behind a compare
abbrev pub padded : Side → List ℕ → ℕ → List ℕ
padded Load characters fillers = replicate fillers (filler_of Load) ++ characters
padded Compare characters fillers = characters ++ replicate fillers (filler_of Compare)

-- the characters of a string that belong to bits, where there are so many: the last ones of a load, the first ones of a compare
abbrev pub reaching : Side → List ℕ → ℕ → List ℕ
reaching Load text bits = drop (length text - bits) text
reaching Compare text bits = take bits text

-- the characters of a string for so many bits, N or X where it is too short
abbrev pub chain_characters : Side → List ℕ → ℕ → List ℕ
chain_characters side text bits = padded side (reaching side text bits) (bits - length text)

-- the characters of the strings for all bits
abbrev pub exit_characters : Side → List ChainBits → List (Option (List ℕ)) → List ℕ
exit_characters side [] strings = []
exit_characters side (chain ∷ chains) [] = []
exit_characters side (chain ∷ chains) (string ∷ strings) = chain_characters side (text_of string) (length chain.cells) ++ exit_characters side chains strings

-- numbers that all differ
abbrev pub AreApart : List ℕ → Type 0
AreApart numbers = (i j : ℕ) → i < j → j < length numbers → slice_index_or numbers i 0 ≢ slice_index_or numbers j 0

-- for each cell the place of its bit
abbrev pub ArePlaces : List ℕ → List ℕ → Type 0
ArePlaces cells places = (k : ℕ) → k < length cells → slice_index_or places (slice_index_or cells k 0) 0 ≡ k

-- 1 where the parities of a bit and of its source differ, for all bits
abbrev pub flips_from : List ℕ → List Bool → List Bool → List ℕ
flips_from sources before after =
    map (λ k. from_bool (differ (slice_index_or before (slice_index_or sources k 0) false) (slice_index_or after k false))) (range_with_len 0 (length sources))

-- the way of characters from old chains to new ones: each bit of the new chains has for its source the bit of the old ones that has the same cell
pub record IsRoute (old new : Chains) (route : Route) : Type 0 where
  pub long : length route.sources ≡ length (exit_cells new.chains)
  pub within : (k : ℕ) → k < length route.sources → slice_index_or route.sources k 0 < length (exit_cells old.chains)
  pub same : (k : ℕ) → k < length route.sources → slice_index_or (exit_cells old.chains) (slice_index_or route.sources k 0) 0 ≡ slice_index_or (exit_cells new.chains) k 0
  pub loads : route.loads ≡ flips_from route.sources (exit_parities Load old.chains) (exit_parities Load new.chains)
  pub compares : route.compares ≡ flips_from route.sources (exit_parities Compare old.chains) (exit_parities Compare new.chains)

-- old and new chains, how often a retargeted call shifts, and the way between them
pub record IsMap (old new : Chains) (shifts : ℕ) (route : Route) : Type 0 where
  pub same : HaveSameCells old new
  pub longest_new : shifts ≡ longest new
  pub way : IsRoute old new route

-- the flips of these strings
abbrev pub flips_on : Side → Route → List ℕ
flips_on Load route = route.loads
flips_on Compare route = route.compares

-- characters by their sources, exchanged where a flip stands
abbrev pub moved_by : List ℕ → List ℕ → List ℕ → List ℕ
moved_by sources flips characters = zip2 flipped_where (map (λ source. slice_index_or characters source 0) sources) flips

-- the string of a chain from the characters for its bits; none where none was given and it would say nothing
abbrev pub string_from : Side → ℕ → Bool → List ℕ → Option (List ℕ)
string_from side shifts given characters =
    if given || list_any (λ character. not (character == filler_of side)) characters then Some (padded side characters (shifts - length characters)) else None

-- the strings of all chains from the characters for all bits
abbrev pub strings_from : Side → ℕ → List ChainBits → List (Option (List ℕ)) → List ℕ → List (Option (List ℕ))
strings_from side shifts [] strings characters = []
strings_from side shifts (chain ∷ chains) [] characters = []
strings_from side shifts (chain ∷ chains) (string ∷ strings) characters =
    string_from side shifts (is_some string) (take (length chain.cells) characters) ∷ strings_from side shifts chains strings (drop (length chain.cells) characters)
