-- What strings of new chains hold that were moved there, of loads and compares alike.
use Rattle.std.proofs.Common.{◌≡◌, ◌≢◌, ℕ, ◌<◌, ◌≤◌, List, length, get_or, Option, None}
use Rattle.std.specs.Prelude.{◌↔◌, ◌⊎◌, IsSome, IfSome}
use Rattle.stil_types.specs.Calls.{compare_character}
use Rattle.stil_tester.specs.declared.chains.Chains.{Chains}
use Rattle.stil_tester.specs.Symbols.{differ, text_of}
use Rattle.retarget.specs.declared.side.Side.{Side}
use Rattle.retarget.specs.declared.side.Side.TheVariants.{Load, Compare}
use Rattle.retarget.specs.Places.{chain_bits, bits_at, StandsAt}
use Rattle.retarget.specs.Judging.{load_character}
use Rattle.retarget.specs.Retargeting.{flip_character_if}
use Rattle.retarget.specs.Sides.{filler_of, parity_at, character_in, character_at}

-- the characters of a string, a load's from its end
abbrev pub raw_at : Side → Option (List ℕ) → ℕ → ℕ
raw_at Load string number = load_character string number
raw_at Compare string number = compare_character string number

-- a string of the new chains holds what strings of the old chains hold for its cells
pub record IsMoved (side : Side) (old new : Chains) (shifts : ℕ) (strings : List (Option (List ℕ))) (d : ℕ) (string : Option (List ℕ)) : Type 0 where
  pub bits : (cell c i j : ℕ) → StandsAt old cell c i → StandsAt new cell d j
      → character_in side (text_of string) (bits_at new d) j ≡ flip_character_if (differ (parity_at side (chain_bits old c) i) (parity_at side (chain_bits new d) j)) (character_at side old strings c i)
  pub others : (k : ℕ) → bits_at new d ≤ k → raw_at side string k ≡ filler_of side
  pub stands : IsSome string ↔ (IsSome (get_or strings d None) ⊎ ((k : ℕ) × (raw_at side string k ≢ filler_of side)))
  pub full : IfSome string (λ text. length text ≡ shifts)

-- and so do all of them
pub record AreMoved (side : Side) (old new : Chains) (shifts : ℕ) (strings written : List (Option (List ℕ))) : Type 0 where
  pub long : length written ≡ length new.chains
  pub each : (d : ℕ) → d < length new.chains → IsMoved side old new shifts strings d (get_or written d None)
