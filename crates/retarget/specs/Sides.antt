-- Loads and compares alike: their characters, and the parities between bits and ports.
use Rattle.std.specs.Prelude.{ℕ, ◌-◌, Bool, List, reverse, slice_index_or, Option, None}
use Rattle.stil_tester.specs.declared.chains.ChainBits.{ChainBits}
use Rattle.stil_tester.specs.declared.chains.Chains.{Chains}
use Rattle.stil_tester.specs.Symbols.{text_of}
use Rattle.retarget.specs.declared.side.Side.{Side}
use Rattle.retarget.specs.declared.side.Side.TheVariants.{Load, Compare}
use Rattle.retarget.specs.Places.{parity_to, parity_after, bits_at}

-- N or X, which says nothing of its place
abbrev pub filler_of : Side → ℕ
filler_of Load = 78
filler_of Compare = 88

-- the parity between the bit at a place and the port of its strings
abbrev pub parity_at : Side → ChainBits → ℕ → Bool
parity_at Load chain place = parity_to chain place
parity_at Compare chain place = parity_after chain place

-- the character of a string that belongs to the bit at a place of a chain of so many bits
abbrev pub character_in : Side → List ℕ → ℕ → ℕ → ℕ
character_in Load text bits place = slice_index_or (reverse text) place 78
character_in Compare text bits place = slice_index_or text (bits - 1 - place) 88

-- the character for a bit, among the strings of all chains
abbrev pub character_at : Side → Chains → List (Option (List ℕ)) → ℕ → ℕ → ℕ
character_at side chains strings chain place = character_in side (text_of (slice_index_or strings chain None)) (bits_at chains chain) place
