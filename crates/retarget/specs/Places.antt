-- Where the cells stand in the chains, and the parities before and behind them (IEEE 1450-1999, ScanStructures).
use Rattle.std.specs.Prelude.{◌≡◌, ℕ, ◌+◌, ◌<◌, ◌==◌, nat_lt, if◌then◌else◌, suc, Bool, List, [], ◌∷◌, length, take, drop, slice_index_or}
use Rattle.stil_tester.specs.declared.chains.ChainBits.{ChainBits}
use Rattle.stil_tester.specs.declared.chains.Chains.{Chains}
use Rattle.stil_types.specs.Calls.{most_bits}
use Rattle.stil_tester.specs.Symbols.{differ, parity_of}
use Rattle.stil_tester.specs.Shifting.{bit_counts, no_bits}

-- the parity from the scan input up to the bit at a place
abbrev pub parity_to : ChainBits → ℕ → Bool
parity_to chain place = parity_of (take (place + 1) chain.parity)

-- the parity from the bit at a place to the scan output
abbrev pub parity_after : ChainBits → ℕ → Bool
parity_after chain place = differ (parity_of (drop (place + 1) chain.parity)) chain.out_parity

-- a chain by its number; one without bits where there is none
abbrev pub chain_bits : Chains → ℕ → ChainBits
chain_bits chains number = slice_index_or chains.chains number no_bits

-- how many bits a chain has
abbrev pub bits_at : Chains → ℕ → ℕ
bits_at chains number = length (chain_bits chains number).cells

-- the cell is that of the bit at this place of this chain
pub record StandsAt (chains : Chains) (cell number place : ℕ) : Type 0 where
  pub is_chain : number < length chains.chains
  pub is_place : place < bits_at chains number
  pub is_there : slice_index_or (chain_bits chains number).cells place 0 ≡ cell

-- the first place of a cell among some cells; how many they are where it isn't one of them
abbrev pub place_in : ℕ → List ℕ → ℕ
place_in cell [] = 0
place_in cell (other ∷ others) = if cell == other then 0 else suc (place_in cell others)

-- the number of the first chain that has a cell
abbrev pub number_in : ℕ → List ChainBits → ℕ
number_in cell [] = 0
number_in cell (chain ∷ chains) = if nat_lt (place_in cell chain.cells) (length chain.cells) then 0 else suc (number_in cell chains)

-- the number of a cell's chain
abbrev pub chain_of : Chains → ℕ → ℕ
chain_of chains cell = number_in cell chains.chains

-- the place of a cell in its chain
abbrev pub place_of : Chains → ℕ → ℕ
place_of chains cell = place_in cell (chain_bits chains (chain_of chains cell)).cells

-- the bits of the longest chain
abbrev pub longest : Chains → ℕ
longest chains = most_bits (bit_counts chains)
