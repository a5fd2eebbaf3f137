-- Where each cell stands in the chains (IEEE 1450-1999, ScanStructures).
use Rattle.std.specs.Prelude.{◌≡◌, ◌≢◌, ℕ, ◌-◌, ◌<◌, ◌⊎◌, false, List, length, slice_index_or}
use Rattle.stil_tester.specs.declared.chains.ChainBits.{ChainBits}
use Rattle.stil_tester.specs.declared.chains.Chains.{Chains}
use Rattle.stil_tester.specs.Shifting.{AreChains}
use Rattle.retarget.specs.Places.{parity_to, parity_after, chain_bits, StandsAt, chain_of, place_of}
use Rattle.retarget.specs.declared.home.Home.{Home}

-- the home of the bit at a place of the chain of a number
abbrev pub home_in : ℕ → ChainBits → ℕ → Home
home_in number chain place =
    record { chain = number; place = place; exit = length chain.cells - 1 - place; load = parity_to chain place; compare = parity_after chain place }

-- the home of a cell: that of the bit where it stands
abbrev pub home_of : Chains → ℕ → Home
home_of chains cell = home_in (chain_of chains cell) (chain_bits chains (chain_of chains cell)) (place_of chains cell)

-- ---- as src/homes.rt works them out

-- what is read where a number is no cell's
abbrev pub no_home : Home
no_home = record { chain = 0; place = 0; exit = 0; load = false; compare = false }

-- the home of a cell, of a list
abbrev pub home_at : List Home → ℕ → Home
home_at homes cell = slice_index_or homes cell no_home

-- the homes of all cells, by their numbers
pub record AreHomes (chains : Chains) (homes : List Home) : Type 0 where
  pub good : AreChains chains
  pub long : length homes ≡ chains.cells
  pub each : (cell : ℕ) → cell < chains.cells → home_at homes cell ≡ home_of chains cell

-- the cell stands there
pub record IsHome (chains : Chains) (cell : ℕ) (home : Home) : Type 0 where
  pub stands : StandsAt chains cell home.chain home.place
  pub is : home ≡ home_in home.chain (chain_bits chains home.chain) home.place

-- a cell is none of the first bits of a chain, and its home stays
pub record IsKept (old new : List Home) (cells : List ℕ) (n v : ℕ) : Type 0 where
  pub none : (i : ℕ) → i < n → slice_index_or cells i 0 ≢ v
  pub stays : home_at new v ≡ home_at old v

-- a cell is one of the first bits of a chain, and has that home
pub record IsPut (number : ℕ) (chain : ChainBits) (new : List Home) (cells : List ℕ) (n v : ℕ) : Type 0 where
  pub place : ℕ
  pub within : place < n
  pub there : slice_index_or cells place 0 ≡ v
  pub home : home_at new v ≡ home_in number chain place

-- the first bits of a chain have got their homes, and no other cell another one
abbrev pub ArePut : ℕ → ChainBits → List Home → List Home → List ℕ → ℕ → Type 0
ArePut number chain old new cells n = (v : ℕ) → IsKept old new cells n v ⊎ IsPut number chain new cells n v
