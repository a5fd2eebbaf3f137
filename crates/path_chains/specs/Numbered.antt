-- The chains of some paths, where each bit has a cell of its own.
use Rattle.std.specs.Prelude.{◌≡◌, ◌↔◌, Option, Some, None, false, ℕ, ◌<◌, List, Contains, map, length}
use Rattle.std.specs.List.{flat_map}
use Rattle.netlist_core.specs.declared.netlist.Netlist.{Netlist}
use Rattle.cell_table.specs.Cells.{Cells}
use Rattle.chain_trace.specs.declared.path.BitId.{BitId}
use Rattle.chain_trace.specs.declared.path.PathBits.{PathBits}
use Rattle.chain_trace.specs.declared.path.Step.{Step}
use Rattle.chain_trace.specs.declared.path.Path.{Path}
use Rattle.chain_trace.specs.Paths.{scan_path_at, StandOnce}
use Rattle.chain_trace.specs.Parities.{bits_in, parities, last_parity, path_marks}
use Rattle.net_edit.specs.Rearranged.{steps_of}
use Rattle.cell_table.specs.declared.paths.ScanPath.{ScanPath}
use Rattle.stil_tester.specs.declared.chains.ChainBits.{ChainBits}
use Rattle.stil_tester.specs.declared.chains.Chains.{Chains}
use Rattle.retarget.specs.Retargeting.{HaveSameCells}

-- the bits and parities of a path
abbrev pub bits_along : Netlist → Cells → Path → PathBits
bits_along n cells path = let ms = path_marks n cells path.steps in record { bits = bits_in ms; parity = parities false ms; out_parity = last_parity false ms }

-- the bits of some paths
abbrev pub bits_of_paths : Netlist → Cells → List Path → List BitId
bits_of_paths n cells paths = flat_map (λ path. (bits_along n cells path).bits) paths

-- each of the bits has a number below a count, no two the same, and each number is one's
pub record IsNumbering (number : BitId → ℕ) (count : ℕ) (bits : List BitId) : Type 0 where
  pub within : (bit : BitId) → Contains bits bit → number bit < count
  pub one : (a b : BitId) → Contains bits a → Contains bits b → number a ≡ number b → a ≡ b
  pub each : (cell : ℕ) → cell < count → (bit : BitId) × Contains bits bit × (number bit ≡ cell)

-- the chain of a path, by the numbers of its bits
abbrev pub chain_of : (BitId → ℕ) → PathBits → ChainBits
chain_of number bits = record { cells = map number bits.bits; parity = bits.parity; out_parity = bits.out_parity }

-- the chains of some paths
abbrev pub chains_of : Netlist → Cells → (BitId → ℕ) → ℕ → List Path → Chains
chains_of n cells number count paths = record { chains = map (λ path. chain_of number (bits_along n cells path)) paths; cells = count }

-- each path has a bit
abbrev pub HaveBits : Netlist → Cells → List Path → Type 0
HaveBits n cells paths = (path : Path) → Contains paths path → 0 < length (bits_along n cells path).bits

-- paths over the same steps, each once, have the same cells whatever their orders
abbrev pub CellsLaw : Type 0
CellsLaw = (n : Netlist) (cells : Cells) (number : BitId → ℕ) (count : ℕ) (old new : List Path) → length new ≡ length old → StandOnce (steps_of old) → StandOnce (steps_of new)
    → ((step : Step) → (Contains (steps_of new) step ↔ Contains (steps_of old) step)) → HaveBits n cells old → HaveBits n cells new → IsNumbering number count (bits_of_paths n cells old)
    → HaveSameCells (chains_of n cells number count old) (chains_of n cells number count new)

-- how many bits a scan path has
abbrev pub bit_count : Option ScanPath → ℕ
bit_count None = 0
bit_count (Some path) = length path.bits
