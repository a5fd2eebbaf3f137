-- Eight chains: unit i stands in chain i mod 8, and the units of a chain follow in rising order.
use Rattle.std.specs.Prelude.{ℕ, ◌+◌, ◌-◌, ◌*◌, ◌/◌}

-- how many of n units stand in chain k
abbrev pub chain_length : ℕ → ℕ → ℕ
chain_length n k = (n + 7 - k) / 8

-- unit t of chain k, from 0
abbrev pub unit_of : ℕ → ℕ → ℕ
unit_of k t = k + 8 * t

-- the last unit of chain k
abbrev pub last_unit : ℕ → ℕ → ℕ
last_unit n k = unit_of k (chain_length n k - 1)

-- the MAXBITS of each chain: four more than the longest has
abbrev pub max_bits : ℕ → ℕ
max_bits n = (n + 7) / 8 + 4
