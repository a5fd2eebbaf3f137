-- The names in a made design.
use Rattle.std.specs.Prelude.{ℕ, List, ◌++◌, codes, decimal}

-- unit i
abbrev pub unit : ℕ → List ℕ
unit i = codes "u" ++ decimal i

-- the net that unit i drives
abbrev pub unit_net : ℕ → List ℕ
unit_net i = codes "q" ++ decimal i

-- the input port of chain k, and the net that it drives
abbrev pub in_port : ℕ → List ℕ
in_port k = codes "si" ++ decimal k

-- the output port of chain k
abbrev pub out_port : ℕ → List ℕ
out_port k = codes "so" ++ decimal k

-- chain k
abbrev pub chain_name : ℕ → List ℕ
chain_name k = codes "c" ++ decimal k

-- partition p
abbrev pub partition_name : ℕ → List ℕ
partition_name p = codes "P" ++ decimal p
