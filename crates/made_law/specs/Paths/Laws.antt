-- The scan paths of the netlist of a made design, wherever its statements stand, beside the made cell table.
use Rattle.std.specs.Prelude.{ℕ, ◌≤◌, ◌<◌}
use Rattle.netlist_core.specs.Netlists.{IsNetlist}
use Rattle.cell_table.specs.Table.{small_cells}
use Rattle.chain_trace.specs.Paths.{IsScanPath}
use Rattle.chain_trace.specs.Parities.{AreBitsOf}
use Rattle.made_law.specs.Paths.MadeNetlist.{NetlistPlaces, net_id, out_number, made_netlist}
use Rattle.made_law.specs.Paths.MadePaths.{made_path, made_bits}

-- the netlist of 8 to 16384 units is one
abbrev pub NetlistLaw : Type 0
NetlistLaw = (n : ℕ) (at : NetlistPlaces) → 8 ≤ n → n ≤ 16384 → IsNetlist (made_netlist at n)

-- the scan path of the output port of each chain leads from its input port over its units in rising order
abbrev pub PathLaw : Type 0
PathLaw = (n k : ℕ) (at : NetlistPlaces) → 8 ≤ n → n ≤ 16384 → k < 8 → IsScanPath (made_netlist at n) small_cells (net_id (out_number k)) (made_path n k)

-- and these are its bits
abbrev pub BitsLaw : Type 0
BitsLaw = (n k : ℕ) (at : NetlistPlaces) → 8 ≤ n → n ≤ 16384 → k < 8 → AreBitsOf (made_netlist at n) small_cells (made_path n k).steps (made_bits n k)
