-- The scan paths of a made design.
use Rattle.std.specs.Prelude.{ℕ, false, map}
use Rattle.chain_trace.specs.declared.path.Step.{Step}
use Rattle.chain_trace.specs.declared.path.Path.{Path}
use Rattle.chain_trace.specs.declared.path.PathBits.{PathBits}
use Rattle.design_maker.specs.Chains.{unit_of}
use Rattle.made_law.specs.Designs.MadeChains.{element_numbers}
use Rattle.made_law.specs.Paths.MadeNetlist.{net_id, in_number, out_number}

-- step t of chain k: through its unit, and out by Q
abbrev pub made_step : ℕ → ℕ → Step
made_step k t = record { instance = unit_of k t; path = 0; out = 0 }

-- the path of chain k
abbrev pub made_path : ℕ → ℕ → Path
made_path n k = record { input = net_id (in_number k); output = net_id (out_number k); steps = map (made_step k) (element_numbers n k) }

-- its bits, one of each unit, with no inversion
abbrev pub made_bits : ℕ → ℕ → PathBits
made_bits n k =
    record {
      bits = map (λ t. record { instance = unit_of k t; path = 0; index = 0 }) (element_numbers n k);
      parity = map (λ t. false) (element_numbers n k);
      out_parity = false;
    }
