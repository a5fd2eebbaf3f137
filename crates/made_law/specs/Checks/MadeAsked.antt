-- What the chains of a made design, or the blocks of its patterns, ask for, and the paths that answer it.
use Rattle.std.specs.Prelude.{ℕ, List, map, Some}
use Rattle.traced_paths.specs.Asked.{Asked}
use Rattle.chain_trace.specs.declared.path.Path.{Path}
use Rattle.made_law.specs.Designs.Names.{in_port, out_port}
use Rattle.made_law.specs.Designs.Places.{Place, placed}
use Rattle.made_law.specs.Designs.MadeChains.{chain_numbers}
use Rattle.made_law.specs.Paths.MadePaths.{made_path}

-- chain k asks for its ports
abbrev pub asked_of : Place → ℕ → Asked
asked_of at k = record { input = Some (in_port k); output = Some (out_port k); line = at.line }

-- what the eight chains ask for, on any lines
abbrev pub made_asked : (ℕ → Place) → List Asked
made_asked at = placed asked_of at chain_numbers

-- the paths of the eight chains
abbrev pub made_paths : ℕ → List Path
made_paths n = map (made_path n) chain_numbers
