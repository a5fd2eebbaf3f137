use Rattle.made_law.proofs.paths.Leading.{path_is}
use Rattle.made_law.proofs.paths.Bits.{bits_of_path}
use Rattle.made_law.proofs.paths.Netlists.{netlist_is}
use Rattle.made_law.proofs.paths.made_paths_law.Goals as goal

pub returns : goal.returns
returns c = record { netlist = netlist_is; path = path_is; bits = bits_of_path }
