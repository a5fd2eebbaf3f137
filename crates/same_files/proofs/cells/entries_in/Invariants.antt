use Rattle.std.proofs.Common.{◌≡◌, map, take}
use Rattle.path_chains.specs.Ranked.{bits_of_all}
use Rattle.same_files.specs.Cells.{entry_of, seen}
use Rattle.same_files.proofs.cells.entries_in.Given as goal

abbrev pub invariant-loop-path : goal.invariant-loop-path
invariant-loop-path l = map seen l.entries.items ≡ map (entry_of l.netlist) (bits_of_all (take l.path-index l.paths))
