use Rattle.std.proofs.Common.{◌≡◌, map, take}
use Rattle.path_chains.specs.Ranked.{key_of, seen, bits_of_all}
use Rattle.path_chains.proofs.ranked.keys_of.Given as goal

abbrev pub invariant-loop-path : goal.invariant-loop-path
invariant-loop-path l = map seen l.keys.items ≡ map (key_of l.netlist) (bits_of_all (take l.path-index l.paths))
