use Rattle.std.proofs.Common.{◌≡◌, ◌++◌, map, take}
use Rattle.path_chains.specs.Ranked.{key_of, seen}
use Rattle.path_chains.proofs.ranked.put_keys.Given as goal

abbrev pub invariant-loop-bit : goal.invariant-loop-bit
invariant-loop-bit l = map seen l.keys.items ≡ map seen l.fn.keys.items ++ map (key_of l.netlist) (take l.bit-index l.bits)
