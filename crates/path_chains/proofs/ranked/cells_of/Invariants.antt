use Rattle.std.proofs.Common.{◌≡◌, map, take, count_by}
use Rattle.std.specs.Ordering.{is_lt}
use Rattle.path_chains.specs.Ranked.{key_of, key_cmp, seen}
use Rattle.path_chains.proofs.ranked.cells_of.Given as goal

abbrev pub invariant-loop-bit : goal.invariant-loop-bit
invariant-loop-bit l = l.cells ≡ map (λ bit. count_by (λ other. is_lt (key_cmp other (key_of l.netlist bit))) (map seen l.keys)) (take l.bit-index l.bits)
