use Rattle.std.proofs.Common.{◌≡◌, map, take, count_by}
use Rattle.std.specs.Ordering.{is_lt}
use Rattle.path_chains.specs.Numbered.{chain_of}
use Rattle.path_chains.specs.Ranked.{key_of, key_cmp, seen}
use Rattle.path_chains.proofs.ranked.chains_by.Given as goal

abbrev pub invariant-loop-path : goal.invariant-loop-path
invariant-loop-path l = l.chains ≡ map (chain_of (λ bit. count_by (λ other. is_lt (key_cmp other (key_of l.netlist bit))) (map seen l.keys))) (take l.path-index l.paths)
