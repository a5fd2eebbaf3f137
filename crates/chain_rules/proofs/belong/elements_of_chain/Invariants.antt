use Rattle.std.proofs.Common.{◌≡◌, take}
use Rattle.std.specs.List.{flat_map}
use Rattle.chain_rules.specs.Stretches.{elements_in}
use Rattle.chain_rules.proofs.belong.elements_of_chain.Given as goal

abbrev pub invariant-loop-list : goal.invariant-loop-list
invariant-loop-list l = l.elements.items ≡ flat_map elements_in (take l.list-index l.list-items)
