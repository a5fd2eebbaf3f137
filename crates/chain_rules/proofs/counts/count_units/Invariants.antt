use Rattle.std.proofs.Common.{◌≡◌, length, take}
use Rattle.std.specs.List.{flat_map}
use Rattle.chain_rules.specs.Stretches.{groups_in}
use Rattle.chain_rules.proofs.counts.count_units.Given as goal

abbrev pub invariant-loop-list : goal.invariant-loop-list
invariant-loop-list l = l.units ≡ length (flat_map groups_in (take l.list-index l.list-items))
