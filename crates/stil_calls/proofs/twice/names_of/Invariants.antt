use Rattle.std.proofs.Common.{◌≡◌, map, take}
use Rattle.stil_calls.proofs.twice.names_of.Given as goal

abbrev pub invariant-loop-item : goal.invariant-loop-item
invariant-loop-item l = map (λ t. t.now) l.names.items ≡ map (λ i. i.name) (take l.item-index l.items)
