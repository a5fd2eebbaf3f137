use Rattle.std.proofs.Common.{◌≡◌, map, take}
use Rattle.stil_calls.specs.Keys.{key_of}
use Rattle.stil_calls.proofs.twice.keys_of.Given as goal

abbrev pub invariant-loop-item : goal.invariant-loop-item
invariant-loop-item l = l.keys.items ≡ map (λ i. key_of i.name) (take l.item-index l.items)
