use Rattle.std.proofs.Common.{◌≡◌, ◌++◌, map, take}
use Rattle.net_edit.specs.Tails.{net_named}
use Rattle.net_edit.proofs.applied.add_nets.Given as goal

abbrev pub invariant-loop-tail : goal.invariant-loop-tail
invariant-loop-tail l = l.nets ≡ l.fn.nets ++ map (λ t. net_named t.tail) (take l.tail-index l.tails)
