use Rattle.std.proofs.Common.{◌≡◌, ◌++◌, map, take}
use Rattle.net_edit.specs.Applied.{tail_assign}
use Rattle.net_edit.proofs.applied.add_assigns.Given as goal

abbrev pub invariant-loop-tail : goal.invariant-loop-tail
invariant-loop-tail l = l.assigns ≡ l.fn.assigns ++ map (tail_assign l.netlist) (take l.tail-index l.tails)
