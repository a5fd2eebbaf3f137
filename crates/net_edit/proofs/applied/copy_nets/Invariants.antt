use Rattle.std.proofs.Common.{◌≡◌, take}
use Rattle.net_edit.proofs.applied.copy_nets.Given as goal

abbrev pub invariant-loop-net : goal.invariant-loop-net
invariant-loop-net l = l.copies ≡ take l.net-index l.nets
