use Rattle.std.proofs.Common.{◌≡◌, ◌++◌, drop}
use Rattle.path_links.proofs.erasure.copy_nets.Given as goal

abbrev pub invariant-loop-net : goal.invariant-loop-net
invariant-loop-net l = l.copies ++ drop l.net-index l.nets ≡ l.nets
