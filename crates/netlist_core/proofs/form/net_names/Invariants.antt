use Rattle.std.proofs.Common.{◌≡◌, map, take}
use Rattle.netlist_core.proofs.form.net_names.Given as goal

abbrev pub invariant-loop-net : goal.invariant-loop-net
invariant-loop-net l = map (λ name. name.now) l.names.items ≡ map (λ net. net.plain) (take l.net-index l.nets)
