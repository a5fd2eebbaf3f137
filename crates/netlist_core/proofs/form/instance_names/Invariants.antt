use Rattle.std.proofs.Common.{◌≡◌, map, take}
use Rattle.netlist_core.proofs.form.instance_names.Given as goal

abbrev pub invariant-loop-instance : goal.invariant-loop-instance
invariant-loop-instance l = map (λ name. name.now) l.names.items ≡ map (λ instance. instance.name) (take l.instance-index l.instances)
