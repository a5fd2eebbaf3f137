use Rattle.std.proofs.Common.{take}
use Rattle.std.specs.Prelude.{All}
use Rattle.netlist_core.specs.Netlists.{IsInstance}
use Rattle.netlist_core.proofs.form.are_instances.Given as goal

abbrev pub invariant-loop-instance : goal.invariant-loop-instance
invariant-loop-instance l = All (IsInstance l.count) (take l.instance-index l.instances)
