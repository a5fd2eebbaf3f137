use Rattle.std.proofs.Common.{take}
use Rattle.def_reader.specs.Classes.{is_missing, has_other_cell, FailsOn}
use Rattle.list_laws.specs.Leasts.{IsLeast}
use Rattle.def_reader.proofs.agreement.least_apart.Given as goal

abbrev pub invariant-loop-instance : goal.invariant-loop-instance
invariant-loop-instance l = record {
  missing : IsLeast (FailsOn (is_missing l.components) (take l.instance-index l.instances)) l.missing;
  other : IsLeast (FailsOn (has_other_cell l.components) (take l.instance-index l.instances)) l.other;
}
