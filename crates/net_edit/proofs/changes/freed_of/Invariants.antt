use Rattle.std.proofs.Common.{◌≡◌, take}
use Rattle.net_edit.specs.Changes.{freed}
use Rattle.net_edit.proofs.changes.freed_of.Given as goal

abbrev pub invariant-loop-change : goal.invariant-loop-change
invariant-loop-change l = l.all.items ≡ freed l.netlist l.table (take l.change-index l.changes)
