use Rattle.std.proofs.Common.{◌≡◌, take, flat_map}
use Rattle.netlist_core.specs.Netlists.{pairs}
use Rattle.net_edit.specs.Changes.{changes_of}
use Rattle.net_edit.proofs.changes.changes_between.Given as goal

abbrev pub invariant-loop-i : goal.invariant-loop-i
invariant-loop-i l = l.all.items ≡ flat_map changes_of (pairs (take l.i l.old) (take l.i l.new))
