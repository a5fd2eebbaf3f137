use Rattle.std.proofs.Common.{◌≡◌, ℕ, ◌<◌, get_or, false}
use Rattle.netlist_core.specs.declared.netlist.Assign.{Assign}
use Rattle.path_links.specs.Free.{is_one_net}
use Rattle.net_edit.proofs.nets.assign_at.Given as goal

abbrev pub invariant-loop-i : goal.invariant-loop-i
invariant-loop-i l = (k : ℕ) (d : Assign) → k < l.i → is_one_net l.net (get_or l.assigns k d).left.bits ≡ false
