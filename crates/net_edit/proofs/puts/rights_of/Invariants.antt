use Rattle.std.proofs.Common.{◌≡◌, ℕ, ◌==◌, take}
use Rattle.std.specs.HashMap.{get}
use Rattle.net_edit.specs.Applied.{assign_put}
use Rattle.net_edit.proofs.puts.rights_of.Given as goal

abbrev pub invariant-loop-edit : goal.invariant-loop-edit
invariant-loop-edit l = (q : ℕ) → get ◌==◌ l.rights q ≡ assign_put l.netlist (take l.edit-index l.ports) q
