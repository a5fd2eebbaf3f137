use Rattle.std.proofs.Common.{◌≡◌, ℕ, List, Option, take}
use Rattle.netlist_core.specs.declared.netlist.NetId.{NetId}
use Rattle.path_links.specs.Edited.{map_from}
use Rattle.net_edit.specs.Applied.{HasPuts, put_instance}
use Rattle.net_edit.proofs.applied.put_instances.Given as goal

abbrev pub invariant-loop-place : goal.invariant-loop-place
invariant-loop-place l = (at : ℕ → List ℕ → Option NetId) → HasPuts at l.puts → l.copies ≡ map_from (put_instance at) 0 (take l.place l.instances)
