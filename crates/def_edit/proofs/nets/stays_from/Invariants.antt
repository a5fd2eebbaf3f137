use Rattle.std.proofs.Common.{◌≡◌, ◌≤◌, ◌++◌, map, drop}
use Rattle.def_layout.specs.Nets.{connection_in}
use Rattle.def_edit.specs.NetChanges.{stays_by}
use Rattle.def_edit.specs.Lookups.{leaves_at}
use Rattle.def_edit.proofs.nets.stays_from.Given as goal

abbrev pub invariant-loop-connection : goal.invariant-loop-connection
invariant-loop-connection l = record {
  within : l.place ≤ l.connection-index;
  so_far : l.stays.items ++ stays_by (leaves_at l.leaving) l.place (map (connection_in l.bytes) (drop l.connection-index l.connections)) ≡ stays_by (leaves_at l.leaving) 0 (map (connection_in l.bytes) l.connections);
}
